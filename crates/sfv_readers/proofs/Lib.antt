pub mod Puts
mod Runs
pub mod ListSteps
pub mod DictionarySteps
pub mod Found
pub mod Memory
