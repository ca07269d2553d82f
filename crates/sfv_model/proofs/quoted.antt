-- The pieces of Strings and Display Strings.
pub mod Pieces
pub mod Traces
pub mod StringSteps
pub mod DisplaySteps
