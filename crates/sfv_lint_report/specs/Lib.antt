pub mod Checks
pub mod Reports
pub mod Prints
