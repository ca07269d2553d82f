pub mod Joining
pub mod Writes
pub mod ReadErrors
