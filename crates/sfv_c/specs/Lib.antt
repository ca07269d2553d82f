pub mod Numbers
pub mod Answers
pub mod Receivers
pub mod Rows
pub mod Events
pub mod Writing
pub mod RowEvents
