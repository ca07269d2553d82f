pub mod Places
pub mod Stops
pub mod Bytes
mod Kept
pub mod Unique
pub mod Invalid
pub mod Valid
pub mod Accepted
pub mod RowEvents
pub mod WrongRows
pub mod Fields
pub mod Runs
pub mod Receivers
