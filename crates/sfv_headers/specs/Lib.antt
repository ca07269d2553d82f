pub mod Lines
pub mod Fields
pub mod Writing
pub mod Errors
