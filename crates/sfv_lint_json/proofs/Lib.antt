pub mod Floats
pub mod Groups
