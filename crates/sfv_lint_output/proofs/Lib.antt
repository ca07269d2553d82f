pub mod Blocks
pub mod Documents
pub mod Failing
pub mod Outputs
