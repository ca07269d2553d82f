pub mod Verifying
pub mod Steps
