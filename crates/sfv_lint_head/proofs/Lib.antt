pub mod Joining
pub mod Steps
