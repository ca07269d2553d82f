pub mod Clones
pub mod Entered
pub mod Distinct
pub mod Removed
pub mod Words
mod Members
pub mod Seeded
