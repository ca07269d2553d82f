pub mod Handed
pub mod Scripts
pub mod Steps
mod WhereFit
mod Described
pub mod Room
mod Slices
