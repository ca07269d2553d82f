pub mod built
pub mod visits
pub mod trees
pub mod reads
pub mod Relations
pub mod Parsed
pub mod Memory
pub mod Expected
pub mod LastRead
pub mod Fields
pub mod Lines
mod Emptiness
pub mod Elements
pub mod Needed
pub mod Callers
