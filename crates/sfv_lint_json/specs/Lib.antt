pub mod Base32
pub mod Json
pub mod Trees
