pub mod DecimalText
pub mod Masks
mod Rows
mod RunEnds
