-- The content of Byte Sequences.
pub mod Bits
pub mod Shape
pub mod Contents
pub mod Lone
