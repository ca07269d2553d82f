-- Parsing to trees: what the functions of `parser::tree` have read and built.
pub mod Parameters
pub mod Loops
pub mod Parts
pub mod Errors
pub mod Fields
pub mod Items
pub mod Needs
