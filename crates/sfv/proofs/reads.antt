-- What a reader gives, by what the code found out.
pub mod Runs
pub mod Steps
pub mod Contents
pub mod Coded
pub mod Blocks
pub mod Escapes
pub mod Errors
pub mod Delimiters
