-- Texts and runs of bytes.
pub mod Joining
pub mod Ranges
pub mod Utf8
