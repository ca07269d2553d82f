pub mod Ascii
pub mod Outside
pub mod Bytes
pub mod Copies
pub mod Parts
