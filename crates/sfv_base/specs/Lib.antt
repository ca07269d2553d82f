pub mod Conversions
pub mod Digits
pub mod Errors
pub mod Lanes
pub mod Numbers
pub mod ParseErrors
pub mod Rows
