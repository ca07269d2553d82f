-- Definitions of the parser's private contracts.
pub mod Values
pub mod Cursor
pub mod Base64
pub mod Quoted
pub mod Members
pub mod Visits
pub mod AsRead
pub mod Trees
