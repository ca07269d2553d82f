pub mod Parts
pub mod Uses
mod RowItems
mod Pairs
mod Foos
mod Called
mod Exits
mod Ambiguous
