-- What a visitor is given by each reading.
pub mod Taken
pub mod Parts
pub mod Loops
pub mod InnerLists
pub mod Keyed
pub mod Parameters
pub mod Chained
pub mod Begun
pub mod Received
pub mod Fields
pub mod Failed
pub mod First
pub mod Whole
pub mod BorrowedBareItem
pub mod Passed
pub mod AsRead
