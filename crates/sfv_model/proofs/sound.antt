-- What is read is what the grammar has.
pub mod Combinators
pub mod Steps
pub mod Many
pub mod Separated
pub mod ByteSequences
pub mod Quoted
pub mod Numbers
pub mod Bare
pub mod Items
pub mod Members
pub mod Fields
