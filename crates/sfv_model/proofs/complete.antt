-- What the grammar has is read.
pub mod Combinators
pub mod ByteSequences
pub mod Quoted
pub mod Numbers
pub mod Bare
pub mod Items
pub mod Members
pub mod Fields
