-- short names of types and their variants
pub mod Types
-- two lines of a field, joined by a comma and a space
pub mod Lines
-- the content of byte sequences
pub mod base64
-- a text of the grammar parses to its value
pub mod complete
-- a result depends only on the bytes up to its position and on the next byte
pub mod local
-- where in a field bare items and keys are read
pub mod places
-- the pieces of strings and display strings
pub mod quoted
-- the faults with their own index, and the rows inside a bare item
pub mod faults
-- an accepted text is in the grammar
pub mod sound
-- texts and runs of bytes
pub mod texts
-- the events that a visitor receives
pub mod visits
-- a bare item is the longest text of one
pub mod LongestBareItem
-- the reader of fields agrees with the grammar, and an exact fault is at the reach
pub mod Theorems
-- the faults of bytes after a field
pub mod TrailingBytes
-- the fault of the reader is that of the tables, and there is no other
pub mod FaultTable
-- a complete first bare item is read, whatever follows
pub mod FirstBareItem
-- examples of rejected texts
mod Examples
