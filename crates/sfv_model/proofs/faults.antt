-- Faults whose index is by a rule, and the rows for the inside of a bare item.
-- how a property of a text and its fault passes through each combinator
pub mod Combinators
-- the same for a loop
pub mod Many
-- the faults of byte sequences
pub mod ByteSequences
-- a fault of a display string is that of its rule
pub mod DisplayFaultIsRule
-- a rule for a display string holds only where the reader has that fault
pub mod DisplayRuleIsFault
-- the faults of strings and display strings
pub mod Quoted
-- what follows a field with a member, and is not part of it
pub mod TrailingCommas
-- the text of an item ends with no space and no parenthesis
pub mod ItemEnds
-- the faults between the items of an inner list
pub mod BetweenInnerItems
-- members are read to the end of the text
pub mod MembersToEnd
-- the faults between the members of a field
pub mod Fields
-- the end cuts an inner list off
pub mod InnerListCutOff
-- no parameter and no parenthesis follows a whole field
pub mod NothingAfterField
-- pieces are read up to the fault of a step
pub mod PiecesToFault
-- the shape of a number, and what the reader gives for each
pub mod NumberShapes
-- a fault of a number or a date is a row of the table
pub mod NumberFaultIsRow
-- a fault of a bare item is a row of the table
pub mod BareFaultIsRow
-- each row of the table is a fault of the reader
pub mod BareRowIsFault
-- each rule of the table is a fault of the reader, except the trailing comma
pub mod BareRuleIsFault
-- what may be inside a bare item in place of a question mark or an asterisk
pub mod InsideBareItem
