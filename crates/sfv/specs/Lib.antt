-- Definitions of this crate for callers: the types of public values, and the results of parsers.
pub mod Types
pub mod Memory
pub mod Parsers
pub mod Field
-- Definitions of private contracts.
pub mod parser
-- The definitions of lower crates, and of the map, that public clauses use. So a caller imports from this crate only.
pub use Rattle.sfv_spec.specs.Ascii
pub use Rattle.sfv_spec.specs.Base64
pub use Rattle.sfv_spec.specs.Canonical
pub use Rattle.sfv_spec.specs.Classes
pub use Rattle.sfv_spec.specs.Events
pub use Rattle.sfv_spec.specs.Faults
pub use Rattle.sfv_spec.specs.Grammar
pub use Rattle.sfv_spec.specs.Messages
pub use Rattle.sfv_spec.specs.Numbers
pub use Rattle.sfv_spec.specs.Ordered
pub use Rattle.sfv_spec.specs.Reach
pub use Rattle.sfv_spec.specs.Statements
pub use Rattle.sfv_spec.specs.Strings
pub use Rattle.sfv_spec.specs.Texts
pub use Rattle.sfv_spec.specs.Values
pub use Rattle.sfv_spec.proofs.Runs as EventRuns
pub use Rattle.sfv_base.specs.Conversions
pub use Rattle.sfv_base.specs.Errors
pub use Rattle.sfv_base.specs.Numbers as NumberValues
pub use Rattle.sfv_base.specs.ParseErrors
pub use Rattle.sfv_values.specs.CheckedTexts
pub use Rattle.sfv_values.specs.Hashes
pub use Rattle.sfv_values.specs.InvalidTexts
pub use Rattle.sfv_values.specs.KeyText
pub use Rattle.sfv_values.specs.StringText
pub use Rattle.sfv_values.specs.TokenText
pub use Rattle.sfv_values.specs.BareItems
pub use Rattle.sfv_values.specs.Kinds
pub use Rattle.sfv_tree.specs.Builders
pub use Rattle.sfv_tree.specs.Events as EventValues
pub use Rattle.sfv_tree.specs.HashSeeds
pub use Rattle.sfv_tree.specs.Seeds
pub use Rattle.sfv_tree.specs.ItemFaults
pub use Rattle.sfv_tree.specs.Trees
pub use Rattle.sfv_tree.specs.ProvidedVisitors
pub use Rattle.sfv_writer.specs.Versions
pub use Rattle.sfv_writer.specs.Written
pub use Rattle.sfv_writer.specs.SingleMembers
pub use Rattle.sfv_serializer.specs.Scripts
pub use Rattle.sfv_serializer.specs.Serializers
pub use Rattle.sfv_serializer.specs.Texts as LentTexts
pub use Rattle.indexmap.specs.IndexMap as Maps
