-- The definitions of a field crate's clauses, in one file. Definitions of `std` come from `Rattle.std.specs.Prelude`.
-- fields and their values
pub use Rattle.sfv_spec.specs.declared.field_kind.FieldKind.{FieldKind}
pub use Rattle.sfv_spec.specs.declared.field_kind.FieldKind.TheVariants.{Item as item_field, List as list_field}
pub use Rattle.sfv_spec.specs.declared.field_kind.FieldKind.TheVariants.{Dictionary as dictionary_field}
pub use Rattle.sfv_spec.specs.declared.version.Version.{Version}
pub use Rattle.sfv_spec.specs.declared.version.Version.TheVariants.{Rfc8941, Rfc9651}
pub use Rattle.sfv_spec.specs.Values.{BareValue, integer, decimal, string, token, byte_sequence, boolean, date}
pub use Rattle.sfv_spec.specs.Values.{display_string, RawParameters, RawItem, RawInnerList, RawMember, item, inner_list}
pub use Rattle.sfv_spec.specs.Values.{RawField, IsFieldValue, HasMember}
pub use Rattle.sfv_spec.specs.Grammar.{IsFieldText, IsAccepted}
unfoldable pub use Rattle.sfv_spec.specs.Ordered.{last_of}
pub use Rattle.sfv_spec.specs.Ordered.{ordered, ordered_member}
pub use Rattle.sfv_spec.specs.Statements.{IsParsedAs, IsValue, IsSerializedAs}
pub use Rattle.sfv_spec.specs.Canonical.{canonical, member_text, inner_list_text}
pub use Rattle.sfv_spec.specs.Values.{Fits}
pub use Rattle.sfv_spec.specs.Faults.{IsFaultAt}
pub use Rattle.sfv_spec.specs.declared.error_kind.ErrorKind.{ErrorKind}
-- events
pub use Rattle.sfv_spec.specs.Events.{TreeEvent, entry, keyed_entry, begins_item, begins_inner_list, bare_item}
pub use Rattle.sfv_spec.specs.Events.{parameter, parameters_end, inner_list_end, parameters_events, member_events}
pub use Rattle.sfv_spec.specs.Events.{entry_events, keyed_events, events}
-- the values of Rust types
pub use Rattle.sfv_base.specs.Numbers.{integer_of, thousandths_of, seconds_of}
pub use Rattle.sfv_base.specs.Errors.{index_of, kind_of, out_of_memory}
pub use Rattle.sfv_values.specs.CheckedTexts.{text_of}
pub use Rattle.sfv_values.specs.BareItems.{bare_value, ref_value, input_value, read_text}
pub use Rattle.sfv_tree.specs.Builders.{plain_item}
pub use Rattle.sfv_tree.specs.Trees.{item_tree, inner_list_tree, member_tree, list_tree, dictionary_tree, pairs_tree}
-- the results of a parser
pub use Rattle.sfv.specs.Parsers.{IsParseError, IsAnswerBy, IsSyntaxErrorBy, IsVisitorErrorBy}
pub use Rattle.sfv.specs.Memory.{NeedsMemory}
-- writing
pub use Rattle.sfv_serializer.specs.Scripts.{item_of_calls, member_of_calls, described_list, described_dictionary}
pub use Rattle.sfv_writer.specs.Written.{AppendsOrKeeps, IsSerialized}
