-- The definitions for the clauses of a field crate: the library's, and more for members. Field crates import this file.
pub use Rattle.sfv.specs.Field.{Version, Rfc8941, Rfc9651, FieldKind, item_field, list_field, dictionary_field}
pub use Rattle.sfv.specs.Field.{BareValue, integer, decimal, string, token, byte_sequence, boolean, date}
pub use Rattle.sfv.specs.Field.{display_string, RawParameters, RawItem, RawInnerList, RawMember, item, inner_list}
pub use Rattle.sfv.specs.Field.{RawField, IsFieldValue, HasMember, IsFieldText, IsAccepted}
unfoldable pub use Rattle.sfv.specs.Field.{last_of}
pub use Rattle.sfv.specs.Field.{ordered, ordered_member, IsParsedAs, IsValue, IsSerializedAs, canonical, Fits}
pub use Rattle.sfv.specs.Field.{member_text, inner_list_text, inner_list_tree, NeedsMemory}
pub use Rattle.sfv.specs.Field.{ErrorKind, IsFaultAt, TreeEvent, entry, keyed_entry, begins_item, begins_inner_list}
pub use Rattle.sfv.specs.Field.{bare_item, parameter, parameters_end, inner_list_end, parameters_events, member_events}
pub use Rattle.sfv.specs.Field.{entry_events, keyed_events, events, integer_of, thousandths_of, seconds_of, index_of}
pub use Rattle.sfv.specs.Field.{kind_of, out_of_memory, text_of, bare_value, ref_value, input_value, read_text}
pub use Rattle.sfv.specs.Field.{plain_item, item_tree, member_tree, list_tree, dictionary_tree, pairs_tree}
pub use Rattle.sfv.specs.Field.{IsParseError, IsAnswerBy, IsSyntaxErrorBy, IsVisitorErrorBy, item_of_calls}
pub use Rattle.sfv.specs.Field.{member_of_calls, described_list, described_dictionary, AppendsOrKeeps, IsSerialized}
-- members and their parts
pub use Rattle.sfv_readers.specs.Words.{Head, of_item, of_inner_list, member_of, head_of, parameters_of, raw_item, put}
pub use Rattle.sfv_readers.specs.Words.{IsReadBy, ErrorNeedsMark, NeedsMarkUnless}
