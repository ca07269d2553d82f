-- The types of public values with their variants, by their names in specs.
pub use Rattle.sfv_base.specs.declared.date.Date.{Date}
pub use Rattle.sfv_base.specs.declared.decimal.Decimal.{Decimal}
pub use Rattle.sfv_base.specs.declared.integer.Integer.{Integer}
pub use Rattle.sfv_base.specs.declared.error.Error.{Error}
pub use Rattle.sfv_spec.specs.declared.error_kind.ErrorKind.{ErrorKind}
pub use Rattle.sfv_spec.specs.declared.error_kind.ErrorKind.TheVariants as error_kinds
pub use Rattle.sfv_base.specs.declared.error.OutOfMemory.{OutOfMemory}
pub use Rattle.sfv_base.specs.declared.error.ParseError.{ParseError}
pub use Rattle.sfv_base.specs.declared.error.ParseError.TheVariants as parse_errors
pub use Rattle.sfv_spec.specs.declared.field_kind.FieldKind.{FieldKind}
pub use Rattle.sfv_spec.specs.declared.field_kind.FieldKind.TheVariants as field_kinds
pub use Rattle.sfv_spec.specs.declared.field_kind.FieldKind.TheVariants.{Item as item_field, List as list_field}
pub use Rattle.sfv_spec.specs.declared.field_kind.FieldKind.TheVariants.{Dictionary as dictionary_field}
pub use Rattle.sfv_values.specs.declared.bare.BareItemType.{BareItemType}
pub use Rattle.sfv_values.specs.declared.bare.BareItemType.TheVariants as bare_item_types
pub use Rattle.sfv_values.specs.declared.bare.GenericBareItem.{GenericBareItem}
pub use Rattle.sfv_values.specs.declared.bare.GenericBareItem.TheVariants as bare_items
pub use Rattle.sfv_values.specs.declared.bare.StringFromInput.{StringFromInput}
pub use Rattle.sfv_spec.specs.declared.version.Version.{Version}
pub use Rattle.sfv_spec.specs.declared.version.Version.TheVariants as versions
pub use Rattle.sfv_spec.specs.declared.version.Version.TheVariants.{Rfc8941, Rfc9651}
pub use Rattle.sfv_tree.specs.declared.hash_seed.HashSeed.{HashSeed}
pub use Rattle.sfv_tree.specs.declared.parsed.Item.{Item}
pub use Rattle.sfv_tree.specs.declared.parsed.InnerList.{InnerList}
pub use Rattle.sfv_tree.specs.declared.parsed.ListEntry.{ListEntry}
pub use Rattle.sfv_tree.specs.declared.parsed.ListEntry.TheVariants as list_entries
pub use Rattle.sfv_tree.specs.declared.visitor.ItemFault.{ItemFault}
pub use Rattle.sfv_tree.specs.declared.visitor.ItemFault.TheVariants as item_faults
pub use Rattle.sfv_tree.specs.declared.visitor.item_builder.ItemBuilder.{ItemBuilder}
pub use Rattle.sfv_tree.specs.declared.visitor.list_builder.ListBuilder.{ListBuilder}
pub use Rattle.sfv_tree.specs.declared.visitor.dictionary_builder.DictionaryBuilder.{DictionaryBuilder}
pub use Rattle.sfv_tree.specs.declared.expect_item.ExpectItem.{ExpectItem}
pub use Rattle.sfv_tree.specs.declared.item_visitor.ItemVisitorWith.{ItemVisitorWith}
pub use Rattle.sfv_tree.specs.declared.parameter_visitor.ParameterVisitorWith.{ParameterVisitorWith}
pub use Rattle.sfv_writer.specs.declared.serialize_error.SerializeError.{SerializeError}
pub use Rattle.sfv_writer.specs.declared.serialize_error.SerializeError.TheVariants as serialize_errors
pub use Rattle.sfv_serializer.specs.declared.script.ParamCall.{ParamCall}
pub use Rattle.sfv_serializer.specs.declared.script.ItemCalls.{ItemCalls}
pub use Rattle.sfv_serializer.specs.declared.script.MemberCalls.{MemberCalls}
pub use Rattle.sfv_serializer.specs.declared.script.MemberCalls.TheVariants as script_members
pub use Rattle.sfv_serializer.specs.declared.sink.Sink.{Ghosts as Sink}
