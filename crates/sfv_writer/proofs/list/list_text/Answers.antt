use Rattle.std.proofs.Common.{rules}
use Rattle.sfv_spec.specs.declared.field_kind.FieldKind.TheVariants.{List as list_field}
use Rattle.sfv_tree.specs.Trees.{member_tree}
use Rattle.sfv_writer.proofs.{ReadBack.serialized, Separated.{first_of_some, first_of_none, anyway}}
use Rattle.sfv_writer.proofs.list.list_text.Goals as goal

pub returns-then-is_empty-clause-text : goal.returns-then-is_empty-clause-text
returns-then-is_empty-clause-text c = first_of_none member_tree c.args.list.now.items (search rules)

pub returns-in_err-serialize-clause-out_of_memory : goal.returns-in_err-serialize-clause-out_of_memory
returns-in_err-serialize-clause-out_of_memory c = anyway _ _ (first_of_some _ _ (search rules))

pub returns-clause-text : goal.returns-clause-text
returns-clause-text c =
    let written = c.in_ok-serialize.ensures in
    serialized list_field _ _ _ (first_of_some member_tree c.args.list.now.items (search rules)) c.text_for_members-text.ensures.bytes
    written.text written.valid
