use Rattle.std.proofs.Common.{rules}
use Rattle.sfv_spec.specs.declared.field_kind.FieldKind.TheVariants.{Dictionary as dictionary_field}
use Rattle.sfv_tree.proofs.Words.{entry_tree}
use Rattle.sfv_writer.proofs.{ReadBack.serialized, Separated.{first_of_some, first_of_none, anyway}}
use Rattle.sfv_writer.proofs.dictionary.dictionary_text.Goals as goal

pub returns-then-is_empty-clause-text : goal.returns-then-is_empty-clause-text
returns-then-is_empty-clause-text c = first_of_none entry_tree c.args.dictionary.now.entries (search rules)

pub returns-in_err-serialize-clause-out_of_memory : goal.returns-in_err-serialize-clause-out_of_memory
returns-in_err-serialize-clause-out_of_memory c = anyway _ _ (first_of_some _ _ (search rules))

pub returns-clause-text : goal.returns-clause-text
returns-clause-text c =
    let written = c.in_ok-serialize.ensures in
    serialized dictionary_field _ _ _ (first_of_some entry_tree c.args.dictionary.now.entries (search rules)) c.text_for_members-text.ensures.bytes
    written.text written.valid
