use Rattle.std.proofs.Common.{string_bytes, option_map}
use Rattle.sfv_writer.proofs.Checks.{look_fails, memory_fails, named_has_member}
use Rattle.sfv_writer.proofs.{ReadBack.serialized_for, Separated.anyway}
use Rattle.sfv.specs.Field.{dictionary_field, dictionary_tree}
use Rattle.sfv.proofs.field_type.DictionaryFieldType.serialize_for.Goals as goal

pub returns-in_err-check_dictionary-clause-unsupported : goal.returns-in_err-check_dictionary-clause-unsupported
returns-in_err-check_dictionary-clause-unsupported c =
    look_fails _ _ _ _ c.from_residual.ensures.1 c.in_err-check_dictionary.ensures

pub returns-in_err-check_dictionary-clause-failed : goal.returns-in_err-check_dictionary-clause-failed
returns-in_err-check_dictionary-clause-failed c = anyway _ _ (named_has_member c.args.version dictionary_field
    (dictionary_tree c.args.self.now.entries) _ c.in_err-check_dictionary.ensures)

pub returns-in_err-text-clause-unsupported : goal.returns-in_err-text-clause-unsupported
returns-in_err-text-clause-unsupported c =
    memory_fails _ _ _ c.from_residual-in_err-text.ensures.1 c.in_ok-check_dictionary.ensures

pub returns-in_err-text-clause-failed : goal.returns-in_err-text-clause-failed
returns-in_err-text-clause-failed c = anyway _ _ c.in_err-text.ensures.out_of_memory

pub returns-clause-text : goal.returns-clause-text
returns-clause-text c = serialized_for c.args.version dictionary_field (dictionary_tree c.args.self.now.entries)
    (option_map string_bytes c.in_ok-text.text) c.in_ok-check_dictionary.ensures c.in_ok-text.ensures.text
