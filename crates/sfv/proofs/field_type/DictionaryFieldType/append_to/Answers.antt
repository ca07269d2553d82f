use Rattle.sfv_tree.proofs.Words.{entry_tree}
use Rattle.sfv_writer.proofs.ReadBack.{value_read_back}
use Rattle.sfv.{specs.Field.{dictionary_field, dictionary_tree}, proofs.Emptiness.first_unless_empty}
use Rattle.sfv.proofs.field_type.DictionaryFieldType.append_to.Goals as goal

pub returns-clause-has_member : goal.returns-clause-has_member
returns-clause-has_member c = first_unless_empty entry_tree c.args.self.now.entries c.is_empty.result c.is_empty.ensures

pub returns-clause-read_back : goal.returns-clause-read_back
returns-clause-read_back c = value_read_back c.args.version dictionary_field (dictionary_tree c.args.self.now.entries)
    c.in_ok-append_dictionary.ensures.value c.in_ok-append_dictionary.ensures.unsupported
