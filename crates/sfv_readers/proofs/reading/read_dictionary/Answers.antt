use Rattle.std.proofs.Common.{[], sym, subst, inr}
use Rattle.sfv.{specs.Field.dictionary_field, proofs.Callers.has_visitor_error}
use Rattle.sfv_readers.{specs.Steps.DictionaryTakes, proofs.Found.dictionary_found, proofs.Memory.reader_fails}
use Rattle.sfv_readers.proofs.reading.read_dictionary.Goals as goal

pub returns-in-Ok-clause-read : goal.returns-in-Ok-clause-read
returns-in-Ok-clause-read g c = dictionary_found g.R.Items.InnerListReader.reads g.R.DictionaryReader.text
    g.R.DictionaryReader.reads c.args.reader (subst (λ r. g.R.DictionaryReader.reads c.args.reader r [])
    (sym c.new-2.ensures) c.requires) (rw (c.with_version-parser.ensures, c.new.ensures) at c.in-Ok.ensures.visited)

pub returns-in-Err-Visitor-clause-memory : goal.returns-in-Err-Visitor-clause-memory
returns-in-Err-Visitor-clause-memory g c = λ same. inr (reader_fails g.R.Items.InnerListReader.may_fail
    (DictionaryTakes g.R.Items.InnerListReader.reads g.R.DictionaryReader.text g.R.DictionaryReader.reads) c.new-2.result c.args.version dictionary_field c.args.input.now c.parse_dictionary_with_visitor.result c.in-Err-Visitor.error
    (rw c.in-Err-Visitor.field-0-is at c.in-Err-Visitor.is)
    (has_visitor_error _ _ dictionary_field _ c.parse_dictionary_with_visitor.result
    (rw (c.with_version-parser.ensures, c.new.ensures) at c.parse_dictionary_with_visitor.ensures.visitor)))
