use Rattle.std.proofs.Common.{[], sym, subst, inr, ◌⊎◌}
use Rattle.sfv.{specs.Field.list_field, proofs.Callers.has_visitor_error}
use Rattle.sfv_readers.{specs.Steps.ListTakes, proofs.Found.list_found, proofs.Memory.reader_fails}
use Rattle.sfv_readers.proofs.reading.read_list.Goals as goal

pub returns-in-Ok-clause-read : goal.returns-in-Ok-clause-read
returns-in-Ok-clause-read g c =
    list_found g.R.Items.InnerListReader.reads g.R.ListReader.keeps g.R.ListReader.reads c.args.reader c.new-2.ensures.items
    (subst (λ r. g.R.ListReader.reads c.args.reader r []) (sym c.new-2.ensures.reader) c.requires)
    (rw (c.with_version-parser.ensures, c.new.ensures) at c.in-Ok.ensures.visited)

pub returns-in-Err-Visitor-clause-memory : goal.returns-in-Err-Visitor-clause-memory
returns-in-Err-Visitor-clause-memory g c = λ same. inr (reader_fails (g.R.Items.InnerListReader.may_fail ⊎ g.R.ListReader.may_fail)
    (ListTakes g.R.Items.InnerListReader.reads g.R.ListReader.keeps g.R.ListReader.reads) c.new-2.result c.args.version list_field c.args.input.now c.parse_list_with_visitor.result c.in-Err-Visitor.error
    (rw c.in-Err-Visitor.field-0-is at c.in-Err-Visitor.is)
    (has_visitor_error _ _ list_field _ c.parse_list_with_visitor.result
    (rw (c.with_version-parser.ensures, c.new.ensures) at c.parse_list_with_visitor.ensures.visitor)))
