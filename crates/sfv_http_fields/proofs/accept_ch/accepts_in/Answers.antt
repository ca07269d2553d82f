use Rattle.std.{proofs.Common.{sym, codes}, specs.Cow.cow_slice_items}
use Rattle.sfv_readers.specs.Field.{list_field}
use Rattle.sfv_headers.proofs.ReadErrors.{joining_fails}
use Rattle.sfv_http_fields.proofs.Needs.{joining_needs, text_needs}
use Rattle.sfv_http_fields.proofs.accept_ch.accepts_in.Goals as goal

pub returns-in_err-text-clause-rejected : goal.returns-in_err-text-clause-rejected
returns-in_err-text-clause-rejected c = joining_fails c.args.version list_field c.args.headers.now (codes "accept-ch")
    c.from_residual.result c.from_residual.ensures.1 c.in_err-text.ensures.memory

pub returns-in_err-text-clause-memory : goal.returns-in_err-text-clause-memory
returns-in_err-text-clause-memory c = joining_needs c.args.headers.now (codes "accept-ch") c.from_residual.result _
    c.from_residual.ensures.1 c.in_err-text.ensures.memory

pub returns-in-Some-clause-memory : goal.returns-in-Some-clause-memory
returns-in-Some-clause-memory c = text_needs c.args.headers.now (codes "accept-ch") (cow_slice_items c.in-Some.text)
    c.accepts.result (sym (rw c.in-Some.is at c.in_ok-text.ensures.text))
    (rw c.as_slice.ensures.value at c.accepts.ensures.memory)
