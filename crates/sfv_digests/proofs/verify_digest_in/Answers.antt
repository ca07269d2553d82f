use Rattle.std.specs.Cow.{cow_slice_items}
use Rattle.sfv_http_fields.proofs.Needs.{joining_needs, text_needs}
use Rattle.sfv_digests.{specs.Verifying.name_of, proofs.Headers.{named_text, verified_in, named_lines}}
use Rattle.sfv_digests.proofs.verify_digest_in.Goals as goal

pub returns-in-Some-clause-verified : goal.returns-in-Some-clause-verified
returns-in-Some-clause-verified c = verified_in c.args.content.now c.args.headers.now (name_of c.args.field)
    (cow_slice_items c.in-Some.text) c.verify_digest.result
    (named_text c.args.field c.args.headers.now c.name.result.now c.in_ok-text.field-0 c.in-Some.text c.name.ensures
    c.in_ok-text.ensures.text c.in-Some.is)
    (rw c.as_slice.ensures.value at c.verify_digest.ensures.verified)

pub returns-in-Some-clause-memory : goal.returns-in-Some-clause-memory
returns-in-Some-clause-memory c = text_needs c.args.headers.now (name_of c.args.field) (cow_slice_items c.in-Some.text)
    c.verify_digest.result
    (named_text c.args.field c.args.headers.now c.name.result.now c.in_ok-text.field-0 c.in-Some.text c.name.ensures
    c.in_ok-text.ensures.text c.in-Some.is)
    (rw c.as_slice.ensures.value at c.verify_digest.ensures.memory)

pub returns-in_err-text-clause-memory : goal.returns-in_err-text-clause-memory
returns-in_err-text-clause-memory c = joining_needs c.args.headers.now (name_of c.args.field) c.from_residual.result _
    c.from_residual.ensures.1
    (named_lines c.args.field c.args.headers.now c.name.result.now c.name.ensures c.in_err-text.ensures.memory)
