use Rattle.std.proofs.Common.{◌≤◌, refl, sym, ap, subst, ◌∙◌, string_bytes, string_capacity}
use Rattle.sfv_writer.proofs.Checks.{at_exit}
use Rattle.sfv_serializer.proofs.sequence.SequenceSerializer.append_each.Goals as goal

pub returns-clause-text : goal.returns-clause-text
returns-clause-text g c =
    let w = c.in_ok-none.ensures.text in
    let sink = c.args.self.now.sink in
    let text = c.append_each.new.text in
    let more = rw (c.text_mut.ensures.text, c.separator-separator.ensures) at w.written.1 in record {
      taken = w.taken;
      drained = w.drained;
      written = (
        g.met.W.Sink.same_with sink text,
        ap string_bytes (g.met.W.Sink.text_of_with sink text) ∙ more,
        w.written.0,
        refl,
        refl,
        subst (λ t. string_capacity (g.W.Sink.text sink) ≤ string_capacity t) (sym (g.met.W.Sink.text_of_with sink text))
            (subst (λ t. string_capacity t ≤ string_capacity text) c.text_mut.ensures.text c.append_each.ensures.stays),
      );
      valid = w.valid;
      supported = w.supported;
    }

pub returns-in_err-none-clause-failed : goal.returns-in_err-none-clause-failed
returns-in_err-none-clause-failed g c = at_exit c.from_residual.result _ _ _ c.from_residual.ensures.1
    (rw (c.text_mut.ensures.text, c.separator-separator.ensures) at c.in_err-none.ensures.failed)
