use Rattle.std.proofs.Common.{ap, ◌∙◌, arith}
use Rattle.sfv_c.{specs.declared.reading.Passing.Passing, proofs.Receivers.passed}
use Rattle.sfv_c.proofs.reading.read_into.Goals as goal

pub returns-in-Ok-clause-received : goal.returns-in-Ok-clause-received
returns-in-Ok-clause-received g c =
    let v = c.in-Ok.ensures.as_read in
    let h = v.holds in
    let p = passed g.R.Receiver.receives h.0 _ h.3 h.4 in
    let same = ap (λ (x : Passing g.row.R.Denot). x.receiver.ghost_name) h.5 ∙ p.0 in
    let now = ap (λ (x : Passing g.row.R.Denot). x.receiver.now) h.5 in
    record { raw = v.raw; accepted = v.accepted; only = v.only; holds = (h.0, h.1, h.2, grind (arith, same, now, p.1)) }
