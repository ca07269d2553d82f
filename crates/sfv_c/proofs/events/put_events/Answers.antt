use Rattle.std.proofs.Common.{◌≡◌, Ok, Err, ℕ, length, ap, ◌∙◌, arith}
use Rattle.sfv.specs.Events.{events}
use Rattle.sfv_c.{specs.Answers.answer, proofs.Runs.{rows_read, same_rows}}
use Rattle.sfv_c.proofs.events.put_events.Goals as goal

pub returns-in-Ok : goal.returns-in-Ok
returns-in-Ok c =
    let v = c.in-Ok.ensures.received in
    let h = v.holds in
    let last = c.read_into.new.receiver in
    let k = rows_read _ (events c.args.field v.raw) _ h.0 _ c.args.room last h.1 h.2 (omega arith) (omega arith) h.3 in
    let same = same_rows h.0 _ last h.3 in
    record {
      outcome = Ok (k.rows, last.used);
      reading = record { raw = v.raw; accepted = v.accepted; only = v.only; holds = k.collected };
      put = record {
        fit = λ f.
            let n : last.count ≡ length k.rows = omega (arith, k.count, f.0) in
            let rows = k.written f.0 in
            let a = c.answer_of.ensures.fit (omega (arith, n, f.0), f.1) ∙ ap (λ (n : ℕ). answer 0 0 0 last.used n) n in
            grind (arith, same, rows, a);
        too_small = λ f. c.answer_of.ensures.too_small (λ g. f (omega (arith, k.count, g.0), g.1))
            ∙ ap (λ (n : ℕ). answer 2 0 0 last.used n) k.count;
      };
    }

pub returns-in-Err : goal.returns-in-Err
returns-in-Err c =
    record { outcome = Err c.in-Err.error; reading = c.in-Err.ensures.rejected; put = c.of_error.ensures }
