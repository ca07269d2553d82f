use Rattle.std.proofs.Common.{◌≡◌, ℕ, suc, ◌+◌, ◌-◌, cond, sym, subst, arith, drop, slice_index, ◌==◌, eq-eqb, ne_eqb}
use Rattle.sfv_spec.proofs.Marks.{percent_sign}
use Rattle.sfv_model.{specs.Quoted.after_pieces, proofs.quoted.DisplaySteps.{LeadsTo, leads_on}}
use Rattle.sfv.proofs.parser.display_string.piece_index.Goals.{then-input-index-eq37, else-input-index-eq37}
use Rattle.sfv.proofs.parser.display_string.piece_index.Goals as goal

pub bounds-input-index : goal.bounds-input-index
bounds-input-index c =
    let n : c.args.count - c.loop.counter ≡ suc (c.args.count - (c.loop.counter + 1)) =
    omega (arith, c.loop-test.true) in
    (leads_on _ _ _ _ (subst (λ (n : ℕ). LeadsTo c.args.input.now c.loop.index n
    (after_pieces c.args.count (drop c.args.start c.args.input.now))) n c.loop.invariant)).0

pub loop-preserved : goal.loop-preserved
loop-preserved c =
    let n : c.args.count - c.loop.counter ≡ suc (c.args.count - (c.loop.counter + 1)) =
    omega (arith, c.loop-test.true) in
    let h = (leads_on _ _ _ _ (subst (λ (n : ℕ). LeadsTo c.args.input.now c.loop.index n
    (after_pieces c.args.count (drop c.args.start c.args.input.now))) n c.loop.invariant)).1 in
    let step : cond (slice_index c.args.input.now c.loop.index == percent_sign) 3 1 ≡ c.if-input-index-eq37.index =
    elim c.if-input-index-eq37.branch [
      | then-input-index-eq37 w ↦ rw
          (eq-eqb (slice_index c.args.input.now c.loop.index) percent_sign w.if-input-index-eq37.true) (sym w.index-is)
      | else-input-index-eq37 w ↦ rw (ne_eqb (slice_index c.args.input.now c.loop.index) percent_sign
          w.if-input-index-eq37.false) (sym w.index-is)
    ] in
    subst (λ (k : ℕ). LeadsTo c.args.input.now (c.loop.index + k) (c.args.count - (c.loop.counter + 1))
    (after_pieces c.args.count (drop c.args.start c.args.input.now))) step h
