use Rattle.std.proofs.Common.{arith, sym, ◌∙◌, ap, take, ◌≡◌, ◌-◌, length}
use Rattle.std.{specs.List.suffix_len, proofs.lemmas.List.Sums.{suffix_len-take_yes, suffix_len-take_no}}
use Rattle.sfv_signatures.specs.HttpMessages.{is_blank}
use Rattle.sfv_signatures.proofs.lines.without_end.Goals.{then-loop-end-test+else-is_blank, else-loop-end-test}
use Rattle.sfv_signatures.proofs.lines.without_end.Goals as goal

pub loop-end-preserved : goal.loop-end-preserved
loop-end-preserved c =
    let yes = suffix_len-take_yes is_blank c.args.text.now c.loop-end.end 0 (omega (arith, c.loop-end-test.true))
    c.loop-end.invariant.0 (sym c.is_blank.ensures ∙ c.if-is_blank.true) in (
      omega (arith, c.loop-end.invariant.0),
      omega (arith, yes, c.loop-end.invariant.1, c.loop-end-test.true, c.loop-end.invariant.0),
    )

pub returns : goal.returns
returns c = elim c.loop-end-test.branch [
  | then-loop-end-test+else-is_blank w ↦
      let none = suffix_len-take_no is_blank c.args.text.now c.loop-end.end 0 (omega (arith, w.loop-end-test.true))
      c.loop-end.invariant.0 (sym w.is_blank.ensures ∙ w.if-is_blank.false) in
      let place : c.loop-end.end ≡ length c.args.text.now - suffix_len is_blank c.args.text.now =
      omega (arith, none, c.loop-end.invariant.1, c.loop-end.invariant.0) in
      ap (λ n. take n c.args.text.now) place
  | else-loop-end-test w ↦
      let place : c.loop-end.end ≡ length c.args.text.now - suffix_len is_blank c.args.text.now =
      omega (arith, w.loop-end-test.false, c.loop-end.invariant.1, c.loop-end.invariant.0) in
      ap (λ n. take n c.args.text.now) place
]
