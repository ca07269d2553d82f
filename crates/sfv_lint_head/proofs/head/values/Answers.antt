use Rattle.std.proofs.Common.{sym, ◌∙◌}
use Rattle.sfv_lint_head.{specs.Heads.line_of, proofs.Steps.{value_kept, value_left_out}}
use Rattle.sfv_lint_head.proofs.head.values.Goals.{then-is_named+in_ok-from_slice+in_ok-push, else-is_named}
use Rattle.sfv_lint_head.proofs.head.values.Goals as goal

pub loop-line-preserved : goal.loop-line-preserved
loop-line-preserved c = elim c.if-is_named.branch [
  | then-is_named+in_ok-from_slice+in_ok-push w ↦
      rw (w.values-is, w.in_ok-push.ensures.items) (value_kept c.args.name.now line_of (λ value. value.items) c.args.lines.now
      c.loop-line.line-index c.loop-line-test.true c.line-item.result c.loop-line.values.items c.loop-line.invariant
      w.in_ok-from_slice.field-0
      (rw (← c.line-item.is, ← c.as_slice.ensures.value) (sym w.if-is_named.ensures))
      (rw (← c.line-item.is) (w.in_ok-from_slice.ensures.items ∙ w.as_slice-then-is_named.ensures.value)))
  | else-is_named w ↦
      rw w.values-is (value_left_out c.args.name.now line_of (λ value. value.items) c.args.lines.now
      c.loop-line.line-index c.loop-line-test.true c.line-item.result c.loop-line.values.items c.loop-line.invariant
      (rw (← c.line-item.is, ← c.as_slice.ensures.value) (sym w.if-is_named.ensures)))
]
