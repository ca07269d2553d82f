use Rattle.std.proofs.Common.{sym}
use Rattle.sfv_lint_head.proofs.Joining.{after_less, line_added, line_left_out}
use Rattle.sfv_lint_head.proofs.lines.split.Goals as goal

pub loop-rest-smaller-in_ok-push : goal.loop-rest-smaller-in_ok-push
loop-rest-smaller-in_ok-push c = after_less c.loop-rest.rest.now c.split_line.result.1.now c.split_line.ensures.rest (sym c.loop-rest-test.ensures)

pub loop-rest-smaller : goal.loop-rest-smaller
loop-rest-smaller c = after_less c.loop-rest.rest.now c.split_line.result.1.now c.split_line.ensures.rest (sym c.loop-rest-test.ensures)

pub loop-rest-preserved-in_ok-push : goal.loop-rest-preserved-in_ok-push
loop-rest-preserved-in_ok-push c = rw c.in_ok-push.ensures.items (line_added c.args.text.now c.loop-rest.rest.now c.without_return-line.result.now
    c.split_line.result.1.now (λ line. line.items) c.loop-rest.lines.items c.loop-rest.invariant c.split_line.ensures.rest
    (sym c.loop-rest-test.ensures) (rw (← c.split_line.ensures.line) c.without_return-line.ensures)
    c.in_ok-from_slice.field-0 c.in_ok-from_slice.ensures.items (sym c.if-not-is_empty.ensures))

pub loop-rest-preserved : goal.loop-rest-preserved
loop-rest-preserved c = line_left_out c.args.text.now _ _ _ _ _ c.loop-rest.invariant c.split_line.ensures.rest
    (sym c.loop-rest-test.ensures) (rw (← c.split_line.ensures.line) c.without_return-line.ensures)
    (sym c.if-not-is_empty.ensures)
