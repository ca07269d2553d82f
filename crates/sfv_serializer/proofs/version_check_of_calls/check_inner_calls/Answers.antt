use Rattle.sfv_writer.proofs.Checks.{at_exit}
use Rattle.sfv_serializer.proofs.Handed.{inner_names, abandoned_fit, ended_looks}
use Rattle.sfv_serializer.proofs.version_check_of_calls.check_inner_calls.Goals as goal

pub returns-in_err-check_items_calls : goal.returns-in_err-check_items_calls
returns-in_err-check_items_calls c = at_exit c.from_residual.result _ _ _ c.from_residual.ensures.1
    (inner_names c.args.version c.args.items.now c.args.params.now c.args.abandon _ c.in_err-check_items_calls.ensures)

pub returns-then-abandon : goal.returns-then-abandon
returns-then-abandon c = rw c.if-abandon.true (abandoned_fit _ _ c.args.params.now c.in_ok-check_items_calls.ensures)

pub returns : goal.returns
returns c = rw c.if-abandon.false (ended_looks _ _ _ _ c.in_ok-check_items_calls.ensures c.check_param_calls.ensures)
