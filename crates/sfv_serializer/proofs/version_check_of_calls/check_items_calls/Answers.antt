use Rattle.std.proofs.Common.{◌<◌, length, rules}
use Rattle.sfv_spec.specs.Values.{item_values}
use Rattle.sfv_writer.proofs.Checks.{at_exit}
use Rattle.sfv_serializer.{specs.Scripts.item_of_calls, proofs.Slices.{slice_more, slice_stops}}
use Rattle.sfv_serializer.proofs.version_check_of_calls.check_items_calls.Goals as goal

pub loop-calls-preserved : goal.loop-calls-preserved
loop-calls-preserved c =
    let items = c.args.items.now in
    let within : c.loop-calls.calls-index < length items = search rules in
    slice_more c.args.version item_of_calls item_values items c.loop-calls.calls-index c.calls-item.result
    within c.calls-item.is c.loop-calls.invariant c.in_ok-check_item_calls.ensures

pub returns-in_err-check_item_calls : goal.returns-in_err-check_item_calls
returns-in_err-check_item_calls c =
    let items = c.args.items.now in
    let within : c.loop-calls.calls-index < length items = search rules in
    at_exit c.from_residual.result _ _ _ c.from_residual.ensures.1
    (slice_stops c.args.version item_of_calls item_values items c.loop-calls.calls-index
    c.calls-item.result _ within c.calls-item.is c.loop-calls.invariant c.in_err-check_item_calls.ensures)
