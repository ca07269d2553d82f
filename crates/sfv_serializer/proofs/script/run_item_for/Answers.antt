use Rattle.sfv_spec.specs.{Values.bare_values, declared.field_kind.FieldKind.TheVariants.Item as item_field}
use Rattle.sfv_writer.proofs.{Checks.{look_fails, memory_fails}, ReadBack.read_back}
use Rattle.sfv_serializer.specs.Scripts.{item_of_calls}
use Rattle.sfv_serializer.proofs.script.run_item_for.Goals as goal

pub returns-in_err-check_item_calls-clause-unsupported : goal.returns-in_err-check_item_calls-clause-unsupported
returns-in_err-check_item_calls-clause-unsupported c =
    let version = c.args.version in
    let item = item_of_calls c.args.calls.now in
    let error = c.in_err-check_item_calls.field-0.0 in
    look_fails version (bare_values item_field item) c.from_residual.result error c.from_residual.ensures.1
    c.in_err-check_item_calls.ensures

pub returns-in_err-run_item-clause-unsupported : goal.returns-in_err-run_item-clause-unsupported
returns-in_err-run_item-clause-unsupported c =
    let version = c.args.version in
    let item = item_of_calls c.args.calls.now in
    memory_fails version (bare_values item_field item) c.from_residual-in_err-run_item.result
    c.from_residual-in_err-run_item.ensures.1 c.in_ok-check_item_calls.ensures

pub returns-clause-unsupported : goal.returns-clause-unsupported
returns-clause-unsupported c = c.in_ok-check_item_calls.ensures

pub returns-clause-read_back : goal.returns-clause-read_back
returns-clause-read_back c =
    let version = c.args.version in
    let item = item_of_calls c.args.calls.now in
    read_back version item_field item c.in_ok-run_item.ensures.value c.in_ok-check_item_calls.ensures
