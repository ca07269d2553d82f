use Rattle.std.proofs.Common.{[], ◌∷◌, map}
use Rattle.sfv_spec.proofs.Marks.{parameter_values}
use Rattle.sfv_values.specs.BareItems.{ref_value}
use Rattle.sfv_writer.proofs.Checks.{at_exit, names_front, looks_after}
use Rattle.sfv_serializer.specs.Scripts.{param_of_call}
use Rattle.sfv_serializer.proofs.version_check_of_calls.check_item_calls.Goals as goal

pub returns-in_err-check_bare_item : goal.returns-in_err-check_bare_item
returns-in_err-check_bare_item c = at_exit c.from_residual.result _ _ _ c.from_residual.ensures.1
    (names_front c.args.version (ref_value c.args.calls.now.value ∷ [])
    (parameter_values (map param_of_call c.args.calls.now.params.items)) _ c.in_err-check_bare_item.ensures)

pub returns : goal.returns
returns c =
    let version = c.args.version in
    looks_after _ (ref_value c.args.calls.now.value ∷ []) _ _ c.in_ok-check_bare_item.ensures
    (rw c.deref.ensures.value at c.check_param_calls.ensures)
