use Rattle.std.proofs.Common.{◌<◌, length, map, subst, rules, flat_map, take_all}
use Rattle.sfv_spec.specs.Values.{AllFit}
use Rattle.sfv_writer.{specs.Versions.NamesFirstUnfit, proofs.Checks.at_exit}
use Rattle.sfv_serializer.specs.Scripts.{param_of_call}
use Rattle.sfv_serializer.proofs.{Handed.{values_of_param, params_values}, Slices.{slice_more, slice_stops}}
use Rattle.sfv_serializer.proofs.version_check_of_calls.check_param_calls.Goals as goal

pub loop-call-preserved : goal.loop-call-preserved
loop-call-preserved c =
    let calls = c.args.calls.now in
    let within : c.loop-call.call-index < length calls = search rules in
    slice_more c.args.version param_of_call values_of_param calls c.loop-call.call-index c.call-item.result
    within c.call-item.is c.loop-call.invariant c.in_ok-check_bare_item.ensures

pub returns-in_err-check_bare_item : goal.returns-in_err-check_bare_item
returns-in_err-check_bare_item c =
    let calls = c.args.calls.now in
    let within : c.loop-call.call-index < length calls = search rules in
    at_exit c.from_residual.result _ _ _ c.from_residual.ensures.1
    (subst (λ bs. NamesFirstUnfit c.args.version bs c.in_err-check_bare_item.field-0.0) (params_values
    (map param_of_call calls)) (slice_stops c.args.version param_of_call values_of_param calls c.loop-call.call-index
    c.call-item.result _ within c.call-item.is c.loop-call.invariant c.in_err-check_bare_item.ensures))

pub returns : goal.returns
returns c =
    let calls = c.args.calls.now in
    subst (AllFit c.args.version) (params_values _) (subst (λ cs. AllFit c.args.version (flat_map values_of_param
    (map param_of_call cs))) (take_all c.loop-call.call-index calls (search rules)) c.loop-call.invariant)
