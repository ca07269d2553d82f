use Rattle.std.proofs.Common.{◌<◌, length, subst, rules, flat_map, take_all}
use Rattle.sfv_spec.specs.Values.{AllFit, member_values}
use Rattle.sfv_writer.{specs.Versions.NamesFirstUnfit, proofs.Checks.at_exit}
use Rattle.sfv_serializer.specs.ScriptSteps.{supplied_member, dictionary_calls}
use Rattle.sfv_serializer.proofs.{Handed.dictionary_supplied, Slices.{slice_more, slice_stops}}
use Rattle.sfv_serializer.proofs.version_check_of_calls.check_dictionary_calls.Goals as goal

pub loop-name-preserved : goal.loop-name-preserved
loop-name-preserved c =
    let calls = c.args.calls.now in
    let within : c.loop-name._name-index < length calls = search rules in
    slice_more _ _ _ _ _ _ within
    c.loop-name-item.is c.loop-name.invariant c.in_ok-check_member_calls.ensures

pub returns-in_err-check_member_calls : goal.returns-in_err-check_member_calls
returns-in_err-check_member_calls c =
    let calls = c.args.calls.now in
    let within : c.loop-name._name-index < length calls = search rules in
    at_exit _ _ _ _ c.from_residual.ensures.1
    (subst (λ bs. NamesFirstUnfit c.args.version bs c.in_err-check_member_calls.field-0.0)
    (dictionary_supplied calls) (slice_stops _ _ _ _ _ _ _ within
    c.loop-name-item.is c.loop-name.invariant c.in_err-check_member_calls.ensures))

pub returns : goal.returns
returns c =
    let calls = c.args.calls.now in
    subst (AllFit c.args.version) (dictionary_supplied calls)
    (subst (λ cs. AllFit c.args.version (flat_map (λ m. member_values (supplied_member m.1)) (dictionary_calls cs)))
    (take_all c.loop-name._name-index calls (search rules)) c.loop-name.invariant)
