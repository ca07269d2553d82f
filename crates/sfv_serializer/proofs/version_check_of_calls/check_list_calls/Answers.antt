use Rattle.std.proofs.Common.{◌<◌, length, map, subst, rules, flat_map, take_all}
use Rattle.sfv_spec.specs.Values.{AllFit, member_values}
use Rattle.sfv_writer.{specs.Versions.NamesFirstUnfit, proofs.Checks.at_exit}
use Rattle.sfv_serializer.specs.ScriptSteps.{supplied_member, member_calls}
use Rattle.sfv_serializer.proofs.{Handed.list_supplied, Slices.{slice_more, slice_stops}}
use Rattle.sfv_serializer.proofs.version_check_of_calls.check_list_calls.Goals as goal

pub loop-member-preserved : goal.loop-member-preserved
loop-member-preserved c =
    let calls = c.args.calls.now in
    let within : c.loop-member.member-index < length calls = search rules in
    slice_more _ _ _ _ _ _ within c.member-item.is c.loop-member.invariant c.in_ok-check_member_calls.ensures

pub returns-in_err-check_member_calls : goal.returns-in_err-check_member_calls
returns-in_err-check_member_calls c =
    let calls = c.args.calls.now in
    let within : c.loop-member.member-index < length calls = search rules in
    at_exit _ _ _ _ c.from_residual.ensures.1
    (subst (λ bs. NamesFirstUnfit c.args.version bs c.in_err-check_member_calls.field-0.0) (list_supplied calls)
    (slice_stops _ _ _ _ _ _ _ within c.member-item.is c.loop-member.invariant c.in_err-check_member_calls.ensures))

pub returns : goal.returns
returns c =
    let calls = c.args.calls.now in
    subst (AllFit c.args.version) (list_supplied calls)
    (subst (λ cs. AllFit c.args.version (flat_map (λ m. member_values (supplied_member m)) (map member_calls cs)))
    (take_all c.loop-member.member-index calls (search rules)) c.loop-member.invariant)
