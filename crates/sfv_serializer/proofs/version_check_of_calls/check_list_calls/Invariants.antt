use Rattle.std.proofs.Common.{take, flat_map}
use Rattle.sfv_spec.specs.Values.{AllFit, member_values}
use Rattle.sfv_serializer.specs.ScriptSteps.{supplied_member, list_calls}
use Rattle.sfv_serializer.proofs.version_check_of_calls.check_list_calls.Given as goal

abbrev pub invariant-loop-member : goal.invariant-loop-member
invariant-loop-member l = AllFit l.version
    (flat_map (λ m. member_values (supplied_member m)) (list_calls (take l.member-index l.calls)))
