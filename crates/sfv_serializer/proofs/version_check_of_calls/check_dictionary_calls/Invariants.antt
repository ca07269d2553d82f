use Rattle.std.proofs.Common.{take, flat_map}
use Rattle.sfv_spec.specs.Values.{AllFit, member_values}
use Rattle.sfv_serializer.specs.ScriptSteps.{supplied_member, dictionary_calls}
use Rattle.sfv_serializer.proofs.version_check_of_calls.check_dictionary_calls.Given as goal

abbrev pub invariant-loop-name : goal.invariant-loop-name
invariant-loop-name l = AllFit l.version
    (flat_map (λ m. member_values (supplied_member m.1)) (dictionary_calls (take l._name-index l.calls)))
