use Rattle.std.proofs.Common.{map, take, flat_map}
use Rattle.sfv_spec.specs.Values.{AllFit}
use Rattle.sfv_serializer.{specs.Scripts.param_of_call, proofs.Handed.values_of_param}
use Rattle.sfv_serializer.proofs.version_check_of_calls.check_param_calls.Given as goal

abbrev pub invariant-loop-call : goal.invariant-loop-call
invariant-loop-call l = AllFit l.version (flat_map values_of_param (map param_of_call (take l.call-index l.calls)))
