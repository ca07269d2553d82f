use Rattle.std.proofs.Common.{map, take, flat_map}
use Rattle.sfv_spec.specs.Values.{AllFit, item_values}
use Rattle.sfv_serializer.specs.Scripts.{item_of_calls}
use Rattle.sfv_serializer.proofs.version_check_of_calls.check_items_calls.Given as goal

abbrev pub invariant-loop-calls : goal.invariant-loop-calls
invariant-loop-calls l = AllFit l.version (flat_map item_values (map item_of_calls (take l.calls-index l.items)))
