use Rattle.std.proofs.Common.{◌≡◌, filter_map}
use Rattle.sfv.specs.Trees.{pairs_tree}
use Rattle.sfv_signatures.specs.HttpMessages.{param_fault}
use Rattle.sfv_signatures.proofs.parameters.first_fault.Given as goal

abbrev pub invariant-loop-key : goal.invariant-loop-key
invariant-loop-key l = (goal.iterator-loop-key).can_next l.key-iterator
    × (goal.iterator-loop-key).is_finite l.key-iterator × (filter_map (param_fault l.name) (pairs_tree l.key-iterator)
    ≡ filter_map (param_fault l.name) (pairs_tree l.params.entries))
