use Rattle.std.proofs.Common.{◌≡◌, []}
use Rattle.indexmap.specs.IndexMap.{hasher_of}
use Rattle.sfv_spec.proofs.Collapse.{entered_all}
use Rattle.sfv_tree.specs.Trees.{pairs_tree}
use Rattle.sfv_tree.proofs.parsed.copy_params.Given as goal

abbrev pub invariant-loop-key : goal.invariant-loop-key
invariant-loop-key l =
    (entered_all (pairs_tree l.copy.entries) (pairs_tree l.key-iterator) ≡ pairs_tree l.params.entries)
    × (hasher_of l.copy ≡ hasher_of l.params) × (pairs_tree l.params.entries ≡ [] → pairs_tree l.key-iterator ≡ [])
