use Rattle.std.proofs.Common.{◌≡◌, ℕ, ◌<◌, slice_index_or}
use Rattle.sfv.specs.{Trees.item_tree, Types.Item}
use Rattle.sfv_signatures.specs.SignatureBase.{AreSame}
use Rattle.sfv_signatures.proofs.identifier.is_repeated.Given as goal

-- no identifier so far is the same
abbrev pub invariant-loop-other : goal.invariant-loop-other
invariant-loop-other l = (k : ℕ) (x : Item) → k < l.other-index → slice_index_or l.before k x ≡ x
    → AreSame (item_tree l.identifier) (item_tree x) → ⊥
