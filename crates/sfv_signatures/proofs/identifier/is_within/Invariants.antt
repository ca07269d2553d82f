use Rattle.std.proofs.Common.{◌↔◌}
use Rattle.sfv.specs.Trees.{pairs_tree}
use Rattle.sfv_signatures.specs.SignatureBase.{AreWithin}
use Rattle.sfv_signatures.proofs.identifier.is_within.Given as goal

abbrev pub invariant-loop-key : goal.invariant-loop-key
invariant-loop-key l = (goal.iterator-loop-key).can_next l.key-iterator
    × (goal.iterator-loop-key).is_finite l.key-iterator × (AreWithin (pairs_tree l.key-iterator)
    (pairs_tree l.b.entries) ↔ AreWithin (pairs_tree l.a.entries) (pairs_tree l.b.entries))
