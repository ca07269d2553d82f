use Rattle.std.{proofs.Common.{◌≡◌, bytes_eq}, specs.Map.lookup}
use Rattle.sfv_values.specs.CheckedTexts.{text_of as key_text}
use Rattle.sfv_tree.proofs.parsed.find.Given as goal

abbrev pub invariant-loop-name : goal.invariant-loop-name
invariant-loop-name g l =
    (goal.iterator-loop-name g).can_next l.name-iterator × (goal.iterator-loop-name g).is_finite l.name-iterator
    × (lookup (bytes_eq (key_text l.key)) l.name-iterator ≡ lookup (bytes_eq (key_text l.key)) l.map.entries)
