use Rattle.std.proofs.Common.{◌≡◌, ◌≤◌, ◌++◌, string_bytes, string_capacity}
use Rattle.sfv_spec.specs.{Canonical.parameters_text, Values.{AreParameters, AllFit}}
use Rattle.sfv_writer.specs.Pairs.{lent_pairs, pair_values}
use Rattle.sfv_writer.proofs.item.serialize_parameters.Given as goal

abbrev pub invariant-loop-key : goal.invariant-loop-key
invariant-loop-key g l = (goal.iterator-loop-key g).can_next l.key-iterator
    × (goal.iterator-loop-key g).is_finite l.key-iterator × (string_bytes l.output
    ≡ string_bytes l.fn.output ++ parameters_text (lent_pairs l.yielded)) × AreParameters (lent_pairs l.yielded)
    × AllFit l.version (pair_values l.yielded) × (string_capacity l.fn.output ≤ string_capacity l.output)
