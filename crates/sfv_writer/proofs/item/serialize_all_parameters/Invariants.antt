use Rattle.std.{proofs.Common.{[], false}, specs.Map.Iter.{TakesFirst, deref_pair}}
use Rattle.sfv_writer.{specs.Versions.parameter_pairs, proofs.Taken.HasTaken}
use Rattle.sfv_writer.proofs.item.serialize_all_parameters.Given as goal

abbrev pub invariant-loop-key : goal.invariant-loop-key
invariant-loop-key g l =
    HasTaken parameter_pairs (TakesFirst deref_pair) l.params.entries [] false l.fn.output l.key-iterator false l.output
