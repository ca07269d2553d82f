use Rattle.std.proofs.Common.{flat_map}
use Rattle.sfv_spec.specs.Values.{AllFit}
use Rattle.sfv_writer.proofs.version_check.check_all.Given as goal

abbrev pub invariant-loop-part : goal.invariant-loop-part
invariant-loop-part g l = (goal.iterator-loop-part g).can_next l.part-iterator
    × (goal.iterator-loop-part g).is_finite l.part-iterator × AllFit l.version (flat_map g.T.HasValues.values l.yielded)
