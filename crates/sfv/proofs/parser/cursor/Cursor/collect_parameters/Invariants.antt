use Rattle.std.proofs.Common.{◌≡◌, length}
use Rattle.indexmap.specs.IndexMap.{hasher_of}
use Rattle.sfv.{specs.parser.Cursor.{kept, version, rest}, proofs.trees.Parameters.CollectedParameters}
use Rattle.sfv.proofs.parser.cursor.Cursor.collect_parameters.Given as goal

abbrev pub invariant-loop-parameter : goal.invariant-loop-parameter
invariant-loop-parameter l = record {
  collected : CollectedParameters (version l.fn.self) (rest l.fn.self) (rest l.self) l.params.entries;
  kept : kept l.self ≡ kept l.fn.self;
  seed : hasher_of l.params ≡ hasher_of l.fn.params;
}

abbrev pub decreases-loop-parameter : goal.decreases-loop-parameter
decreases-loop-parameter l = length (rest l.self)
