use Rattle.std.proofs.Common.{◌≡◌, length}
use Rattle.sfv_spec.proofs.Marks.{is_space}
use Rattle.sfv.{specs.parser.Cursor.{kept, rest}, proofs.reads.Runs.Skipped}
use Rattle.sfv.proofs.parser.cursor.Cursor.skip_sp.Given as goal

abbrev pub invariant-loop : goal.invariant-loop
invariant-loop l = record {
  skipped : Skipped is_space (rest l.fn.self) (rest l.self);
  kept : kept l.self ≡ kept l.fn.self;
}

abbrev pub decreases-loop : goal.decreases-loop
decreases-loop l = length (rest l.self)
