use Rattle.std.proofs.Common.{◌≡◌, length}
use Rattle.sfv_spec.proofs.Marks.{is_space_or_tab}
use Rattle.sfv.{specs.parser.Cursor.{kept, rest}, proofs.reads.Runs.Skipped}
use Rattle.sfv.proofs.parser.cursor.Cursor.skip_ows.Given as goal

abbrev pub invariant-loop-self : goal.invariant-loop-self
invariant-loop-self l = record {
  skipped : Skipped is_space_or_tab (rest l.fn.self) (rest l.self);
  kept : kept l.self ≡ kept l.fn.self;
}

abbrev pub decreases-loop-self : goal.decreases-loop-self
decreases-loop-self l = length (rest l.self)
