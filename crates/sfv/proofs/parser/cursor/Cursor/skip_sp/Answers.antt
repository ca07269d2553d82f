use Rattle.std.proofs.Common.{◌∙◌, refl}
use Rattle.sfv_spec.proofs.Marks.{is_space}
use Rattle.sfv.{specs.parser.Cursor.rest, proofs.reads.Runs.{skipped_none, skipped_more, skipped_all}}
use Rattle.sfv.proofs.parser.cursor.Cursor.skip_sp.Goals as goal

pub loop-init : goal.loop-init
loop-init c = record { skipped = skipped_none is_space (rest c.args.self.now); kept = refl }

pub loop-preserved : goal.loop-preserved
loop-preserved c = record {
  skipped = skipped_more is_space _ _ _ _ c.loop.invariant.skipped
      c.loop-test.ensures.takes.1 c.loop-test.ensures.takes.2;
  kept = c.take_if.ensures.kept ∙ c.loop.invariant.kept;
}

pub returns-clause-skipped : goal.returns-clause-skipped
returns-clause-skipped c = rw c.loop-test.ensures.takes.0
    (skipped_all is_space _ _ c.loop.invariant.skipped c.loop-test.ensures.takes.1)
