use Rattle.std.proofs.Common.{◌∙◌}
use Rattle.sfv_spec.proofs.Marks.{is_space_or_tab}
use Rattle.sfv.proofs.reads.Runs.{skipped_space, skipped_tab, skipped_all, neither_space_nor_tab}
use Rattle.sfv.proofs.parser.cursor.Cursor.skip_ows.Goals as goal

pub loop-self-preserved-then-take_if : goal.loop-self-preserved-then-take_if
loop-self-preserved-then-take_if c = record {
  skipped = skipped_space _ _ _ c.loop-self.invariant.skipped c.if-take_if.ensures.takes;
  kept = c.take_if.ensures.kept ∙ c.loop-self.invariant.kept;
}

pub loop-self-preserved : goal.loop-self-preserved
loop-self-preserved c = record {
  skipped = skipped_tab _ _ _ _ c.loop-self.invariant.skipped c.if-take_if.ensures.takes c.if-take_if-2.ensures.takes;
  kept = c.take_if-else-take_if.ensures.kept ∙ c.take_if.ensures.kept ∙ c.loop-self.invariant.kept;
}

pub returns-clause-skipped : goal.returns-clause-skipped
returns-clause-skipped c = rw (c.if-take_if-2.ensures.takes.0, c.if-take_if.ensures.takes.0)
    (skipped_all is_space_or_tab _ _ c.loop-self.invariant.skipped
    (neither_space_nor_tab _ _ _ c.if-take_if.ensures.takes c.if-take_if-2.ensures.takes))
