use Rattle.std.proofs.Common.{◌∙◌}
use Rattle.sfv.proofs.reads.Steps.{boolean_false, boolean_true}
use Rattle.sfv.proofs.parser.cursor.Cursor.boolean.Goals as goal

pub returns-then-take_if : goal.returns-then-take_if
returns-then-take_if c = (boolean_false _ _ c.if-take_if.ensures.takes, c.take_if.ensures.kept)

pub returns-then-take_if-2 : goal.returns-then-take_if-2
returns-then-take_if-2 c = (
  boolean_true _ _ _ c.if-take_if.ensures.takes c.if-take_if-2.ensures.takes,
  c.take_if-2.ensures.kept ∙ c.take_if.ensures.kept,
)
