use Rattle.std.proofs.Common.{◌∙◌, sym}
use Rattle.sfv.proofs.reads.{Delimiters.{parted_item, closed_item, undelimited_item, unended_item}, Errors.FaultOf-here}
use Rattle.sfv.proofs.parser.cursor.Cursor.consume_item_delimiter.Goals as goal

pub returns-then-take_if : goal.returns-then-take_if
returns-then-take_if c = (
  parted_item c.take_if-then-take_if.result _ _ _ _ _ c.if-take_if.ensures.takes c.skip_sp.ensures.skipped.1
      c.take_if-then-take_if.ensures.takes,
  c.take_if-then-take_if.ensures.kept ∙ c.skip_sp.ensures.kept ∙ c.take_if.ensures.kept,
)

pub returns-then-take_if-2 : goal.returns-then-take_if-2
returns-then-take_if-2 c = (
  closed_item _ _ _ c.if-take_if.ensures.takes c.if-take_if-2.ensures.takes,
  c.take_if-2.ensures.kept ∙ c.take_if.ensures.kept,
)

pub returns-then-is_some : goal.returns-then-is_some
returns-then-is_some c = rw c.error.ensures (FaultOf-here _ c.take_if-2.new.self _ _ (c.take_if-2.ensures.kept
    ∙ c.take_if.ensures.kept) (undelimited_item _ _ _ c.if-take_if.ensures.takes c.if-take_if-2.ensures.takes
    (rw (← c.peek.ensures) (sym c.is_some.ensures ∙ c.if-is_some.true))))

pub returns-else-is_some : goal.returns-else-is_some
returns-else-is_some c = rw c.error-else-is_some.ensures
    (FaultOf-here _ c.take_if-2.new.self _ _ (c.take_if-2.ensures.kept
    ∙ c.take_if.ensures.kept) (unended_item _ _ _ c.if-take_if.ensures.takes c.if-take_if-2.ensures.takes
    (rw (← c.peek.ensures) (sym c.is_some.ensures ∙ c.if-is_some.false))))
