use Rattle.std.proofs.Common.{◌∙◌, ap, not}
use Rattle.sfv.proofs.reads.{Delimiters.{no_member, no_comma, comma_last, comma_more}, Errors.FaultOf-here}
use Rattle.sfv.proofs.parser.cursor.Cursor.consume_comma.Goals as goal

pub returns-then-is_none : goal.returns-then-is_none
returns-then-is_none c = (
  no_member _ _ _ c.skip_ows.ensures.skipped.1 (rw (← c.peek.ensures) (c.is_none.ensures ∙ ap not c.if-is_none.true)),
  c.skip_ows.ensures.kept,
)

pub returns-then-not-take_if : goal.returns-then-not-take_if
returns-then-not-take_if c = rw c.error.ensures (FaultOf-here _ c.take_if.new.self _ _
    (c.take_if.ensures.kept ∙ c.skip_ows.ensures.kept) (no_comma _ _ _ _ c.skip_ows.ensures.skipped.1
    (rw (← c.peek.ensures) (c.is_none.ensures ∙ ap not c.if-is_none.false)) c.if-not-take_if.ensures.takes))

pub returns-then-is_none-2 : goal.returns-then-is_none-2
returns-then-is_none-2 c = rw c.error-comma.ensures (FaultOf-here _ c.skip_ows.new.self _ _ c.skip_ows.ensures.kept
    (comma_last _ _ _ _ _ _ c.skip_ows.ensures.skipped.1 c.if-not-take_if.ensures.takes c.skip_ows-2.ensures.skipped.1
    (rw (← c.peek-2.ensures) (c.is_none-2.ensures ∙ ap not c.if-is_none-2.true))))

pub returns : goal.returns
returns c = (
  comma_more _ _ _ _ _ _ c.skip_ows.ensures.skipped.1 c.if-not-take_if.ensures.takes c.skip_ows-2.ensures.skipped.1
      (rw (← c.peek-2.ensures) (c.is_none-2.ensures ∙ ap not c.if-is_none-2.false)),
  c.skip_ows-2.ensures.kept ∙ c.take_if.ensures.kept ∙ c.skip_ows.ensures.kept,
)
