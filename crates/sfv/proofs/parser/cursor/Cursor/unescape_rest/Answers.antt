use Rattle.std.proofs.Common.{◌∙◌, true}
use Rattle.sfv_model.specs.Reader.{byte}
use Rattle.sfv.specs.parser.{Cursor.{kept, rest, TakesIf}, Quoted.mark_of}
use Rattle.sfv.proofs.reads.{Errors.left_with, Escapes.{closed_after, past_escape, past_run, escape_fails}}
use Rattle.sfv.proofs.parser.cursor.Cursor.unescape_rest.Goals as goal

pub returns-in_err-byte : goal.returns-in_err-byte
returns-in_err-byte g c =
    let mark : TakesIf (byte (mark_of g.Q.QuotedText.display)) true (rest c.take_if.new.self)
    (rest c.take_if-in-loop-cursor.new.self) = rw (← c.mark.ensures) c.if-take_if.ensures.takes in
    rw (left_with c.from_residual-in_err-byte.ensures.1)
    (escape_fails _ _ _ _ _ _ _ _ _ (c.take_if-in-loop-cursor.ensures.kept ∙ c.take_if.ensures.kept
    ∙ c.loop-cursor.invariant.kept) c.loop-cursor.invariant.read c.loop-cursor-test.ensures.takes.0 mark
    c.in_err-byte.ensures)

pub loop-cursor-preserved-in-Continue-branch-3 : goal.loop-cursor-preserved-in-Continue-branch-3
loop-cursor-preserved-in-Continue-branch-3 g c =
    let mark : TakesIf (byte (mark_of g.Q.QuotedText.display)) true (rest c.take_if.new.self)
    (rest c.take_if-in-loop-cursor.new.self) = rw (← c.mark.ensures) c.if-take_if.ensures.takes in
    record {
      read = rw c.in_ok-push.ensures.items (past_escape g.Q.QuotedText.display c.loop-cursor.bytes.items _ _ _ _ _
          c.loop-cursor-test.ensures.takes.0 mark c.in_ok-byte.ensures.0 ∙ c.loop-cursor.invariant.read);
      kept = c.in_ok-byte.ensures.2 ∙ c.take_if-in-loop-cursor.ensures.kept ∙ c.take_if.ensures.kept
          ∙ c.loop-cursor.invariant.kept;
    }

pub loop-cursor-preserved : goal.loop-cursor-preserved
loop-cursor-preserved g c = record {
  read = rw c.in_ok-extend_from_slice.ensures.items (past_run _ _ _ _ _ _ (c.if-take_if.ensures.takes.0
      ∙ c.loop-cursor-test.ensures.takes.0) c.plain-run.ensures.each c.plain-run.ensures.taken
      ∙ c.loop-cursor.invariant.read);
  kept = c.plain-run.ensures.kept ∙ c.take_if-in-loop-cursor.ensures.kept ∙ c.take_if.ensures.kept
      ∙ c.loop-cursor.invariant.kept;
}

pub returns : goal.returns
returns g c = (
  closed_after g.Q.QuotedText.display _ _ _ _ c.loop-cursor.invariant.read c.loop-cursor-test.ensures.takes,
  c.take_if.ensures.kept ∙ c.loop-cursor.invariant.kept,
)
