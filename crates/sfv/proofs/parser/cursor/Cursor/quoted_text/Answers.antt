use Rattle.std.proofs.Common.{◌∙◌, true, refl, sym, true≢false}
use Rattle.sfv_model.specs.{Quoted.after_bytes, Reader.byte}
use Rattle.sfv.specs.parser.{Cursor.{rest, kept, NextIs}, Quoted.{mark_of, inside}}
use Rattle.sfv.proofs.reads.Errors.{left_with, ErrorOf-same}
use Rattle.sfv.proofs.reads.Escapes.{begins, all_plain, after_fault, no_escape, some_escape}
use Rattle.sfv.proofs.parser.cursor.Cursor.quoted_text.Goals as goal

pub returns-then-take_if-clause-read : goal.returns-then-take_if-clause-read
returns-then-take_if-clause-read g c = (
  all_plain g.Q.QuotedText.display _ _ _ _ c.plain-plain.ensures.each
      c.plain-plain.ensures.taken c.if-take_if.ensures.takes,
  c.take_if.ensures.kept ∙ c.plain-plain.ensures.kept,
)

pub returns-then-take_if-clause-plain : goal.returns-then-take_if-clause-plain
returns-then-take_if-clause-plain g c = (
  λ _. no_escape g.Q.QuotedText.display _ _ _ _ c.plain-plain.ensures.each
      c.plain-plain.ensures.taken c.if-take_if.ensures.takes,
  λ _. refl,
)

pub returns-then-not-next_is-clause-read : goal.returns-then-not-next_is-clause-read
returns-then-not-next_is-clause-read g c = after_fault _ _ _ _ _ _ (c.take_if.ensures.kept ∙ c.plain-plain.ensures.kept)
    (sym (begins _ _ _ _ _ c.plain-plain.ensures.each c.plain-plain.ensures.taken
    c.if-take_if.ensures.takes.0)) c.end_error.ensures

pub returns-in_err-bytes-clause-read : goal.returns-in_err-bytes-clause-read
returns-in_err-bytes-clause-read g c = rw (left_with c.from_residual.ensures.1)
    (ErrorOf-same _ _ _ (λ _ t. after_bytes c.plain-plain.result.now (inside g.Q.QuotedText.display t))
    (rest c.take_if.new.self) _ (c.take_if.ensures.kept ∙ c.plain-plain.ensures.kept)
    (begins g.Q.QuotedText.display _ _ _ _ c.plain-plain.ensures.each c.plain-plain.ensures.taken
    c.if-take_if.ensures.takes.0) c.in_err-bytes.ensures)

pub returns-clause-read : goal.returns-clause-read
returns-clause-read g c = (
  begins g.Q.QuotedText.display _ _ _ _ c.plain-plain.ensures.each c.plain-plain.ensures.taken
      c.if-take_if.ensures.takes.0 ∙ c.in_ok-bytes.ensures.0,
  c.in_ok-bytes.ensures.1 ∙ c.take_if.ensures.kept ∙ c.plain-plain.ensures.kept,
)

pub returns-clause-plain : goal.returns-clause-plain
returns-clause-plain g c =
    let mark : NextIs (byte (mark_of g.Q.QuotedText.display)) true (rest c.take_if.new.self) =
    rw (← c.mark.ensures) c.if-not-next_is.ensures in (
      λ x. absurd (true≢false (sym x)),
      λ h. absurd
          (some_escape g.Q.QuotedText.display _ _ _ _ h.0 _ mark.0 mark.1 _ c.plain-plain.ensures.taken
          c.if-take_if.ensures.takes.0 mark.2 mark.3 c.in_ok-bytes.ensures.0 h.1 h.2),
    )
