use Rattle.std.{proofs.Common.{◌∙◌, ap, drop, sym, refl, true}, specs.declared.alloc.Global.Global}
use Rattle.sfv_model.specs.Quoted.{outside, pieces_from, display_at}
use Rattle.sfv_model.proofs.quoted.DisplaySteps.{shown_text, plain_utf8}
use Rattle.sfv.specs.{Field.display_string, declared.parser.Parser.Parser, parser.Cursor.{input, kept_input, rest}}
use Rattle.sfv.proofs.reads.Errors.{left_with, ErrorOf-here, ErrorOf-part, ErrorOf-kept}
use Rattle.sfv.proofs.reads.Escapes.{display_error, display_opens, after_opening}
use Rattle.sfv.proofs.reads.Steps.{quoted_no_quote, quoted_reads, given}
use Rattle.sfv.proofs.parser.cursor.Cursor.display_string.Goals as goal

pub returns-then-not-take_if-clause-read : goal.returns-then-not-take_if-clause-read
returns-then-not-take_if-clause-read c = rw c.error.ensures
    (ErrorOf-here _ c.take_if.new.self _ _ (c.take_if.ensures.kept
    ∙ c.skip.ensures.kept) (quoted_no_quote _ _ _ c.requires c.skip.ensures.skips c.if-not-take_if.ensures.takes))

pub returns-in_err-bytes-clause-read : goal.returns-in_err-bytes-clause-read
returns-in_err-bytes-clause-read c =
    rw (left_with c.from_residual.ensures.1) (ErrorOf-part _ _ _ (λ _. display_at) _ _ _ (c.take_if.ensures.kept ∙ c.skip.ensures.kept)
    (quoted_reads _ _ _ c.requires c.skip.ensures.skips c.if-not-take_if.ensures.takes)
    (display_error (input c.take_if.new.self) _ _ c.in_err-bytes.ensures.read))

pub from_utf8_unchecked-text-requires : goal.from_utf8_unchecked-text-requires
from_utf8_unchecked-text-requires c = let each = rw c.in-Plain.is at c.in_ok-bytes.ensures.each in
    plain_utf8 _ (each refl)

pub decode_utf8-requires-clause-read : goal.decode_utf8-requires-clause-read
decode_utf8-requires-clause-read c =
    let read = rw c.in-Unescaped.is at c.in_ok-bytes.ensures.read in (
      rest c.quoted_text.new.self,
      ap (λ (k : Parser × Global). pieces_from outside (drop c.take_if.new.self.index (kept_input k))) read.1 ∙ read.0,
    )

pub returns-in_err-text-in-Unescaped-clause-read : goal.returns-in_err-text-in-Unescaped-clause-read
returns-in_err-text-in-Unescaped-clause-read c =
    let read = rw c.in-Unescaped.is at c.in_ok-bytes.ensures.read in
    let pieces =
    ap (λ (k : Parser × Global). pieces_from outside (drop c.take_if.new.self.index (kept_input k))) read.1 ∙ read.0 in
    rw (left_with c.from_residual-in_err-text-in-Unescaped.ensures.1) (ErrorOf-part _ _ _ (λ _. display_at) _ _ _ (c.take_if.ensures.kept ∙ c.skip.ensures.kept)
    (quoted_reads _ _ _ c.requires c.skip.ensures.skips c.if-not-take_if.ensures.takes)
    (ErrorOf-kept _ _ _ c.take_if.new.self.index display_at read.1
    (c.in_err-text-in-Unescaped.ensures (rest c.quoted_text.new.self) pieces)))

pub returns-in-Plain-clause-read : goal.returns-in-Plain-clause-read
returns-in-Plain-clause-read c =
    let read = rw c.in-Plain.is at c.in_ok-bytes.ensures.read in
    let each = rw c.in-Plain.is at c.in_ok-bytes.ensures.each in (
      quoted_reads _ _ _ c.requires c.skip.ensures.skips c.if-not-take_if.ensures.takes ∙ given _ _ _ _ _
          (rw c.from_utf8_unchecked-text.ensures (shown_text _ _ _ read.0 (plain_utf8 _ (each refl)))),
      read.1 ∙ c.take_if.ensures.kept ∙ c.skip.ensures.kept,
    )

pub returns-in-Plain-clause-borrowed : goal.returns-in-Plain-clause-borrowed
returns-in-Plain-clause-borrowed c = after_opening true _ c.args.self.now c.take_if.new.self c.quoted_text.new.self
    (display_opens _ _ _ c.requires c.skip.ensures.skips c.if-not-take_if.ensures.takes)
    (rw c.in-Plain.is at c.in_ok-bytes.ensures.plain)

pub returns-in_ok-text-in-Unescaped-clause-read : goal.returns-in_ok-text-in-Unescaped-clause-read
returns-in_ok-text-in-Unescaped-clause-read c =
    let read = rw c.in-Unescaped.is at c.in_ok-bytes.ensures.read in
    let pieces =
    ap (λ (k : Parser × Global). pieces_from outside (drop c.take_if.new.self.index (kept_input k))) read.1 ∙ read.0 in (
      quoted_reads _ _ _ c.requires c.skip.ensures.skips c.if-not-take_if.ensures.takes ∙ given display_at
          (λ s. display_string s) _ _ _ (ap (λ (k : Parser × Global). display_at (drop c.take_if.new.self.index
          (kept_input k))) (sym read.1) ∙ c.in_ok-text-in-Unescaped.ensures (rest c.quoted_text.new.self) pieces),
      read.1 ∙ c.take_if.ensures.kept ∙ c.skip.ensures.kept,
    )

pub returns-in_ok-text-in-Unescaped-clause-borrowed : goal.returns-in_ok-text-in-Unescaped-clause-borrowed
returns-in_ok-text-in-Unescaped-clause-borrowed c =
    after_opening true _ c.args.self.now c.take_if.new.self c.quoted_text.new.self
    (display_opens _ _ _ c.requires c.skip.ensures.skips c.if-not-take_if.ensures.takes)
    (rw c.in-Unescaped.is at c.in_ok-bytes.ensures.plain)
