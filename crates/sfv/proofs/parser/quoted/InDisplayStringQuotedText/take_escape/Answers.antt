use Rattle.std.proofs.Common.{◌≡◌, ◌∷◌, ◌∙◌, ap, arith, length, ℕ}
use Rattle.sfv.specs.parser.Cursor.{rest}
use Rattle.sfv.proofs.reads.{Errors.left_with, Escapes.{both_digits, second_fault}}
use Rattle.sfv.proofs.parser.quoted.InDisplayStringQuotedText.take_escape.Goals as goal

pub returns-in_err-high : goal.returns-in_err-high
returns-in_err-high c = rw (left_with c.from_residual.ensures.1) c.in_err-high.ensures.0

pub returns-in_err-low : goal.returns-in_err-low
returns-in_err-low c =
    let h = c.in_ok-high.ensures.0 in
    rw (left_with c.from_residual-in_err-low.ensures.1) (second_fault _ _ _ _ _ h.0 c.in_ok-high.ensures.2 h.1 h.2 (c.in_err-low.ensures.1 h.0))

pub returns : goal.returns
returns c =
    let h = c.in_ok-high.ensures.0 in
    let l = c.in_ok-low.ensures.0 in
    let n = ap (length {A = ℕ}) h.1 in
    let m = ap (length {A = ℕ}) l.1 in (
      rw (h.3, l.3) (both_digits _ _ _ _ _ h.1 h.2 l.1 l.2),
      omega (arith, n, m),
      c.in_ok-low.ensures.2 ∙ c.in_ok-high.ensures.2,
    )

pub returns-in-Some : goal.returns-in-Some
returns-in-Some c =
    let h = c.in-Some.ensures in
    let first : rest c.args.cursor.now ≡ h.0 ∷ rest c.skip.new.self = cc (h.3, c.skip.ensures.skips.1) in
    let second : rest c.skip.new.self ≡ h.1 ∷ rest c.skip-in-Some.new.self =
    cc (first, h.3, c.skip-in-Some.ensures.skips.1) in
    let n = ap (length {A = ℕ}) first in
    let m = ap (length {A = ℕ}) second in (
      rw h.6 (both_digits _ _ _ _ _ first h.4 second h.5),
      omega (arith, n, m),
      c.skip-in-Some.ensures.kept ∙ c.skip.ensures.kept,
    )
