use Rattle.std.proofs.Common.{refl, ◌∙◌, sym, ap, arith, length, ℕ}
use Rattle.sfv.{specs.parser.Cursor.kept, proofs.reads.Errors.FaultOf-here}
use Rattle.sfv.proofs.reads.Escapes.{string_cut, string_wrong, string_escaped, no_first, first_is}
use Rattle.sfv.proofs.parser.quoted.InStringQuotedText.take_escape.Goals as goal

pub returns-in_default : goal.returns-in_default
returns-in_default c = rw c.error.ensures (FaultOf-here _ c.args.cursor.now (kept c.args.cursor.now) _ refl
    (string_cut _ (no_first _ (sym c.peek.ensures ∙ c.in_default.is))))

pub returns-then-not-is_escaped_in_string : goal.returns-then-not-is_escaped_in_string
returns-then-not-is_escaped_in_string c =
    rw c.error-then-not-is_escaped_in_string.ensures (FaultOf-here _ c.args.cursor.now _ _ refl (string_wrong _ _
    (sym c.peek.ensures ∙ c.in-Some.is) (sym c.is_escaped_in_string.ensures ∙ c.if-not-is_escaped_in_string.true)))

pub returns : goal.returns
returns c =
    let here = first_is _ _ _ _ (sym c.peek.ensures ∙ c.in-Some.is) c.skip.ensures.skips.1 in
    let n = ap (length {A = ℕ}) here in (
      string_escaped _ _ _ here (sym c.is_escaped_in_string.ensures ∙ c.if-not-is_escaped_in_string.false),
      omega (arith, n),
      c.skip.ensures.kept,
    )
