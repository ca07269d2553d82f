use Rattle.std.proofs.Common.{refl, ◌∙◌, sym}
use Rattle.sfv.{specs.parser.Cursor.{kept, rest}, proofs.reads.Errors.FaultOf-here}
use Rattle.sfv.proofs.reads.Escapes.{digit_cut, digit_wrong, no_digit, digit_is, no_first, first_is}
use Rattle.sfv.proofs.parser.cursor.Cursor.escape_digit.Goals as goal

pub returns-in_default : goal.returns-in_default
returns-in_default c =
    let cut = digit_cut (rest c.args.self.now) (no_first _ (sym c.peek.ensures ∙ c.in_default.is)) in
    rw c.error.ensures (
      FaultOf-here _ c.args.self.now (kept c.args.self.now) _ refl cut.0,
      λ high. FaultOf-here _ c.args.self.now (kept c.args.self.now) _ refl (cut.1 high),
    )

pub returns-in_default-escape_digit_value : goal.returns-in_default-escape_digit_value
returns-in_default-escape_digit_value c =
    let wrong = digit_wrong (rest c.args.self.now) c.in-Some.byte (sym c.peek.ensures
    ∙ c.in-Some.is) (no_digit c.in-Some.byte (sym c.escape_digit_value.ensures ∙ c.in_default-escape_digit_value.is)) in
    rw c.error-in_default-escape_digit_value.ensures (
      FaultOf-here _ c.args.self.now (kept c.args.self.now) _ refl wrong.0,
      λ high. FaultOf-here _ c.args.self.now (kept c.args.self.now) _ refl (wrong.1 high),
    )

pub returns : goal.returns
returns c =
    let digit = digit_is c.in-Some.byte _ (sym c.escape_digit_value.ensures ∙ c.in-Some-escape_digit_value.is) in (
      (c.in-Some.byte, first_is _ _ _ _ (sym c.peek.ensures ∙ c.in-Some.is) c.skip.ensures.skips.1, digit.0, digit.1),
      digit.2,
      c.skip.ensures.kept,
    )
