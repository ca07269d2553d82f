use Rattle.std.{proofs.Common.{sym, ◌∙◌, IsAscii}, specs.Str.IsNotAscii}
use Rattle.sfv_signatures.proofs.Ascii.{ascii_checked, broken_checked, other_checked}
use Rattle.sfv_signatures.proofs.base.check_value.Goals as goal

pub returns-then-not-is_ascii : goal.returns-then-not-is_ascii
returns-then-not-is_ascii c =
    let some : IsNotAscii c.args.value.now = rw c.if-not-is_ascii.true at c.is_ascii.ensures.cases in
    other_checked c.args.value.now some

pub returns-then-has_line_break : goal.returns-then-has_line_break
returns-then-has_line_break c =
    let all : IsAscii c.args.value.now = rw c.if-not-is_ascii.false at c.is_ascii.ensures.cases in
    broken_checked c.args.value.now (sym c.has_line_break.ensures ∙ c.if-has_line_break.true) all

pub returns : goal.returns
returns c =
    let all : IsAscii c.args.value.now = rw c.if-not-is_ascii.false at c.is_ascii.ensures.cases in
    ascii_checked c.args.value.now (sym c.has_line_break.ensures ∙ c.if-has_line_break.false) all
