use Rattle.std.proofs.{Common.{rules, string_bytes, IsCharBoundary}, lemmas.Str.IsUtf8-string_bytes}
use Rattle.sfv_writer.proofs.Written.{cut_there, cut_nowhere}
use Rattle.sfv_writer.proofs.output.truncate_to.Goals as goal

pub returns-then-is_char_boundary-clause-text : goal.returns-then-is_char_boundary-clause-text
returns-then-is_char_boundary-clause-text g c =
    cut_there (string_bytes c.args.output.now) _ c.args.len (IsUtf8-string_bytes c.args.output.now) (search rules)

pub returns-else-is_char_boundary-clause-text : goal.returns-else-is_char_boundary-clause-text
returns-else-is_char_boundary-clause-text g c =
    let none : ¬ IsCharBoundary (string_bytes c.args.output.now) c.args.len = search rules in
    cut_nowhere (string_bytes c.args.output.now) c.args.len (IsUtf8-string_bytes c.args.output.now) none
