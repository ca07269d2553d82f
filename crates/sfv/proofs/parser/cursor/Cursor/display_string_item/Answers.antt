use Rattle.std.proofs.Common.{◌∙◌, refl}
use Rattle.sfv_model.{specs.Bare.quoted_at, proofs.Types.Rfc9651}
use Rattle.sfv.{specs.parser.Cursor.kept, proofs.reads.Errors.{left_with, ErrorOf-same}, proofs.reads.Steps.bare_quoted}
use Rattle.sfv.proofs.parser.cursor.Cursor.display_string_item.Goals as goal

pub returns-in_err-display_string-in-Rfc9651-clause-read : goal.returns-in_err-display_string-in-Rfc9651-clause-read
returns-in_err-display_string-in-Rfc9651-clause-read c =
    rw (left_with c.from_residual.ensures.1, c.in-Rfc9651.is) (ErrorOf-same (kept c.args.self.now) (kept c.args.self.now) _ (λ _. quoted_at Rfc9651) _ _ refl
    (bare_quoted Rfc9651 _ c.requires) c.in_err-display_string-in-Rfc9651.ensures.read)

pub returns-in_ok-display_string-in-Rfc9651-clause-read : goal.returns-in_ok-display_string-in-Rfc9651-clause-read
returns-in_ok-display_string-in-Rfc9651-clause-read c = (rw c.in-Rfc9651.is (bare_quoted Rfc9651 _ c.requires ∙ c.in_ok-display_string-in-Rfc9651.ensures.read.0), c.in_ok-display_string-in-Rfc9651.ensures.read.1)
