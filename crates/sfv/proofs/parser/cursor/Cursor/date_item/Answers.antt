use Rattle.std.proofs.Common.{◌∙◌, refl}
use Rattle.sfv_model.{specs.Bare.date_at, proofs.Types.Rfc9651}
use Rattle.sfv.{specs.parser.Cursor.kept, proofs.reads.Errors.{left_with, FaultOf-same}, proofs.reads.Steps.bare_date}
use Rattle.sfv.proofs.parser.cursor.Cursor.date_item.Goals as goal

pub returns-in_err-date-in-Rfc9651-clause-read : goal.returns-in_err-date-in-Rfc9651-clause-read
returns-in_err-date-in-Rfc9651-clause-read c =
    rw (left_with c.from_residual.ensures.1, c.in-Rfc9651.is) (FaultOf-same (kept c.args.self.now) (kept c.args.self.now) _ (λ _. date_at Rfc9651) _ _ refl
    (bare_date Rfc9651 _ c.requires) c.in_err-date-in-Rfc9651.ensures)

pub returns-in_ok-date-in-Rfc9651-clause-read : goal.returns-in_ok-date-in-Rfc9651-clause-read
returns-in_ok-date-in-Rfc9651-clause-read c = (rw c.in-Rfc9651.is (bare_date Rfc9651 _ c.requires ∙ c.in_ok-date-in-Rfc9651.ensures.0), c.in_ok-date-in-Rfc9651.ensures.1)
