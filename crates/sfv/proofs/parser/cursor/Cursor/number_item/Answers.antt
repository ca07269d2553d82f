use Rattle.std.proofs.Common.{◌∙◌, refl, false}
use Rattle.sfv_model.specs.Bare.{number_at}
use Rattle.sfv.{specs.parser.Cursor.kept, proofs.parser.cursor.Cursor.number_item.Goals.{in-Integer, in-Decimal}}
use Rattle.sfv.proofs.reads.{Errors.{left_with, FaultOf-same}, Steps.bare_number}
use Rattle.sfv.proofs.parser.cursor.Cursor.number_item.Goals as goal

pub returns-in_err-value-clause-read : goal.returns-in_err-value-clause-read
returns-in_err-value-clause-read c = rw (left_with c.from_residual.ensures.1) (FaultOf-same (kept c.args.self.now) _ _
    (λ _. number_at false) _ _ refl (bare_number _ _ c.requires) (c.in_err-value.ensures false))

pub returns-clause-read : goal.returns-clause-read
returns-clause-read c =
    let read = c.in_ok-value.ensures false in
    let at_number = bare_number _ _ c.requires in
    elim c.match-branch-2.branch [
      | in-Integer w ↦ (let n = rw w.in-Integer.is at read in (rw w.result-is (at_number ∙ n.0), n.1))
      | in-Decimal w ↦ (let n = rw w.in-Decimal.is at read in (rw w.result-is (at_number ∙ n.0), n.1))
    ]
