use Rattle.std.proofs.Common.{◌∙◌}
use Rattle.sfv_model.specs.Bare.{boolean_at}
use Rattle.sfv.proofs.reads.{Errors.{left_with, FaultOf-same}, Steps.bare_boolean}
use Rattle.sfv.proofs.parser.cursor.Cursor.boolean_item.Goals as goal

pub returns-in_err-boolean-clause-read : goal.returns-in_err-boolean-clause-read
returns-in_err-boolean-clause-read c =
    rw (left_with c.from_residual.ensures.1) (FaultOf-same _ _ _ (λ _. boolean_at) _ _ c.skip.ensures.kept
    (bare_boolean _ _ _ c.requires c.skip.ensures.skips) c.in_err-boolean.ensures)

pub returns-clause-read : goal.returns-clause-read
returns-clause-read c = (
  bare_boolean _ _ _ c.requires c.skip.ensures.skips ∙ c.in_ok-boolean.ensures.0,
  c.in_ok-boolean.ensures.1 ∙ c.skip.ensures.kept,
)
