use Rattle.std.proofs.Common.{◌∙◌, false}
use Rattle.sfv_model.specs.Quoted.{string_at}
use Rattle.sfv.{specs.Field.string, proofs.reads.Errors.{left_with, ErrorOf-part}}
use Rattle.sfv.proofs.reads.{Escapes.{string_opens, after_opening}, Steps.{bare_string, given}}
use Rattle.sfv.proofs.parser.cursor.Cursor.string_item.Goals as goal

pub returns-in_err-string-clause-read : goal.returns-in_err-string-clause-read
returns-in_err-string-clause-read c =
    rw (left_with c.from_residual.ensures.1) (ErrorOf-part _ _ _ (λ _. string_at) _ _ _ c.skip.ensures.kept
    (bare_string _ _ _ c.requires c.skip.ensures.skips) c.in_err-string.ensures.read)

pub returns-clause-read : goal.returns-clause-read
returns-clause-read c = (
  bare_string _ _ _ c.requires c.skip.ensures.skips ∙ given _ _ _ _ _ c.in_ok-string.ensures.read.0,
  c.in_ok-string.ensures.read.1 ∙ c.skip.ensures.kept,
)

pub returns-clause-borrowed : goal.returns-clause-borrowed
returns-clause-borrowed c = after_opening false _ c.args.self.now c.skip.new.self c.string.new.self
    (string_opens _ _ c.requires c.skip.ensures.skips) c.in_ok-string.ensures.borrowed
