use Rattle.std.proofs.Common.{◌∙◌}
use Rattle.sfv_model.specs.Content.{bytes_at}
use Rattle.sfv.proofs.reads.{Errors.{left_with, ErrorOf-part}, Steps.{bare_bytes, given}}
use Rattle.sfv.proofs.parser.cursor.Cursor.byte_sequence_item.Goals as goal

pub returns-in_err-byte_sequence-clause-read : goal.returns-in_err-byte_sequence-clause-read
returns-in_err-byte_sequence-clause-read c =
    rw (left_with c.from_residual.ensures.1) (ErrorOf-part _ _ _ (λ _. bytes_at) _ _ _ c.skip.ensures.kept
    (bare_bytes _ _ _ c.requires c.skip.ensures.skips) c.in_err-byte_sequence.ensures.read)

pub returns-clause-read : goal.returns-clause-read
returns-clause-read c = (
  bare_bytes _ _ _ c.requires c.skip.ensures.skips ∙ given _ _ _ _ _ c.in_ok-byte_sequence.ensures.read.0,
  c.in_ok-byte_sequence.ensures.read.1 ∙ c.skip.ensures.kept,
)
