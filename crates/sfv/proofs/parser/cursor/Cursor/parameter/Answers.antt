use Rattle.std.proofs.Common.{◌∙◌, ap}
use Rattle.sfv_model.specs.Items.{key_at, value_at}
use Rattle.sfv.specs.parser.Cursor.{kept_version}
use Rattle.sfv.proofs.reads.Errors.{left_with, kept_reads, ErrorOf-fault, ErrorOf-part}
use Rattle.sfv.proofs.{reads.Steps.{parameter_is, parameter_keyed, parameter_some}, visits.AsRead.parameter_next}
use Rattle.sfv.proofs.parser.cursor.Cursor.parameter.Goals as goal

pub returns-in_err-key-clause-read : goal.returns-in_err-key-clause-read
returns-in_err-key-clause-read c = rw (left_with c.from_residual.ensures.1)
    (ErrorOf-part _ _ _ (λ _. key_at) _ _ _ (c.skip_sp.ensures.kept ∙ c.take_if.ensures.kept)
    (parameter_is _ _ _ _ _ c.if-not-take_if.ensures.takes c.skip_sp.ensures.skipped.1)
    (ErrorOf-fault _ _ _ c.in_err-key.ensures.read))

pub returns-in_err-value-clause-read : goal.returns-in_err-value-clause-read
returns-in_err-value-clause-read c = rw (left_with c.from_residual-in_err-value.ensures.1)
    (ErrorOf-part _ _ _ value_at _ _ _ (c.in_ok-key.ensures.read.1 ∙ c.skip_sp.ensures.kept ∙ c.take_if.ensures.kept)
    (parameter_keyed _ _ _ _ _ _ _ c.if-not-take_if.ensures.takes c.skip_sp.ensures.skipped.1
    c.in_ok-key.ensures.read.0) c.in_err-value.ensures.read)

pub returns-clause-read : goal.returns-clause-read
returns-clause-read c =
    let same = c.in_ok-key.ensures.read.1 ∙ c.skip_sp.ensures.kept ∙ c.take_if.ensures.kept in (
      parameter_some _ _ _ _ _ _ _ _ _ c.if-not-take_if.ensures.takes c.skip_sp.ensures.skipped.1 c.in_ok-key.ensures.read.0
          (kept_reads value_at _ _ _ same ∙ c.in_ok-value.ensures.read.0),
      c.in_ok-value.ensures.read.1 ∙ same,
    )

pub returns-clause-next : goal.returns-clause-next
returns-clause-next c = parameter_next _ _ _ _ _ _ _ _ _ _ (ap kept_version (c.in_ok-key.ensures.read.1
    ∙ c.skip_sp.ensures.kept ∙ c.take_if.ensures.kept)) c.if-not-take_if.ensures.takes c.skip_sp.ensures.skipped.1
    c.in_ok-key.ensures.read.0 c.in_ok-value.ensures.next
