use Rattle.sfv_headers.proofs.ReadErrors.{joining_fails}
use Rattle.sfv_headers.proofs.reading.read_field.Goals as goal

pub returns-in_err-text-clause-rejected : goal.returns-in_err-text-clause-rejected
returns-in_err-text-clause-rejected g c = joining_fails c.args.version g.T.FieldType.kind c.args.headers.now
    (g.K.AsHeaderName.name c.args.name) c.from_residual.result c.from_residual.ensures.1 c.in_err-text.ensures.memory
