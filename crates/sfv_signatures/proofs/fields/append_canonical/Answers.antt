use Rattle.std.proofs.Common.{Ok}
use Rattle.sfv.specs.{Canonical.canonical, Parsers.IsParseError, Types.Rfc9651}
use Rattle.sfv_signatures.proofs.FieldValues.{parse_failed}
use Rattle.sfv_signatures.proofs.fields.append_canonical.Goals as goal

pub returns-in-Err : goal.returns-in-Err
returns-in-Err g c =
    let kind = g.T.FieldType.kind in
    let rejected : IsParseError Rfc9651 kind c.args.text.now c.in-Err.error = rw c.new.ensures at c.in-Err.ensures.rejected in
    parse_failed kind (λ value. Ok (canonical kind value)) c.args.text.now c.in-Err.error c.parse_fault.result
    c.parse_fault.ensures rejected
