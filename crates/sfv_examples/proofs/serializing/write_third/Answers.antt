use Rattle.std.proofs.Common.{codes, refl}
use Rattle.sfv.specs.{NumberValues.thousandths_of, Serializers.{sequence_version, LacksNext}}
use Rattle.sfv_examples.proofs.Exits.{at_exit, one_memory}
use Rattle.sfv.specs.Values as values
use Rattle.std.specs.Fmt as fmt
use Rattle.sfv_examples.proofs.serializing.write_third.Goals as goal

pub returns-clause-text : goal.returns-clause-text
unfolding fmt.digits
returns-clause-text g c =
    let written = c.in_ok-write_bare.ensures.text in
    (written.0, rw (c.from_integer_scaled_1000.ensures, c.integer-thousandths.ensures, c.key_ref.ensures) at written.1, written.2, written.3, written.4, written.5)

pub returns-in_err-write_bare-clause-room : goal.returns-in_err-write_bare-clause-room
unfolding fmt.digits
returns-in_err-write_bare-clause-room g c =
    let e = c.in_err-write_bare.field-0.0 in
    let memory = one_memory (sequence_version c.args.dictionary.now)
    (values.decimal (thousandths_of c.from_integer_scaled_1000.result)) e refl c.in_err-write_bare.ensures.unsupported in
    let lacks = rw (c.from_integer_scaled_1000.ensures, c.integer-thousandths.ensures, c.key_ref.ensures)
    at (c.in_err-write_bare.ensures.room memory) in
    at_exit e c.from_residual.result c.from_residual.ensures.1 _
    (λ _. LacksNext g.W.Sink (codes ", ") c.args.dictionary.now (codes "member3=12.346")) lacks
