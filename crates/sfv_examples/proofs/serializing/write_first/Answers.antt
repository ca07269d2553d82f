use Rattle.std.proofs.Common.{◌∷◌, [], true, codes, refl}
use Rattle.sfv.specs.{NumberValues.integer_of, Serializers.{sequence_version, LacksNext}}
use Rattle.sfv_examples.proofs.Exits.{at_exit, only_memory}
use Rattle.sfv.specs.Values as values
use Rattle.std.specs.Fmt as fmt
use Rattle.sfv_examples.proofs.serializing.write_first.Goals as goal

pub returns-clause-text : goal.returns-clause-text
unfolding fmt.digits
returns-clause-text g c =
    let written = c.in_ok-write_named.ensures.text in
    (written.0, rw (c.integer.ensures, c.key_ref.ensures, c.key_ref-2.ensures) at written.1, written.2, written.3, written.4, written.5)

pub returns-in_err-write_named-clause-room : goal.returns-in_err-write_named-clause-room
unfolding fmt.digits
returns-in_err-write_named-clause-room g c =
    let e = c.in_err-write_named.field-0.0 in
    let memory = only_memory (sequence_version c.args.dictionary.now) (values.integer (integer_of c.integer.result)
    ∷ values.boolean true ∷ []) e (refl, (refl, tt)) c.in_err-write_named.ensures.unsupported in
    let lacks = rw (c.integer.ensures, c.key_ref.ensures, c.key_ref-2.ensures)
    at (c.in_err-write_named.ensures.room memory) in
    at_exit e c.from_residual.result c.from_residual.ensures.1 _
    (λ _. LacksNext g.W.Sink (codes ", ") c.args.dictionary.now (codes "member1=11;foo")) lacks
