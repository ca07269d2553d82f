use Rattle.std.proofs.Common.{◌∷◌, [], false, codes, refl}
use Rattle.sfv.specs.Serializers.{sequence_version, LacksNext}
use Rattle.sfv_examples.proofs.Exits.{at_exit, only_memory}
use Rattle.sfv.specs.Values as values
use Rattle.sfv_examples.proofs.serializing.write_none.Goals as goal

pub returns-clause-text : goal.returns-clause-text
returns-clause-text g c =
    let written = c.in_ok-write_empty.ensures.text in
    (written.0, rw c.key_ref.ensures at written.1, written.2, written.3, written.4, written.5)

pub returns-in_err-write_empty-clause-room : goal.returns-in_err-write_empty-clause-room
returns-in_err-write_empty-clause-room g c =
    let e = c.in_err-write_empty.field-0.0 in
    let memory = only_memory (sequence_version c.args.list.now) (values.boolean false ∷ []) e (refl, tt)
    c.in_err-write_empty.ensures.unsupported in
    let lacks = rw c.key_ref.ensures at (c.in_err-write_empty.ensures.room memory) in
    at_exit e c.from_residual.result c.from_residual.ensures.1 _
    (λ _. LacksNext g.W.Sink (codes ", ") c.args.list.now (codes "();b=?0")) lacks
