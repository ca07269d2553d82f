use Rattle.std.proofs.Common.{◌∷◌, [], false, codes, refl}
use Rattle.sfv.specs.{CheckedTexts.text_of, Serializers.{sequence_version, LacksNext}}
use Rattle.sfv_examples.proofs.Exits.{at_exit, only_memory}
use Rattle.sfv.specs.Values as values
use Rattle.sfv_examples.proofs.serializing.write_second.Goals as goal

pub returns-clause-text : goal.returns-clause-text
returns-clause-text g c =
    let written = c.in_ok-write_named_pair.ensures.text in (
      written.0,
      rw (
        c.token_ref.ensures,
        c.token_ref-2.ensures,
        c.string_ref.ensures,
        c.key_ref.ensures,
        c.key_ref-2.ensures,
        c.key_ref-3.ensures,
      ) at written.1,
      written.2,
      written.3,
      written.4,
      written.5,
    )

pub returns-in_err-write_named_pair-clause-room : goal.returns-in_err-write_named_pair-clause-room
returns-in_err-write_named_pair-clause-room g c =
    let e = c.in_err-write_named_pair.field-0.0 in
    let memory = only_memory (sequence_version c.args.dictionary.now) (values.token (text_of c.token_ref.result)
    ∷ values.boolean false ∷ values.token (text_of c.token_ref-2.result) ∷ values.string (text_of c.string_ref.result)
    ∷ []) e (refl, (refl, (refl, (refl, tt)))) c.in_err-write_named_pair.ensures.unsupported in
    let lacks = rw (
      c.token_ref.ensures,
      c.token_ref-2.ensures,
      c.string_ref.ensures,
      c.key_ref.ensures,
      c.key_ref-2.ensures,
      c.key_ref-3.ensures,
    ) at (c.in_err-write_named_pair.ensures.room memory) in
    at_exit e c.from_residual.result c.from_residual.ensures.1 _ (λ _. LacksNext g.W.Sink
    (codes ", ") c.args.dictionary.now (codes "member2=(abc;abc_param=?0 def);bar=\"val\"")) lacks
