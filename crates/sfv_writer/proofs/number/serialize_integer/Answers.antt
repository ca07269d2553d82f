use Rattle.std.proofs.Common.{◌∙◌, refl, ap, subst, nat_abs}
use Rattle.sfv_base.specs.Numbers.{integer_of}
use Rattle.sfv_writer.{specs.Written.AppendsOrKeeps, proofs.Decimals.{same_number, natural_text}}
use Rattle.sfv_writer.proofs.number.serialize_integer.Goals as goal

pub returns-clause-text : goal.returns-clause-text
returns-clause-text g c =
    let result = c.serialize_natural.result in
    let z = integer_of c.args.value in
    let same = same_number c.from-value.result _ z c.from-value.ensures refl in
    subst (λ text. AppendsOrKeeps c.args.output.now c.serialize_natural.new.output text result) (natural_text _ z _ same
    (c.unsigned_abs.ensures.value ∙ ap nat_abs same) c.if-value-lt0.false) c.serialize_natural.ensures.text
