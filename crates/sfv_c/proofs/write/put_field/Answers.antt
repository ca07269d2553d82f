use Rattle.std.proofs.Common.{sym, subst}
use Rattle.sfv.specs.{CheckedTexts.text_of, Types.FieldKind}
use Rattle.sfv_c.{specs.Answers.Puts, specs.Writing.PutsRows, proofs.Fields.token_put}
use Rattle.sfv_c.proofs.write.put_field.Goals as goal

pub returns-in-Some : goal.returns-in-Some
returns-in-Some c =
    let out = c.args.out.now in
    subst (λ (k : FieldKind). PutsRows c.args.writing k c.args.rows.now out c.put.new.out c.put.result)
    (sym c.in-Some.ensures.0) (token_put c.args.writing c.args.rows.now (text_of c.in-Some.token) c.in-Some.ensures.1
    out c.put.new.out c.put.result (subst (λ t. Puts t out c.put.new.out c.put.result) c.as_str.ensures.text c.put.ensures))
