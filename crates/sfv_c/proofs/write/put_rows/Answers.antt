use Rattle.std.proofs.{Common.{arith, refl, subst}, lemmas.Bool.Decides.nat_tests}
use Rattle.sfv_c.{specs.Answers.Puts, proofs.Fields.{write_fault, no_rows, text_put}, proofs.WrongRows.wrong_rows}
use Rattle.sfv_c.proofs.write.put_rows.Goals as goal

pub returns-in-Err : goal.returns-in-Err
returns-in-Err c = (wrong_rows c.args.kind c.args.rows.now c.in-Err.wrong.index _ _ c.in-Err.ensures, refl)

pub returns-then-is_empty : goal.returns-then-is_empty
returns-then-is_empty c = no_rows c.args.writing c.args.kind c.args.rows.now _ _ c.args.out.now c.in_default.ensures
    (grind (arith, nat_tests, c.if-is_empty.ensures))

pub returns-in-Some : goal.returns-in-Some
returns-in-Some c = (
  write_fault c.args.writing c.args.kind c.args.rows.now _ _ c.new-output.ensures.version
      c.new-output.ensures.error c.in_default.ensures (grind (arith, nat_tests, c.if-is_empty.ensures))
      c.in-Some.error c.in-Some.is,
  refl,
)

pub returns : goal.returns
returns c = text_put c.args.writing c.args.kind c.args.rows.now _ _ c.new-output.ensures.version
    c.new-output.ensures.error c.in_default.ensures (grind (arith, nat_tests, c.if-is_empty.ensures))
    c.new-output.ensures.text c.in_default-error.is _ _ _
    (subst (λ t. Puts t c.args.out.now c.put.new.out c.put.result) c.as_str.ensures.value c.put.ensures)
