-- Each branch writes the digits that the text of the decimal has for such a fraction.
use Rattle.std.proofs.{Common.arith, Output.has_written_of_eq}
use Rattle.sfv_base.specs.Numbers.{thousandths_of}
use Rattle.sfv_base.proofs.DecimalText.{fraction-one, fraction-two, fraction-three, written-text}
use Rattle.sfv_base.proofs.decimal.DecimalDisplay.fmt.Goals as goal

pub returns-then-fraction-eq0-clause-writes : goal.returns-then-fraction-eq0-clause-writes
returns-then-fraction-eq0-clause-writes g c = λ plain ok. has_written_of_eq _ _ _ _ _
    (written-text (thousandths_of c.args.self.now) _ _ _ c.sign-sign.ensures c.magnitude-magnitude.ensures
    (fraction-one _ (omega arith) c.if-fraction-eq0.true)) (c.write.ensures.writes plain ok)

pub returns-then-fraction-eq0-2-clause-writes : goal.returns-then-fraction-eq0-2-clause-writes
returns-then-fraction-eq0-2-clause-writes g c = λ plain ok. has_written_of_eq _ _ _ _ _
    (written-text (thousandths_of c.args.self.now) _ _ _ c.sign-sign.ensures c.magnitude-magnitude.ensures
    (fraction-two _ (omega arith) c.if-fraction-eq0.false c.if-fraction-eq0-2.true))
    (c.write-then-fraction-eq0-2.ensures.writes plain ok)

pub returns-else-fraction-eq0-2-clause-writes : goal.returns-else-fraction-eq0-2-clause-writes
returns-else-fraction-eq0-2-clause-writes g c = λ plain ok. has_written_of_eq _ _ _ _ _
    (written-text (thousandths_of c.args.self.now) _ _ _ c.sign-sign.ensures c.magnitude-magnitude.ensures
    (fraction-three _ (omega arith) c.if-fraction-eq0.false c.if-fraction-eq0-2.false))
    (c.write-else-fraction-eq0-2.ensures.writes plain ok)
