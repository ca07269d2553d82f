use Rattle.std.proofs.Common.{arith}
use Rattle.sfv_spec.proofs.Marks.{is_digit}
use Rattle.sfv.proofs.reads.Runs.{up_to_run, spells_none, spells_more, spelt_below}
use Rattle.sfv.proofs.parser.digits.digit_run.Goals as goal

pub overflow_mul-value : goal.overflow_mul-value
overflow_mul-value c = omega (arith, spelt_below _ _ 14 c.loop-count.invariant.2 (omega arith))

pub overflow_add-value : goal.overflow_add-value
overflow_add-value c = omega (arith, c.in-Some.ensures, spelt_below _ _ 14 c.loop-count.invariant.2 (omega arith))

pub loop-count-init : goal.loop-count-init
loop-count-init c = (omega arith, omega arith, spells_none c.args.bytes.now)

pub loop-count-preserved : goal.loop-count-preserved
loop-count-preserved c = (
  omega arith,
  omega arith,
  rw c.in-Some.ensures.1 (spells_more _ _ _ c.if-count-bytes.true c.in-Some.ensures.0 c.loop-count.invariant.2),
)

pub returns-in_default-clause-run : goal.returns-in_default-clause-run
returns-in_default-clause-run c = up_to_run is_digit _ _ _ (omega arith) (omega arith)
    c.loop-count.invariant.2.each (λ _ _. c.in_default.ensures)

pub returns-else-count-bytes-clause-run : goal.returns-else-count-bytes-clause-run
returns-else-count-bytes-clause-run c = up_to_run is_digit _ _ _ (omega arith) (omega arith)
    c.loop-count.invariant.2.each (λ _ lt. absurd (omega arith))

pub returns-after-loop-count-clause-run : goal.returns-after-loop-count-clause-run
returns-after-loop-count-clause-run c = up_to_run is_digit _ _ _ (omega arith) (omega arith)
    c.loop-count.invariant.2.each (λ lt _. absurd (omega arith))
