use Rattle.std.proofs.{Common.{sym, arith}, lemmas.Grind.common_steps}
use Rattle.sfv_lint_head.proofs.Steps.{first_line_at, after_line_at, first_line_none, after_line_none}
use Rattle.sfv_lint_head.proofs.lines.split_line.Goals as goal

pub returns-in-Some-clause-line : goal.returns-in-Some-clause-line
returns-in-Some-clause-line c = let h = c.in-Some.ensures in
    sym (first_line_at c.args.text.now c.in-Some.end h.0.high h.1 (λ i below. h.0.before i (omega arith) below))

pub returns-in-Some-clause-rest : goal.returns-in-Some-clause-rest
returns-in-Some-clause-rest c = let h = c.in-Some.ensures in
    rw (after_line_at c.args.text.now c.in-Some.end h.0.high h.1 (λ i below. h.0.before i (omega arith) below))
    (grind (arith, common_steps))

pub returns-in-None-clause-line : goal.returns-in-None-clause-line
returns-in-None-clause-line c = sym (first_line_none c.args.text.now (λ i below. c.in-None.ensures i (omega arith) below))

pub returns-in-None-clause-rest : goal.returns-in-None-clause-rest
returns-in-None-clause-rest c = sym (after_line_none c.args.text.now (λ i below. c.in-None.ensures i (omega arith) below))
