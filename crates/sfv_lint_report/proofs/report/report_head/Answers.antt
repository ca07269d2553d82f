use Rattle.std.proofs.Common.{map}
use Rattle.sfv_lint_head.specs.Heads.{line_of}
use Rattle.sfv_lint_report.proofs.Fields.{one_more_line, all_lines}
use Rattle.sfv_lint_report.proofs.report.report_head.Goals as goal

pub loop-line-preserved : goal.loop-line-preserved
loop-line-preserved c = one_more_line (λ line. line.name.items) c.args.version (map line_of c.deref-line-items.result.now)
    c.deref-line-items.result.now c.loop-line.line-index c.line-item.result c.loop-line.report c.add.new.self
    c.loop-line-test.true
    (rw (← c.line-item.is, ← c.as_slice-in-loop-line.ensures.value, c.deref-line-items.ensures.value, ← c.as_slice.ensures.value)
    c.in_ok-add.ensures)
    c.loop-line.invariant

pub returns-clause-report : goal.returns-clause-report
returns-clause-report c = record {
  lines = map line_of c.in_ok-lines.lines.items;
  head = c.in_ok-lines.ensures.lines;
  fields = rw (← c.deref-line-items.ensures.value) c.loop-line.invariant.0;
  complete = rw (← c.deref-line-items.ensures.value) (all_lines line_of c.loop-line.report
      c.deref-line-items.result.now c.loop-line.line-index c.loop-line-test.false c.loop-line.invariant.1);
}
