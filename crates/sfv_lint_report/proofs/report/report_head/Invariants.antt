use Rattle.std.proofs.Common.{take, map, All}
use Rattle.sfv_lint_head.specs.Heads.{line_of}
use Rattle.sfv_lint_report.specs.Reports.{AreFieldsOf, IsCovered}
use Rattle.sfv_lint_report.proofs.report.report_head.Given as goal

abbrev pub invariant-loop-line : goal.invariant-loop-line
invariant-loop-line l = AreFieldsOf l.version (map line_of l.line-items) l.report
    × All (λ line. IsCovered l.report line.name.items) (take l.line-index l.line-items)
