use Rattle.std.proofs.Common.{◌≡◌, ◌≤◌, take, length, filter}
use Rattle.sfv_lint_report.specs.Reports.{has_error}
use Rattle.sfv_lint_report.proofs.print.errors.Given as goal

abbrev pub invariant-loop-field : goal.invariant-loop-field
invariant-loop-field l = (l.errors ≡ length (filter has_error (take l.field-index l.fields))) × (l.errors ≤ l.field-index)
