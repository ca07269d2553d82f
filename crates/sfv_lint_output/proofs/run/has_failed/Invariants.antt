use Rattle.std.{proofs.Common.{◌≡◌, false, take}, specs.List.list_any}
use Rattle.sfv_lint_report.specs.Reports.{has_error}
use Rattle.sfv_lint_output.proofs.run.has_failed.Given as goal

abbrev pub invariant-loop-field : goal.invariant-loop-field
invariant-loop-field l = list_any has_error (take l.field-index l.fields) ≡ false
