use Rattle.std.{proofs.Common.{◌≡◌, false, take}, specs.List.list_any}
use Rattle.sfv_lint_report.specs.Reports.{is_of_name}
use Rattle.sfv_lint_report.proofs.report.has_field.Given as goal

abbrev pub invariant-loop-field : goal.invariant-loop-field
invariant-loop-field l = list_any (is_of_name l.name) (take l.field-index l.fields) ≡ false
