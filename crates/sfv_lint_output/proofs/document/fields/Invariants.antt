use Rattle.std.{proofs.Common.{take, map}, specs.List.AllZip}
use Rattle.serde_json.specs.View.{view}
use Rattle.sfv_lint_output.specs.Documents.{IsFieldJson}
use Rattle.sfv_lint_output.proofs.document.fields.Given as goal

abbrev pub invariant-loop-this : goal.invariant-loop-this
invariant-loop-this l = AllZip IsFieldJson (take l.this-index l.fields) (map view l.values.items)
