use Rattle.std.proofs.Common.{◌≡◌, take, map}
use Rattle.serde_json.specs.View.{view}
use Rattle.sfv_lint_output.specs.Documents.{bytes_json}
use Rattle.sfv_lint_output.proofs.document.names.Given as goal

abbrev pub invariant-loop-name : goal.invariant-loop-name
invariant-loop-name l = map view l.names.items ≡ map (λ name. bytes_json name.items) (take l.name-index l.others)
