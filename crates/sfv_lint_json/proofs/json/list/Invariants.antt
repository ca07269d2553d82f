use Rattle.std.proofs.Common.{◌≡◌, take, map}
use Rattle.serde_json.specs.View.{view}
use Rattle.sfv.specs.Trees.{list_tree}
use Rattle.sfv_lint_json.specs.Json.{member_json}
use Rattle.sfv_lint_json.proofs.json.list.Given as goal

abbrev pub invariant-loop-entry : goal.invariant-loop-entry
invariant-loop-entry l = map view l.array.items ≡ map member_json (list_tree (take l.entry-index l.list.items))
