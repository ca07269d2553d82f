use Rattle.std.proofs.Common.{◌≡◌, take, map}
use Rattle.serde_json.specs.View.{view}
use Rattle.sfv.specs.Trees.{item_tree}
use Rattle.sfv_lint_json.specs.Json.{item_json}
use Rattle.sfv_lint_json.proofs.json.items.Given as goal

abbrev pub invariant-loop-member : goal.invariant-loop-member
invariant-loop-member l = map view l.array.items ≡ map item_json (map item_tree (take l.member-index l.items))
