use Rattle.std.proofs.Common.{◌≡◌, ◌++◌, map}
use Rattle.serde_json.specs.View.{view}
use Rattle.sfv.specs.Trees.{pairs_tree}
use Rattle.sfv_lint_json.specs.Json.{pair_json, bare_json}
use Rattle.serde_json.specs.Data as json
use Rattle.sfv_lint_json.proofs.json.parameters.Given as goal

abbrev pub invariant-loop-key : goal.invariant-loop-key
invariant-loop-key l =
    map view l.array.items ++ map (λ p. pair_json (json.string p.0) (bare_json p.1)) (pairs_tree l.key-iterator)
    ≡ map (λ p. pair_json (json.string p.0) (bare_json p.1)) (pairs_tree l.params.entries)
