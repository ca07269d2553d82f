use Rattle.std.proofs.Common.{◌≡◌, ◌++◌, map}
use Rattle.serde_json.specs.View.{view}
use Rattle.sfv.specs.Trees.{dictionary_tree}
use Rattle.sfv_lint_json.specs.Json.{pair_json, member_json}
use Rattle.serde_json.specs.Data as json
use Rattle.sfv_lint_json.proofs.json.dictionary.Given as goal

abbrev pub invariant-loop-key : goal.invariant-loop-key
invariant-loop-key l =
    map view l.array.items ++ map (λ m. pair_json (json.string m.0) (member_json m.1)) (dictionary_tree l.key-iterator)
    ≡ map (λ m. pair_json (json.string m.0) (member_json m.1)) (dictionary_tree l.dictionary.entries)
