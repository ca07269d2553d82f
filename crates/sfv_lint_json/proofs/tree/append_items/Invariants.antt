use Rattle.std.proofs.Common.{◌≡◌, ◌++◌, string_bytes, take, map}
use Rattle.sfv.specs.Trees.{item_tree}
use Rattle.sfv_lint_json.specs.Trees.{items_lines}
use Rattle.sfv_lint_json.proofs.tree.append_items.Given as goal

abbrev pub invariant-loop-item : goal.invariant-loop-item
invariant-loop-item l = string_bytes l.out
    ≡ string_bytes l.initial.out ++ items_lines (map item_tree (take l.item-index l.items))
