use Rattle.std.proofs.Common.{◌≡◌, ◌++◌, string_bytes, take}
use Rattle.sfv.specs.{Trees.list_tree, Types.list_field}
use Rattle.sfv_lint_json.specs.Trees.{field_lines}
use Rattle.sfv_lint_json.proofs.tree.append_list.Given as goal

abbrev pub invariant-loop-entry : goal.invariant-loop-entry
invariant-loop-entry l = string_bytes l.out
    ≡ string_bytes l.initial.out ++ field_lines list_field (list_tree (take l.entry-index l.list.items))
