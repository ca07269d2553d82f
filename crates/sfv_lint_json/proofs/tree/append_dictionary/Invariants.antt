use Rattle.std.proofs.Common.{◌≡◌, ◌++◌, string_bytes}
use Rattle.sfv.specs.{Trees.dictionary_tree, Types.dictionary_field}
use Rattle.sfv_lint_json.specs.Trees.{field_lines}
use Rattle.sfv_lint_json.proofs.tree.append_dictionary.Given as goal

abbrev pub invariant-loop-key : goal.invariant-loop-key
invariant-loop-key l = string_bytes l.out ++ field_lines dictionary_field (dictionary_tree l.key-iterator)
    ≡ string_bytes l.initial.out ++ field_lines dictionary_field (dictionary_tree l.dictionary.entries)
