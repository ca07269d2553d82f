use Rattle.std.proofs.Common.{◌≡◌, ◌++◌, string_bytes}
use Rattle.sfv.specs.Trees.{pairs_tree}
use Rattle.sfv_lint_json.specs.Trees.{parameter_lines}
use Rattle.sfv_lint_json.proofs.tree.append_parameters.Given as goal

abbrev pub invariant-loop-key : goal.invariant-loop-key
invariant-loop-key l = string_bytes l.out ++ parameter_lines l.indent (pairs_tree l.key-iterator)
    ≡ string_bytes l.initial.out ++ parameter_lines l.indent (pairs_tree l.params.entries)
