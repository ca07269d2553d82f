use Rattle.std.proofs.Common.{◌≡◌, ◌++◌, take, flat_map, string_bytes}
use Rattle.sfv_lint_report.specs.Prints.{other_text}
use Rattle.sfv_lint_report.proofs.print.append_others.Given as goal

abbrev pub invariant-loop-name : goal.invariant-loop-name
invariant-loop-name l = string_bytes l.out
    ≡ string_bytes l.initial.out ++ flat_map (λ name. other_text name.items) (take l.name-index l.names)
