use Rattle.std.proofs.Common.{◌≡◌, take, map}
use Rattle.sfv_lint_head.specs.Heads.{values_of, line_of}
use Rattle.sfv_lint_head.proofs.head.values.Given as goal

abbrev pub invariant-loop-line : goal.invariant-loop-line
invariant-loop-line l = map (λ value. value.items) l.values.items
    ≡ values_of l.name (map line_of (take l.line-index l.lines))
