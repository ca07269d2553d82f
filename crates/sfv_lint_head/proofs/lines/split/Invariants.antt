use Rattle.std.proofs.Common.{◌≡◌, ◌++◌, length, map}
use Rattle.sfv_lint_head.specs.Lines.{value_lines}
use Rattle.sfv_lint_head.proofs.lines.split.Given as goal

abbrev pub invariant-loop-rest : goal.invariant-loop-rest
invariant-loop-rest l = value_lines l.text ≡ map (λ line. line.items) l.lines.items ++ value_lines l.rest

abbrev pub decreases-loop-rest : goal.decreases-loop-rest
decreases-loop-rest l = length l.rest
