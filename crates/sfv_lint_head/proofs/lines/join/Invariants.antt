use Rattle.std.proofs.Common.{◌≡◌, ◌++◌, take, map}
use Rattle.sfv_lint_head.proofs.Joining.{more_lines}
use Rattle.sfv_lint_head.proofs.lines.join.Given as goal

abbrev pub invariant-loop-line : goal.invariant-loop-line
invariant-loop-line l = l.text.items ≡ l.initial.text.items ++ more_lines (map (λ line. line.items) (take l.line-index l.others))
