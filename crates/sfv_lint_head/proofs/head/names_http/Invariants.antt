use Rattle.std.proofs.Common.{◌≡◌, drop}
use Rattle.sfv_lint_head.specs.Heads.{names_http}
use Rattle.sfv_lint_head.proofs.head.names_http.Given as goal

abbrev pub invariant-loop-start : goal.invariant-loop-start
invariant-loop-start l = names_http l.line ≡ names_http (drop l.start l.line)
