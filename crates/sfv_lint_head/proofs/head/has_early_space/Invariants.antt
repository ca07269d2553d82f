use Rattle.std.proofs.Common.{◌≡◌, drop}
use Rattle.sfv_lint_head.specs.Heads.{has_early_space}
use Rattle.sfv_lint_head.proofs.head.has_early_space.Given as goal

abbrev pub invariant-loop-byte : goal.invariant-loop-byte
invariant-loop-byte l = has_early_space l.line ≡ has_early_space (drop l.byte-index l.line)
