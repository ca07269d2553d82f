use Rattle.std.proofs.Common.{◌≡◌, ◌++◌, take, string_bytes}
use Rattle.sfv_lint_head.specs.Shown.{shown}
use Rattle.sfv_lint_head.proofs.shown.append_shown.Given as goal

abbrev pub invariant-loop-byte : goal.invariant-loop-byte
invariant-loop-byte l = string_bytes l.text ≡ string_bytes l.initial.text ++ shown (take l.byte-index l.bytes)
