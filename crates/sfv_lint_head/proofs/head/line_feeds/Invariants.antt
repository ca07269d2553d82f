use Rattle.std.proofs.Common.{◌≡◌, ◌≤◌, take}
use Rattle.sfv_lint_head.specs.Heads.{line_feeds}
use Rattle.sfv_lint_head.proofs.head.line_feeds.Given as goal

abbrev pub invariant-loop-byte : goal.invariant-loop-byte
invariant-loop-byte l = (l.count ≡ line_feeds (take l.byte-index l.section)) × (l.count ≤ l.byte-index)
