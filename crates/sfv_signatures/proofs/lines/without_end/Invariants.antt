use Rattle.std.{proofs.Common.{◌≡◌, ◌≤◌, ◌+◌, ◌-◌, take, length}, specs.List.suffix_len}
use Rattle.sfv_signatures.specs.HttpMessages.{is_blank}
use Rattle.sfv_signatures.proofs.lines.without_end.Given as goal

abbrev pub invariant-loop-end : goal.invariant-loop-end
invariant-loop-end l = (l.end ≤ length l.text)
    × ((length l.text - l.end) + suffix_len is_blank (take l.end l.text) ≡ suffix_len is_blank l.text)

abbrev pub decreases-loop-end : goal.decreases-loop-end
decreases-loop-end l = l.end
