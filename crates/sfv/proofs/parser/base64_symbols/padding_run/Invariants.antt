use Rattle.std.proofs.Common.{◌≡◌, length, ◌-◌, ◌≤◌, take, replicate}
use Rattle.sfv_spec.proofs.Marks.{equals_sign}
use Rattle.sfv.proofs.parser.base64_symbols.padding_run.Given as goal

abbrev pub invariant-loop-count : goal.invariant-loop-count
invariant-loop-count l = (l.count ≤ length l.bytes) × (l.count ≤ l.most)
    × (take l.count l.bytes ≡ replicate l.count equals_sign)

abbrev pub decreases-loop-count : goal.decreases-loop-count
decreases-loop-count l = l.most - l.count
