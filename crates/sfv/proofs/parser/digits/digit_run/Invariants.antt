use Rattle.std.proofs.Common.{◌-◌, ◌≤◌, length, take}
use Rattle.sfv.specs.parser.Values.{Spells}
use Rattle.sfv.proofs.parser.digits.digit_run.Given as goal

abbrev pub invariant-loop-count : goal.invariant-loop-count
invariant-loop-count l = (l.count ≤ l.most) × (l.count ≤ length l.bytes)
    × Spells (take l.count l.bytes) (record { count = l.count; value = l.value })

abbrev pub decreases-loop-count : goal.decreases-loop-count
decreases-loop-count l = l.most - l.count
