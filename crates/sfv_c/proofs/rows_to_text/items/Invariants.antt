use Rattle.std.proofs.Common.{true, ◌-◌, length}
use Rattle.sfv_c.specs.RowEvents.{ParseState, items, Writes}
use Rattle.sfv_c.proofs.rows_to_text.items.Given as goal

abbrev pub invariant-loop-row : goal.invariant-loop-row
invariant-loop-row l =
    (p : ParseState) → Writes l.rows (items true p) (items l.is_first p) l.from l.at l.fn.output l.output

abbrev pub decreases-loop-row : goal.decreases-loop-row
decreases-loop-row l = length l.rows - l.at
