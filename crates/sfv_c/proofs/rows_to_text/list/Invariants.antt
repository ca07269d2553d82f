use Rattle.std.proofs.Common.{true, ◌-◌, length}
use Rattle.sfv_c.specs.RowEvents.{list_members, Writes}
use Rattle.sfv_c.proofs.rows_to_text.list.Given as goal

abbrev pub invariant-loop-row : goal.invariant-loop-row
invariant-loop-row l = Writes l.rows (list_members true) (list_members l.is_first) 0 l.at l.fn.output l.output

abbrev pub decreases-loop-row : goal.decreases-loop-row
decreases-loop-row l = length l.rows - l.at
