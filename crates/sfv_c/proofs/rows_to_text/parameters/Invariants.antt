use Rattle.std.proofs.Common.{◌-◌, length}
use Rattle.sfv_c.specs.RowEvents.{ParseState, parameters, Writes}
use Rattle.sfv_c.proofs.rows_to_text.parameters.Given as goal

abbrev pub invariant-loop-row : goal.invariant-loop-row
invariant-loop-row l = (p : ParseState) → Writes l.rows (parameters p) (parameters p) l.from l.at l.fn.output l.output

abbrev pub decreases-loop-row : goal.decreases-loop-row
decreases-loop-row l = length l.rows - l.at
