use Rattle.std.proofs.Common.{refl}
use Rattle.sfv_writer.proofs.Checks.{at_exit}
use Rattle.sfv_c.{specs.RowEvents.ended, proofs.Stops.{stops_at, over}}
use Rattle.sfv_c.proofs.rows_to_text.item_alone.Goals as goal

pub returns-in_err-at : goal.returns-in_err-at
returns-in_err-at c = at_exit c.from_residual.result _ _ _ c.from_residual.ensures.1 (c.in_err-at.ensures ended)

pub returns-in-Some : goal.returns-in-Some
returns-in-Some c = stops_at (c.in_ok-at.ensures ended) (over c.in-Some.ensures.1)

pub returns-in-None : goal.returns-in-None
returns-in-None c = record {
  place = ended;
  at = c.in_ok-at.at;
  writes = c.in_ok-at.ensures ended;
  ends = refl;
  over = c.in-None.ensures;
}
