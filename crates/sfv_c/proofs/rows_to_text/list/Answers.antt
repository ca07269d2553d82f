use Rattle.std.proofs.Common.{false, arith, refl}
use Rattle.sfv_writer.proofs.Checks.{at_exit}
use Rattle.sfv.specs.{BareItems.ref_value, Events.entry}
use Rattle.sfv_c.specs.RowEvents.{ended, list_members}
use Rattle.sfv_c.proofs.Stops.{writes_none, writes_row, writes_on, stops_at, stops_on, stuck_at, fails, not_entry}
use Rattle.sfv_c.proofs.Stops.{writes_entry}
use Rattle.sfv_c.proofs.rows_to_text.list.Goals as goal

pub loop-row-init : goal.loop-row-init
loop-row-init c = writes_none _ _ _ _

pub returns-then-not-is_plain : goal.returns-then-not-is_plain
returns-then-not-is_plain c = stops_at c.loop-row.invariant (stuck_at (list_members c.loop-row.is_first)
    c.in-Some.ensures.1 (not_entry c.in-Some.row.now c.loop-row.is_first (fails c.if-not-is_plain.ensures)))

pub returns-in_err-at : goal.returns-in_err-at
returns-in_err-at c = at_exit c.from_residual.result _ _ _ c.from_residual.ensures.1
    (stops_on (writes_on c.loop-row.invariant (writes_row entry c.in-Some.ensures.1 tt
    (c.if-not-is_plain.ensures.0 refl) refl c.append_separator-in_default-plain_entry_at.ensures.appended)) (c.in_err-at.ensures (list_members false)))

pub loop-row-smaller : goal.loop-row-smaller
loop-row-smaller c = omega (arith, c.in-Some.ensures.0, (c.in_ok-at.ensures ended).count)

pub loop-row-preserved-in-Some-plain_entry_at : goal.loop-row-preserved-in-Some-plain_entry_at
loop-row-preserved-in-Some-plain_entry_at c = writes_on c.loop-row.invariant (writes_entry c.loop-row.is_first
    (ref_value c.in-Some-plain_entry_at.value) c.in-Some-plain_entry_at.ensures c.append_separator.ensures.appended
    c.append_item.ensures.appended)

pub loop-row-preserved : goal.loop-row-preserved
loop-row-preserved c = writes_on (writes_on c.loop-row.invariant (writes_row entry c.in-Some.ensures.1 tt
    (c.if-not-is_plain.ensures.0 refl) refl c.append_separator-in_default-plain_entry_at.ensures.appended)) (c.in_ok-at.ensures (list_members false))

pub returns : goal.returns
returns c = record {
  place = list_members c.loop-row.is_first;
  at = c.loop-row.at;
  writes = c.loop-row.invariant;
  ends = refl;
  over = c.in_default.ensures;
}
