use Rattle.std.proofs.Common.{false, arith, refl}
use Rattle.sfv_writer.proofs.Checks.{at_exit}
use Rattle.sfv.specs.Events.{begins_item, inner_list_end}
use Rattle.sfv_c.specs.RowEvents.{ended, items}
use Rattle.sfv_c.proofs.Stops.{writes_none, writes_row, writes_on, answers_on, stops_at, stops_on, stuck_at, stuck_end}
use Rattle.sfv_c.proofs.Stops.{fails, not_item}
use Rattle.sfv_c.proofs.rows_to_text.items.Goals as goal

pub loop-row-init : goal.loop-row-init
loop-row-init c p = writes_none _ _ _ _

pub returns-then-is_plain : goal.returns-then-is_plain
returns-then-is_plain c p = answers_on p c.parameters.new.output c.parameters.result (writes_on (c.loop-row.invariant p)
    (writes_row inner_list_end c.in-Some.ensures.1 tt (c.if-is_plain.ensures.0 refl) refl c.append_text.ensures.appended))
    (c.parameters.ensures p)

pub returns-then-not-is_plain : goal.returns-then-not-is_plain
returns-then-not-is_plain c p = stops_at (c.loop-row.invariant p) (stuck_at (items c.loop-row.is_first p)
    c.in-Some.ensures.1 (not_item c.in-Some.row.now c.loop-row.is_first p (fails c.if-is_plain.ensures)
    (fails c.if-not-is_plain.ensures)))

pub returns-in_err-at : goal.returns-in_err-at
returns-in_err-at c p = at_exit c.from_residual.result _ _ _ c.from_residual.ensures.1
    (stops_on (writes_on (c.loop-row.invariant p) (writes_row begins_item c.in-Some.ensures.1 tt
    (c.if-not-is_plain.ensures.0 refl) refl c.append_separator.ensures.appended)) (c.in_err-at.ensures (items false p)))

pub loop-row-smaller : goal.loop-row-smaller
loop-row-smaller c = omega (arith, c.in-Some.ensures.0, (c.in_ok-at.ensures ended).count)

pub loop-row-preserved : goal.loop-row-preserved
loop-row-preserved c p = writes_on (writes_on (c.loop-row.invariant p) (writes_row begins_item c.in-Some.ensures.1 tt
    (c.if-not-is_plain.ensures.0 refl) refl c.append_separator.ensures.appended)) (c.in_ok-at.ensures (items false p))

pub returns : goal.returns
returns c p = stops_at (c.loop-row.invariant p) (stuck_end (items c.loop-row.is_first p) c.in_default.ensures refl)
