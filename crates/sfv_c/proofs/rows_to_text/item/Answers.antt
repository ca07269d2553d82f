use Rattle.std.proofs.Common.{refl}
use Rattle.sfv.specs.{BareItems.ref_value, Events.bare_item}
use Rattle.sfv_c.specs.RowEvents.{value}
use Rattle.sfv_c.proofs.Stops.{writes_none, writes_row, answers_on, stops_at, stuck_at, stuck_end, not_value}
use Rattle.sfv_c.proofs.rows_to_text.item.Goals as goal

pub returns-in_default : goal.returns-in_default
returns-in_default c p = stops_at (writes_none _ _ _ _) (stuck_end (value c.args.keyed p) c.in_default.ensures refl)

pub returns-in_default-value_in : goal.returns-in_default-value_in
returns-in_default-value_in c p = stops_at (writes_none _ _ _ _) (stuck_at (value c.args.keyed p) c.in-Some.ensures.1
    (not_value c.in-Some.row.now c.args.keyed p c.in_default-value_in.ensures))

pub returns : goal.returns
returns c p = answers_on p c.parameters_or_end.new.output c.parameters_or_end.result
    (writes_row (bare_item (ref_value c.in-Some-value_in.value)) c.in-Some.ensures.1 c.in-Some-value_in.ensures.0 c.in-Some-value_in.ensures.1 refl c.append_item.ensures.appended)
    (c.parameters_or_end.ensures p)
