use Rattle.std.proofs.Common.{refl}
use Rattle.sfv.specs.{BareItems.ref_value, CheckedTexts.text_of, Events.{parameter, parameters_end}}
use Rattle.sfv_c.specs.RowEvents.{parameters}
use Rattle.sfv_c.proofs.Stops.{writes_none, writes_row, writes_on, appends_none, appends_both, stops_at, stuck_at}
use Rattle.sfv_c.proofs.Stops.{stuck_end, fails, not_parameter}
use Rattle.sfv_c.proofs.rows_to_text.parameters.Goals as goal

pub loop-row-init : goal.loop-row-init
loop-row-init c p = writes_none _ _ _ _

pub returns-then-is_plain : goal.returns-then-is_plain
returns-then-is_plain c p = writes_on (c.loop-row.invariant p)
    (writes_row parameters_end c.in-Some.ensures.1 tt (c.if-is_plain.ensures.0 refl) refl (appends_none _))

pub returns-in_default-parameter_in : goal.returns-in_default-parameter_in
returns-in_default-parameter_in c p = stops_at (c.loop-row.invariant p) (stuck_at (parameters p) c.in-Some.ensures.1
    (not_parameter c.in-Some.row.now p (fails c.if-is_plain.ensures) c.in_default-parameter_in.ensures))

pub loop-row-preserved : goal.loop-row-preserved
loop-row-preserved c p =
    let h = c.in-Some-parameter_in.ensures in
    writes_on (c.loop-row.invariant p) (writes_row (parameter (text_of c.in-Some-parameter_in.parameter.key)
    (ref_value c.in-Some-parameter_in.parameter.value)) c.in-Some.ensures.1 (h.0, h.1) h.2 refl
    (appends_both (appends_both c.append_text.ensures.appended c.append_key.ensures.appended) c.append_item.ensures.appended))

pub returns : goal.returns
returns c p = stops_at (c.loop-row.invariant p) (stuck_end (parameters p) c.in_default.ensures refl)
