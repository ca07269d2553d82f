use Rattle.std.proofs.Common.{false, arith, refl}
use Rattle.sfv_writer.proofs.Checks.{at_exit}
use Rattle.sfv.specs.{CheckedTexts.text_of, Events.keyed_entry}
use Rattle.sfv_c.specs.RowEvents.{ended, dictionary_members}
use Rattle.sfv_c.proofs.Stops.{writes_none, writes_row, writes_on, appends_both, stops_at, stops_on, stuck_at}
use Rattle.sfv_c.proofs.Stops.{not_keyed}
use Rattle.sfv_c.proofs.rows_to_text.dictionary.Goals as goal

pub loop-row-init : goal.loop-row-init
loop-row-init c = writes_none _ _ _ _

pub returns-in_default-keyed_entry_in : goal.returns-in_default-keyed_entry_in
returns-in_default-keyed_entry_in c = stops_at c.loop-row.invariant (stuck_at (dictionary_members c.loop-row.is_first)
    c.in-Some.ensures.1 (not_keyed c.in-Some.row.now c.loop-row.is_first c.in_default-keyed_entry_in.ensures))

pub returns-in_err-at : goal.returns-in_err-at
returns-in_err-at c = at_exit c.from_residual.result _ _ _ c.from_residual.ensures.1
    (stops_on (writes_on c.loop-row.invariant (writes_row (keyed_entry (text_of c.in-Some-keyed_entry_in.key))
    c.in-Some.ensures.1 c.in-Some-keyed_entry_in.ensures.0 c.in-Some-keyed_entry_in.ensures.1 refl
    (appends_both c.append_separator.ensures.appended c.append_key.ensures.appended))) (c.in_err-at.ensures (dictionary_members false)))

pub loop-row-smaller : goal.loop-row-smaller
loop-row-smaller c = omega (arith, c.in-Some.ensures.0, (c.in_ok-at.ensures ended).count)

pub loop-row-preserved : goal.loop-row-preserved
loop-row-preserved c = writes_on (writes_on c.loop-row.invariant
    (writes_row (keyed_entry (text_of c.in-Some-keyed_entry_in.key)) c.in-Some.ensures.1 c.in-Some-keyed_entry_in.ensures.0 c.in-Some-keyed_entry_in.ensures.1 refl
    (appends_both c.append_separator.ensures.appended c.append_key.ensures.appended))) (c.in_ok-at.ensures (dictionary_members false))

pub returns : goal.returns
returns c = record {
  place = dictionary_members c.loop-row.is_first;
  at = c.loop-row.at;
  writes = c.loop-row.invariant;
  ends = refl;
  over = c.in_default.ensures;
}
