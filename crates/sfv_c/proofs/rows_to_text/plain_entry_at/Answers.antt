use Rattle.std.{proofs.Common.{List, subst, refl}, specs.Array.IsFirstChunk, proofs.lemmas.List.take_rest}
use Rattle.sfv_c.{specs.declared.rows.Row.Row, proofs.Stops.entry_read}
use Rattle.sfv_c.proofs.rows_to_text.plain_entry_at.Goals as goal

pub returns : goal.returns
returns c =
    let chunk = c.in_ok-entry.field-0.now in
    entry_read c.args.rows.now chunk c.args.at _
    (subst (λ (rest : List Row). IsFirstChunk rest chunk 4) (take_rest c.args.rows.now c.args.at)
    c.in_ok-entry.ensures.cases)
    (c.if-not-is_plain-2.ensures.0 refl) (c.if-not-is_plain-3.ensures.0 refl) (c.if-not-is_plain.ensures.0 refl)
    c.value_in.result c.value_in.ensures
