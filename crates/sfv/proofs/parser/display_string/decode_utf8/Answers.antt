use Rattle.std.{proofs.Common.{◌≡◌, ap, ◌∙◌, arith, rules, subst, string_bytes, IsUtf8}, specs.Str.valid_up_to}
use Rattle.std.{specs.Str.Lossy.utf8_valid_len, proofs.lemmas.Str.{utf8_valid_len_le, IsUtf8-string_bytes}}
use Rattle.sfv_model.proofs.quoted.DisplaySteps.{shown_text, shown_wrong}
use Rattle.sfv.specs.parser.Cursor.{located}
use Rattle.sfv.proofs.parser.display_string.decode_utf8.Goals as goal

pub piece_index-index-requires-clause-pieces : goal.piece_index-index-requires-clause-pieces
piece_index-index-requires-clause-pieces c =
    let r = c.requires.read in
    let n : c.valid_up_to-valid.result ≡ utf8_valid_len c.args.bytes.items = c.valid_up_to-valid.ensures
    ∙ ap valid_up_to c.utf8_error.ensures ∙ c.in-Err.ensures.valid_len in
    (c.args.bytes.items, r.0, r.1, omega (arith, utf8_valid_len_le c.args.bytes.items, n))

pub returns-in-Ok : goal.returns-in-Ok
returns-in-Ok c = λ rest e.
    let t : string_bytes c.in-Ok.text ≡ c.args.bytes.items = search rules in
    let u : IsUtf8 c.args.bytes.items = subst IsUtf8 t (IsUtf8-string_bytes c.in-Ok.text) in
    rw t (shown_text _ _ rest e u)

pub returns-in-Err : goal.returns-in-Err
returns-in-Err c = λ rest e.
    let n : c.valid_up_to-valid.result ≡ utf8_valid_len c.args.bytes.items = c.valid_up_to-valid.ensures
    ∙ ap valid_up_to c.utf8_error.ensures ∙ c.in-Err.ensures.valid_len in
    let not_text : ¬ IsUtf8 c.args.bytes.items = search rules in
    rw c.at.ensures (
      rw (c.piece_index-index.ensures.piece_index, n) (ap located (shown_wrong _ _ rest e not_text)),
      c.piece_index-index.ensures.within,
    )
