-- A text of a String or a Display String is read, as its bytes.
use Rattle.std.proofs.Common.{◌≡◌, ℕ, List, [], ◌∷◌, ◌++◌, Ok, refl, ap, ◌∙◌, append_assoc, IsUtf8, append-nil}
use Rattle.std.{specs.List.concat, proofs.lemmas.Str.is_utf8-from_IsUtf8}
use Rattle.sfv_spec.proofs.Marks.{double_quote}
use Rattle.sfv_model.specs.Quoted.{IsStringEnd, IsDisplayEnd, string_at, outside, pieces_from, checked, display_at}
use Rattle.sfv_model.proofs.quoted.Pieces.{past_string, past_display, quote_string, quote_display}

-- Each String is read, whatever follows it.
pub string_complete : (s t q : List ℕ) → IsStringEnd s t → string_at (t ++ q) ≡ Ok (s, q)
string_complete s t q h =
    let pieces = h.first.pieces in
    let whole : t ++ q ≡ concat pieces ++ double_quote ∷ q =
    cc (h.text, h.first.text, h.second, append_assoc (concat pieces) (double_quote ∷ []) q) in
    simp (whole, past_string s pieces (double_quote ∷ q) h.first.each, quote_string q, append-nil)

-- a text of UTF-8 passes
pub passes : (t : List ℕ) (s r : List ℕ) → IsUtf8 s → checked t (Ok (s, r)) ≡ Ok (s, r)
passes t s r u = rw (is_utf8-from_IsUtf8 s u) refl

-- Each Display String is read, whatever follows it.
pub display_complete : (s t q : List ℕ) → IsDisplayEnd s t → display_at (t ++ q) ≡ Ok (s, q)
unfolding display_at
display_complete s t q h =
    let pieces = h.first.0.pieces in
    let whole : t ++ q ≡ concat pieces ++ double_quote ∷ q = rw (h.text, h.first.0.text, h.second, append_assoc) refl in
    let read : pieces_from outside (t ++ q) ≡ Ok (s, q) = simp
    (whole, past_display s pieces (double_quote ∷ q) h.first.0.each, quote_display q, append-nil) in
    ap (checked (t ++ q)) read ∙ passes _ _ _ h.first.1
