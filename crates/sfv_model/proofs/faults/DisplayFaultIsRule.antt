-- A fault of a Display String is the one that its rule says.
use Rattle.std.proofs.Common.{◌≡◌, ℕ, zero, suc, ◌≤◌, ◌+◌, ◌-◌, not, ◌||◌, List, [], ◌∷◌, ◌++◌, length, take, drop}
use Rattle.std.proofs.Common.{refl, sym, ap, subst, ◌∙◌, append_assoc, arith, inl, inr, ◌==◌, codes, length-append}
use Rattle.std.proofs.Common.{take_at}
use Rattle.std.{specs.List.{concat, AllZip}, specs.Str.Lossy.utf8_valid_len, proofs.Math.Seq.take-append-add}
use Rattle.std.proofs.lemmas.{Bool.{and_parts, or_parts, not-true, both_ways}, Str.utf8_valid_len_le}
use Rattle.sfv_spec.specs.Classes.{is_string_byte, is_lower_hexadecimal}
use Rattle.sfv_spec.specs.Faults.{DisplayFault, open_display, open_escape, wrong_escape, wrong_byte, wrong_utf8}
use Rattle.sfv_spec.specs.Faults.{RuledFault, bare, display}
use Rattle.sfv_spec.specs.{Strings.IsDisplayPiece, Texts.{begins_with, IsLongestBeginning}}
use Rattle.sfv_spec.proofs.Marks.{double_quote, percent_sign, AreDisplayPieces, WantsBetween}
use Rattle.sfv_model.specs.Quoted.{outside, after_pieces, DisplayStops, IsDisplayFault}
use Rattle.sfv_model.proofs.Types.{FieldKind, Version, Rfc9651, ErrorKind, UnterminatedEscapeSequence}
use Rattle.sfv_model.proofs.Types.{InvalidEscapeSequence, InvalidUtf8InDisplayString, InvalidDisplayStringCharacter}
use Rattle.sfv_model.proofs.Types.{UnterminatedDisplayString}
use Rattle.sfv_model.proofs.quoted.Pieces.{closed, closed_past, closed_pieces, IsStuck, stuck, stuck_quote}
use Rattle.sfv_model.proofs.texts.Utf8.{longest_text}

-- ---- the pieces are the longest

pub longest_pieces : (bytes : List ℕ) (pieces : List (List ℕ)) (left : List ℕ) → AllZip IsDisplayPiece bytes pieces
    → IsStuck left → IsLongestBeginning (λ d. (any : List ℕ)
    × AreDisplayPieces any d) (concat pieces ++ left) (length (concat pieces))
longest_pieces bytes pieces left h k = record {
  within = omega (arith, length-append (concat pieces) left);
  holds = (
    bytes,
    record { pieces = pieces; text = take_at (concat pieces) left (length (concat pieces)) refl; each = h },
  );
  longest = λ m l n w.
      let j : ℕ = m - length (concat pieces) - 1 in
      let e : m ≡ length (concat pieces) + suc j = omega (arith, l) in
      let front : take m (concat pieces ++ left) ≡ concat pieces ++ take (suc j) left =
      ap (λ (m : ℕ). take m (concat pieces ++ left)) e ∙ take-append-add (concat pieces) left (suc j) in
      let shut = closed_pieces _ _ w.1.each in
      let same : concat pieces ++ take (suc j) left ≡ concat w.1.pieces = sym front ∙ w.1.text in
      let fits : suc j ≤ length left = omega (arith, e, n, length-append (concat pieces) left) in
      both_ways (closed outside (concat w.1.pieces)) (ap (closed outside) (sym same)
      ∙ closed_past _ _ _ h ∙ k j fits) shut;
}

-- ---- where a piece is written

drop_one : (p r : List ℕ) (b : ℕ) → IsDisplayPiece b p → (n : ℕ) → after_pieces (suc n) (p ++ r) ≡ after_pieces n r
drop_one p r b (inl h) n =
    let a = and_parts (is_string_byte b) (not ((b == percent_sign) || (b == double_quote))) h.0 in
    let o = or_parts (b == percent_sign) (b == double_quote)
    (not-true ((b == percent_sign) || (b == double_quote)) a.1) in
    rw (h.1, o.0) refl
drop_one p r b (inr h) n = rw h.4 refl

-- after the first n pieces
pub after_drop : (n : ℕ) (bytes : List ℕ) (pieces : List (List ℕ)) (left : List ℕ) → AllZip IsDisplayPiece bytes pieces
    → n ≤ length bytes → after_pieces n (concat pieces ++ left) ≡ concat (drop n pieces) ++ left
after_drop zero bytes pieces left h l = refl
after_drop (suc n) [] pieces left h l = absurd (omega (arith, l))
after_drop (suc n) (b ∷ bytes) [] left h l = absurd h
after_drop (suc n) (b ∷ bytes) (p ∷ pieces) left h l = ap (after_pieces (suc n)) (append_assoc p (concat pieces) left)
    ∙ drop_one p (concat pieces ++ left) b h.0 n ∙ after_drop n bytes pieces left h.1 (omega (arith, l))

-- ---- the faults

row_of : (k : ErrorKind) (bytes : List ℕ) (pieces : List (List ℕ)) (left there : List ℕ) → DisplayStops k left there
    → DisplayFault bytes pieces left there k
row_of UnterminatedDisplayString bytes pieces left there h = open_display h.0 h.1
row_of UnterminatedEscapeSequence bytes pieces left there h = open_escape h.0 h.3 h.1 h.2
row_of InvalidEscapeSequence bytes pieces left there h = wrong_escape h.0 h.5 (h.3 ∙ ap (λ (l : List ℕ). percent_sign
    ∷ (h.0 ++ l)) (sym h.4)) (ap (begins_with (λ c. not (is_lower_hexadecimal c))) h.4 ∙ ap not h.7)
row_of InvalidDisplayStringCharacter bytes pieces left there h =
    wrong_byte (h.2 ∙ sym h.3) (ap (begins_with (λ c. not (is_string_byte c))) h.3 ∙ ap not h.4)
row_of _ bytes pieces left there h = absurd h

-- The text from the percent sign on has this fault, so the whole has it, at the place where that stands.
pub ruled : (version : Version) (kind : FieldKind) (whole before t there : List ℕ) (k : ErrorKind)
    → version ≡ Rfc9651 → WantsBetween version kind whole before (codes "%\"" ++ t) → IsDisplayFault t k there
    → RuledFault version kind whole k (length whole - length there)
ruled version kind whole before t there InvalidUtf8InDisplayString known place h =
    let valid : ℕ = utf8_valid_len h.bytes in
    bare before (codes "%\"" ++ t) _ place.text place.wanted (display _ _ _ known (ap (λ (t : List ℕ). codes
    "%\"" ++ t) h.text) h.content (longest_pieces _ _ _ h.content (subst IsStuck (sym h.ends.1) (stuck_quote _)))
    (wrong_utf8 _ _ h.ends.2 (longest_text _) h.ends.1 (h.ends.3 ∙ ap (after_pieces valid) h.text ∙ after_drop _ _ _ _
    h.content (utf8_valid_len_le _))))
ruled version kind whole before t there k known place h = bare before (codes
    "%\"" ++ t) _ place.text place.wanted (display h.left h.bytes h.pieces known (ap (λ (t : List ℕ). codes
    "%\"" ++ t) h.text) h.content (longest_pieces _ _ h.left h.content (stuck k h.left there h.ends))
    (row_of _ _ _ _ _ h.ends))
