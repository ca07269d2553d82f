-- Each reading is a run of pieces, and what stands after them.
use Rattle.std.proofs.Common.{arith, ◌≡◌, ℕ, ◌+◌, ◌*◌, Bool, true, false, List, [], ◌∷◌, ◌++◌, Ok, Err, refl, sym, ap}
use Rattle.std.proofs.Common.{◌∙◌, append_assoc, lit≤, inl, inr, ◌==◌, IsTrue, eqb-true}
use Rattle.std.specs.{Char.digit_value as hexadecimal_value, List.concat}
use Rattle.std.proofs.lemmas.Bool.{and_from, cases_Bool, Decides.nat_tests}
use Rattle.sfv_spec.specs.Classes.{is_string_byte, is_lower_hexadecimal}
use Rattle.sfv_spec.specs.Strings.{is_escaped_in_string, IsStringPiece, IsDisplayPiece}
use Rattle.sfv_spec.proofs.Marks.{double_quote, percent_sign, backslash}
use Rattle.sfv_model.specs.Quoted.{after_bytes, string_from, Place, outside, percent, digit, pieces_from, StringStops}
use Rattle.sfv_model.specs.{Quoted.{DisplayStops, Traced}, Reader.{Answer, placed, at_reach, by_rule}}
use Rattle.sfv_model.proofs.Types.{ErrorKind, InvalidStringCharacter, UnterminatedString, UnterminatedEscapeSequence}
use Rattle.sfv_model.proofs.Types.{InvalidEscapeSequence, InvalidDisplayStringCharacter, UnterminatedDisplayString}

-- the bytes that were read and the closing quote, or a fault
abbrev pub Ends : Bool → (ErrorKind → List ℕ → List ℕ → Type 0) → Answer (List ℕ) → List ℕ → List ℕ → Type 0
Ends exact Stops (Ok x) bytes left = (x.0 ≡ bytes) × (left ≡ double_quote ∷ x.1)
Ends exact Stops (Err e) bytes left = (e ≡ placed exact e.kind e.rest) × Stops e.kind left e.rest

-- after one more piece
more_ends : (exact : Bool) (Stops : ErrorKind → List ℕ → List ℕ → Type 0) (c : ℕ) (a : Answer (List ℕ))
    (bytes left : List ℕ) → Ends exact Stops a bytes left → Ends exact Stops (after_bytes (c ∷ []) a) (c ∷ bytes) left
more_ends exact Stops c (Ok x) bytes left h = (ap (λ (l : List ℕ). c ∷ l) h.0, h.1)
more_ends exact Stops c (Err e) bytes left h = h

add : (exact : Bool) (P : ℕ → List ℕ → Type 0) (Stops : ErrorKind → List ℕ → List ℕ → Type 0)
    (c : ℕ) (piece t : List ℕ) (a : Answer (List ℕ)) → P c piece → Traced P t (Ends exact Stops a)
    → Traced P (piece ++ t) (Ends exact Stops (after_bytes (c ∷ []) a))
add exact P Stops c piece t a p h = record {
  bytes = c ∷ h.bytes;
  pieces = piece ∷ h.pieces;
  left = h.left;
  text = ap (λ (l : List ℕ). piece ++ l) h.text ∙ sym (append_assoc piece (concat h.pieces) h.left);
  content = (p, h.content);
  ends = more_ends exact Stops c a h.bytes h.left h.ends;
}

stop : (exact : Bool) (P : ℕ → List ℕ → Type 0) (Stops : ErrorKind → List ℕ → List ℕ → Type 0)
    (t : List ℕ) (a : Answer (List ℕ)) → Ends exact Stops a [] t → Traced P t (Ends exact Stops a)
stop exact P Stops t a h = record { bytes = []; pieces = []; left = t; text = refl; content = tt; ends = h }

-- ---- strings

abbrev before_string : Bool → List ℕ
before_string false = []
before_string true = backslash ∷ []

StringTrace : Bool → List ℕ → Answer (List ℕ) → Type 0
StringTrace b t a = Traced IsStringPiece (before_string b ++ t) (Ends true StringStops a)

trace_string : (b : Bool) (t : List ℕ) → StringTrace b t (string_from b t)
unfolding StringTrace string_from
trace_string false [] = stop true IsStringPiece StringStops [] (Err (at_reach UnterminatedString [])) (
  refl,
  (refl, refl),
)
trace_string true [] = stop true IsStringPiece StringStops (backslash ∷ [])
    (Err (at_reach UnterminatedEscapeSequence [])) (refl, (refl, refl))
trace_string true (c ∷ r) = elim (cases_Bool (is_escaped_in_string c)) [
  | inl i ↦ rw i (add true IsStringPiece StringStops c (backslash ∷ c ∷ []) r (string_from false r) (inr (i, refl))
      (trace_string false r))
  | inr i ↦ rw i (stop true IsStringPiece StringStops (backslash ∷ c ∷ r)
      (Err (at_reach InvalidEscapeSequence (c ∷ r))) (refl, (c, r, refl, refl, i)))
]
trace_string false (c ∷ r) = elim (cases_Bool (c == double_quote)) [
  | inl i ↦ rw i (stop true IsStringPiece StringStops (c ∷ r) (Ok ([], r))
      (refl, ap (λ (c : ℕ). c ∷ r) (eqb-true c double_quote i)))
  | inr i ↦ elim (cases_Bool (c == backslash)) [
    | inl j ↦ rw (i, j) (rw (eqb-true c backslash j) (trace_string true r))
    | inr j ↦ elim (cases_Bool (is_string_byte c)) [
      | inl k ↦ rw (i, j, k) (add true IsStringPiece StringStops c (c ∷ []) r (string_from false r)
          (inl (grind (arith, nat_tests), refl)) (trace_string false r))
      | inr k ↦ rw (i, j, k) (stop true IsStringPiece StringStops (c ∷ r)
          (Err (at_reach InvalidStringCharacter (c ∷ r))) (refl, (c, r, refl, refl, k)))
    ]
  ]
]

-- ---- display strings

abbrev before_place : Place → List ℕ
before_place outside = []
before_place percent = percent_sign ∷ []
before_place (digit h) = percent_sign ∷ h ∷ []

abbrev IsPlace : Place → Type 0
IsPlace (digit h) = IsTrue (is_lower_hexadecimal h)
IsPlace _ = Unit {0}

DisplayTrace : Place → List ℕ → Answer (List ℕ) → Type 0
DisplayTrace p t a = Traced IsDisplayPiece (before_place p ++ t) (Ends false DisplayStops a)

trace_display : (p : Place) (t : List ℕ) → IsPlace p → DisplayTrace p t (pieces_from p t)
unfolding DisplayTrace pieces_from
trace_display outside [] h = stop false IsDisplayPiece DisplayStops [] (Err (by_rule UnterminatedDisplayString []))
    (refl, (refl, refl))
trace_display percent [] h = stop false IsDisplayPiece DisplayStops (percent_sign ∷ [])
    (Err (by_rule UnterminatedEscapeSequence [])) (refl, ([], refl, refl, refl, lit≤ tt))
trace_display (digit d) [] h = stop false IsDisplayPiece DisplayStops (percent_sign ∷ d ∷ [])
    (Err (by_rule UnterminatedEscapeSequence [])) (
      refl,
      (d ∷ [], refl, refl, and_from (is_lower_hexadecimal d) true h refl, lit≤ tt),
    )
trace_display percent (c ∷ r) h = elim (cases_Bool (is_lower_hexadecimal c)) [
  | inl i ↦ rw i (trace_display (digit c) r i)
  | inr i ↦ rw i (stop false IsDisplayPiece DisplayStops (percent_sign ∷ c ∷ r)
      (Err (by_rule InvalidEscapeSequence (c ∷ r))) (refl, ([], c, r, refl, refl, refl, lit≤ tt, i)))
]
trace_display (digit d) (c ∷ r) h = elim (cases_Bool (is_lower_hexadecimal c)) [
  | inl i ↦ rw i (add false IsDisplayPiece DisplayStops (16 * hexadecimal_value d + hexadecimal_value c)
      (percent_sign ∷ d ∷ c ∷ []) r (pieces_from outside r) (inr (
        d,
        c,
        and_from (is_lower_hexadecimal d) (is_lower_hexadecimal c) h i,
        refl,
        refl,
      )) (trace_display outside r tt))
  | inr i ↦ rw i (stop false IsDisplayPiece DisplayStops (percent_sign ∷ d ∷ c ∷ r) (Err (by_rule InvalidEscapeSequence
      (c ∷ r))) (refl, (d ∷ [], c, r, refl, refl, and_from (is_lower_hexadecimal d) true h refl, lit≤ tt, i)))
]
trace_display outside (c ∷ r) h = elim (cases_Bool (c == double_quote)) [
  | inl i ↦ rw i (stop false IsDisplayPiece DisplayStops (c ∷ r) (Ok ([], r))
      (refl, ap (λ (c : ℕ). c ∷ r) (eqb-true c double_quote i)))
  | inr i ↦ elim (cases_Bool (c == percent_sign)) [
    | inl j ↦ rw (i, j) (rw (eqb-true c percent_sign j) (trace_display percent r tt))
    | inr j ↦ elim (cases_Bool (is_string_byte c)) [
      | inl k ↦ rw (i, j, k) (add false IsDisplayPiece DisplayStops c (c ∷ []) r (pieces_from outside r)
          (inl (grind (arith, nat_tests), refl)) (trace_display outside r tt))
      | inr k ↦ rw (i, j, k) (stop false IsDisplayPiece DisplayStops (c ∷ r)
          (Err (by_rule InvalidDisplayStringCharacter (c ∷ r))) (refl, (c, r, refl, refl, k)))
    ]
  ]
]

-- what each gives, whole
pub trace_of_string : (t : List ℕ) → Traced IsStringPiece t (Ends true StringStops (string_from false t))
unfolding StringTrace
trace_of_string t = trace_string false t

pub trace_of_display : (t : List ℕ) → Traced IsDisplayPiece t (Ends false DisplayStops (pieces_from outside t))
unfolding DisplayTrace
trace_of_display t = trace_display outside t tt
