-- A fault of a bare item is a row of the table of faults, or nothing begins.
use Rattle.std.proofs.Common.{◌≡◌, ℕ, zero, suc, ◌≤◌, ◌+◌, false, not, List, [], ◌∷◌, ◌++◌, length, drop, Ok, Err, refl}
use Rattle.std.proofs.Common.{sym, ap, subst, ◌∙◌, append_assoc, arith, inl, inr, ◌==◌, codes, eqb-true, true≢false}
use Rattle.std.{proofs.Common.{length-append, length-drop}, specs.List.concat, specs.Str.Lossy.utf8_valid_len}
use Rattle.std.proofs.lemmas.Bool.{cases_Bool, or_from, or_parts, not_from_false, Decides.nat_tests}
use Rattle.sfv_spec.specs.Classes.{is_one_of, is_token_start, is_token_inner}
use Rattle.sfv_spec.specs.Faults.{open_bytes, bare, lone_symbol, BareItemFault, no_boolean, old_display, no_quote}
use Rattle.sfv_spec.specs.Faults.{OpensString, open_string, wrong_string_byte, open_string_escape, wrong_string_escape}
use Rattle.sfv_spec.specs.{Faults.wrong_bytes, Texts.begins_with, Values.{string, byte_sequence, display_string}}
use Rattle.sfv_spec.proofs.Marks.{double_quote, percent_sign, digit_zero, colon, digit_one, question_mark}
use Rattle.sfv_model.specs.{Bare.{boolean_at, token_at, quoted_at, bare_at}, BareFaults.BareFaultHasRow}
use Rattle.sfv_model.specs.{Claims.IsBytesFault, Content.{valid_from, fault_place, bytes_at}}
use Rattle.sfv_model.specs.Quoted.{string_at, display_at, after_pieces, IsStringFault, IsDisplayFault, StringStops}
use Rattle.sfv_model.specs.Reader.{Fault, Answer, byte, give, fail, and_then, bind, branch, ahead, at_reach}
use Rattle.sfv_model.proofs.Types.{Version, Rfc8941, Rfc9651, ErrorKind, ExpectedBoolean, ExpectedQuote}
use Rattle.sfv_model.proofs.Types.{UnterminatedString, UnterminatedEscapeSequence, InvalidEscapeSequence}
use Rattle.sfv_model.proofs.{Types.{InvalidStringCharacter, InvalidUtf8InDisplayString}, base64.Contents.longest_valid}
use Rattle.sfv_model.proofs.{base64.Lone.left_over_is, complete.Bare.{bare_number, first_byte}}
use Rattle.sfv_model.proofs.faults.{ByteSequences.bytes_fault, DisplayFaultIsRule.ruled}
use Rattle.sfv_model.proofs.faults.NumberFaultIsRow.{HasRow, HasRows, one_of, number_row, date_row}
use Rattle.sfv_model.proofs.faults.{NumberShapes.{number_shape, shape_read}, Quoted.{string_fault, display_fault}}
use Rattle.sfv_model.proofs.quoted.Pieces.{display_stops_whole}
use Rattle.sfv_model.proofs.sound.{ByteSequences.fault_at, Combinators.Steady-span}

-- ---- what each first byte leads to

-- a value that is made of what is read leaves its faults
made : {A B : Type 0} (version : Version) (s : List ℕ) (m : A → B) (a : Answer A)
    → ((e : Fault) → a ≡ Err e → HasRow version s e) → HasRows version s (and_then a (λ v. give (m v)))
unfolding give
made version s m (Ok x) h = tt
made version s m (Err x) h = h x refl

pub boolean_fault : (t : List ℕ) → begins_with (is_one_of (codes "01")) t ≡ false
    → boolean_at t ≡ Err (at_reach ExpectedBoolean t)
unfolding boolean_at branch fail
boolean_fault [] h = refl
boolean_fault (c ∷ t) h = let p = or_parts (digit_zero == c) (is_one_of (codes "1") c) h in
    rw (sym (one_of digit_zero c) ∙ or_from (digit_zero == c) false p.0 refl, sym (one_of digit_one c) ∙ p.1) refl

boolean_row : (version : Version) (t : List ℕ) → HasRows version (question_mark ∷ t) (boolean_at t)
unfolding boolean_at branch fail give
boolean_row version [] = inl (refl, inr (no_boolean refl refl))
boolean_row version (c ∷ t) = elim (cases_Bool (byte digit_zero c)) [
  | inl y ↦ rw y tt
  | inr n ↦ elim (cases_Bool (byte digit_one c)) [
    | inl y ↦ rw (n, y) tt
    | inr m ↦ rw (n, m) (inl (refl, inr (no_boolean refl (grind (arith, nat_tests, n, m)))))
  ]
]

string_fault_row : (version : Version) (t there : List ℕ) (k : ErrorKind) → IsStringFault t k there
    → BareItemFault version (double_quote ∷ t) there k
string_fault_row version t there k h = on k h.left h.text h.ends
  where
    opens : (rest : List ℕ) → t ≡ concat h.pieces ++ rest → OpensString (double_quote ∷ t) rest
    opens rest e = (
      h.bytes,
      concat h.pieces,
      record { pieces = h.pieces; text = refl; each = h.content },
      ap (λ (l : List ℕ). double_quote ∷ l) e,
    )

    on : (k : ErrorKind) (left : List ℕ) → t ≡ concat h.pieces ++ left → StringStops k left there
        → BareItemFault version (double_quote ∷ t) there k
    on UnterminatedString left e (none, end) = open_string (opens [] (rw none at e)) end
    on UnterminatedEscapeSequence left e (one, end) = open_string_escape (opens (codes "\\") (rw one at e)) end
    on InvalidEscapeSequence left e (wrong, more, two, rest, other) =
        wrong_string_escape (opens (codes "\\" ++ there) (rw (two, ← rest) at e)) (rw rest (ap not other))
    on InvalidStringCharacter left e (wrong, more, one, rest, other) =
        wrong_string_byte (opens there (rw (one, ← rest) at e)) (rw rest (ap not other))
    on _ left e h = absurd h

string_row : (version : Version) (t : List ℕ) (e : Fault) → string_at t ≡ Err e → HasRow version (double_quote ∷ t) e
string_row version t e i = let f = string_fault t e i in
    inl (ap (λ (e : Fault). e.exact) f.1, inr (string_fault_row version t e.rest e.kind f.0))

bytes_row : (version : Version) (t : List ℕ) (e : Fault) → bytes_at t ≡ Err e → HasRow version (colon ∷ t) e
bytes_row version t e i = on (bytes_fault t e i)
  where
    on : IsBytesFault t e → HasRow version (colon ∷ t) e
    on (inl (apart, f)) = rw f (inr (
      refl,
      λ kind w before place. bare before (colon ∷ t) [] place.text place.wanted (open_bytes t refl refl apart),
    ))
    on (inr (content, rest, text, apart, none, f)) =
        elim (cases_Bool (valid_from 0 content == length content)) as (λ x. HasRow version (colon ∷ t) e) [
          | inl y ↦
              let left = left_over_is content none (eqb-true (valid_from 0 content) (length content) y) in
              let next : length content ≡ suc (fault_place content) = omega (arith, left.2) in
              rw (f, y) (inr (
                refl,
                λ kind w before place. bare before (colon ∷ t) (drop (fault_place content) t) place.text place.wanted
                    (lone_symbol content rest (rw text (simp append_assoc)) (rw next refl) left.0 left.1),
              ))
          | inr n ↦
              let at = fault_at content (not_from_false (valid_from 0 content == length content) n) in
              let next : 1 + valid_from 0 content ≡ suc (fault_place content) = omega (arith, at.1) in
              rw (f, n) (inl (
                refl,
                inr (wrong_bytes content rest (valid_from 0 content) apart (longest_valid content) at.0
                    (rw text (simp append_assoc)) (rw next refl)),
              ))
        ]

after_short : (n : ℕ) (t : List ℕ) → length (after_pieces n t) ≤ length t
after_short zero t = omega arith
after_short (suc n) [] = omega arith
after_short (suc n) (c ∷ r) = elim (cases_Bool (c == percent_sign)) [
  | inl y ↦ let h = after_short n (drop 2 r) in rw y (omega (arith, h, length-drop 2 r))
  | inr m ↦ let h = after_short n r in rw m (omega (arith, h))
]

-- what is left at a fault is an ending
pub display_short : (t there : List ℕ) (k : ErrorKind) → IsDisplayFault t k there → length there ≤ length t
display_short t there InvalidUtf8InDisplayString h = rw h.ends.3 (after_short (utf8_valid_len h.bytes) t)
display_short t there k h = let w = display_stops_whole k h.left there h.ends in
    omega (arith, ap (length {A = ℕ}) h.text, ap (length {A = ℕ}) w.1, length-append {A = ℕ})

display_row : (t : List ℕ) (e : Fault) → display_at t ≡ Err e → HasRow Rfc9651 (percent_sign ∷ double_quote ∷ t) e
display_row t e i =
    let f = display_fault _ _ i in
    inr (ap (λ (e : Fault). e.exact) f.1, λ kind w before place. ruled _ _ _ _ _ _ _ refl place f.0)

-- what is read after the percent sign and the quote
pub quoted_read : (t : List ℕ) → quoted_at Rfc9651 (percent_sign ∷ double_quote ∷ t)
    ≡ and_then (display_at t) (λ s. give (display_string s))
unfolding quoted_at branch bind
quoted_read t = refl

pub quote_fault : (t : List ℕ) → begins_with (is_one_of (codes "\"")) t ≡ false
    → quoted_at Rfc9651 (percent_sign ∷ t) ≡ Err (at_reach ExpectedQuote t)
unfolding quoted_at branch fail
quote_fault [] h = refl
quote_fault (c ∷ r) h = rw (sym (one_of double_quote c) ∙ h) refl

quoted_row : (version : Version) (t : List ℕ)
    → HasRows version (percent_sign ∷ t) (quoted_at version (percent_sign ∷ t))
unfolding quoted_at branch fail bind
quoted_row Rfc8941 t = inl (refl, inr (old_display t refl refl refl))
quoted_row Rfc9651 [] = inl (refl, inr (no_quote refl refl refl))
quoted_row Rfc9651 (c ∷ r) = elim (cases_Bool (byte double_quote c)) [
  | inl y ↦ rw (eqb-true c double_quote y) (made Rfc9651 _ (λ s. display_string s) (display_at r) (display_row r))
  | inr n ↦ rw n (inl (refl, inr (no_quote refl refl (one_of double_quote c ∙ n))))
]

token_row : (version : Version) (t : List ℕ) → HasRows version t (token_at t)
unfolding token_at branch bind fail give
token_row version [] = inl (refl, inl (refl, refl))
token_row version (c ∷ r) = elim (cases_Bool (is_token_start c)) [
  | inl y ↦ let s = (Steady-span is_token_inner).steady r in rw (y, s.3) tt
  | inr n ↦ rw n (inl (refl, inl (refl, refl)))
]

-- ---- any bare item

pub bare_row : (version : Version) (s : List ℕ) → HasRows version s (bare_at version s)
unfolding bare_at branch ahead bind
bare_row version [] = token_row version []
bare_row version (c ∷ r) = elim (first_byte version c r) [
  | inl is ↦ rw is (boolean_row version r)
  | inr (inl is) ↦ rw is (made version _ (λ s. string s) (string_at r) (string_row version r))
  | inr (inr (inl is)) ↦ rw is (made version _ (λ s. byte_sequence s) (bytes_at r) (bytes_row version r))
  | inr (inr (inr (inl is))) ↦ rw is (date_row version r)
  | inr (inr (inr (inr (inl is)))) ↦ rw is (quoted_row version r)
  | inr (inr (inr (inr (inr (inl is))))) ↦
      let n = number_shape false (c ∷ r) in
      subst (HasRows version (c ∷ r)) (sym (bare_number version c r is ∙ shape_read false (c ∷ r) n.0 n.1))
      (number_row version false (λ f. absurd (true≢false (sym f))) (c ∷ r) (λ _. is) n.0 n.1)
  | inr (inr (inr (inr (inr (inr read))))) ↦ subst (HasRows version (c ∷ r)) (sym read) (token_row version (c ∷ r))
]

pub bare_fault_has_row : BareFaultHasRow
bare_fault_has_row version kind whole before s e place h = elim (subst (HasRows version s) h (bare_row version s)) [
  | inl x ↦ inl x
  | inr x ↦ inr (x.0, x.1 kind whole before place)
]
