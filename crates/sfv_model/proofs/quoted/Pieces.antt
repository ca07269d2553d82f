-- Pieces are read one by one, and a reader stops where no piece follows.
use Rattle.std.proofs.Common.{◌≡◌, ℕ, zero, suc, ◌≤◌, Bool, true, false, cond, not, ◌&&◌, ◌||◌, List, [], ◌∷◌, ◌++◌}
use Rattle.std.proofs.Common.{length, take, Ok, Err, refl, sym, ap, ◌∙◌, append_assoc, arith, inl, inr, ◌==◌, ne_eqb}
use Rattle.std.{proofs.Common.append-nil, specs.List.{concat, AllZip}}
use Rattle.std.proofs.lemmas.Bool.{and_parts, and_left, or_parts, not-true, both_ways}
use Rattle.sfv_spec.specs.Classes.{is_string_byte, is_lower_hexadecimal}
use Rattle.sfv_spec.specs.Strings.{is_escaped_in_string, is_plain_in_display, IsStringPiece, IsDisplayPiece}
use Rattle.sfv_spec.{specs.Texts.RunOf, proofs.Marks.{double_quote, percent_sign, backslash}}
use Rattle.sfv_model.specs.Quoted.{after_bytes, string_from, Place, outside, percent, digit, pieces_from, StringStops}
use Rattle.sfv_model.specs.{Quoted.DisplayStops, Reader.{has_rule, first, Answer, Reader, at_reach, by_rule}}
use Rattle.sfv_model.proofs.Types.{ErrorKind, InvalidStringCharacter, UnterminatedString, UnterminatedEscapeSequence}
use Rattle.sfv_model.proofs.Types.{InvalidEscapeSequence, InvalidDisplayStringCharacter, UnterminatedDisplayString}

-- ---- values in front

pub after_bytes_none : (a : Answer (List ℕ)) → after_bytes [] a ≡ a
after_bytes_none (Ok x) = refl
after_bytes_none (Err e) = refl

pub after_bytes_more : (xs ys : List ℕ) (a : Answer (List ℕ))
    → after_bytes xs (after_bytes ys a) ≡ after_bytes (xs ++ ys) a
after_bytes_more xs ys (Ok x) = ap (λ (l : List ℕ). Ok (l, x.1)) (sym (append_assoc xs ys x.0))
after_bytes_more xs ys (Err e) = refl

-- what stands after the bytes that were read
what_follows : Answer (List ℕ) → List ℕ
what_follows (Ok x) = x.1
what_follows (Err e) = []

pub after_bytes_ok : (xs : List ℕ) (a : Answer (List ℕ)) (ys rest : List ℕ) → after_bytes xs a ≡ Ok (ys, rest)
    → (zs : List ℕ) × (a ≡ Ok (zs, rest))
unfolding what_follows
after_bytes_ok xs (Ok x) ys rest e = (x.0, ap (λ (l : List ℕ). Ok (x.0, l)) (ap what_follows e))
after_bytes_ok xs (Err x) ys rest e = absurd cc

-- ---- a piece is read as its byte

pub step_string : (c : ℕ) (p t : List ℕ) → IsStringPiece c p
    → string_from false (p ++ t) ≡ after_bytes (c ∷ []) (string_from false t)
unfolding string_from
step_string c p t (inl h) =
    let a = and_parts (is_string_byte c) (not (is_escaped_in_string c)) h.0 in
    let o = or_parts (c == double_quote) (c == backslash) (not-true (is_escaped_in_string c) a.1) in
    ap (λ (l : List ℕ). string_from false (l ++ t)) h.1 ∙ rw (o.0, o.1, a.0) refl
step_string c p t (inr h) = ap (λ (l : List ℕ). string_from false (l ++ t)) h.1 ∙ rw h.0 refl

pub step_display : (c : ℕ) (p t : List ℕ) → IsDisplayPiece c p
    → pieces_from outside (p ++ t) ≡ after_bytes (c ∷ []) (pieces_from outside t)
unfolding pieces_from
step_display c p t (inl h) =
    let a = and_parts (is_string_byte c) (not ((c == percent_sign) || (c == double_quote))) h.0 in
    let o = or_parts (c == percent_sign) (c == double_quote)
    (not-true ((c == percent_sign) || (c == double_quote)) a.1) in
    ap (λ (l : List ℕ). pieces_from outside (l ++ t)) h.1 ∙ rw (o.1, o.0, a.0) refl
step_display c p t (inr h) =
    let a = and_parts (is_lower_hexadecimal h.0) (is_lower_hexadecimal h.1) h.2 in
    ap (λ (l : List ℕ). pieces_from outside (l ++ t)) h.4
    ∙ rw (a.0, a.1) (ap (λ (v : ℕ). after_bytes (v ∷ []) (pieces_from outside t)) (sym h.3))

module _ (P : ℕ → List ℕ → Type 0) (f : Reader (List ℕ)) (step : (c : ℕ) (p t : List ℕ) → P c p
    → f (p ++ t) ≡ after_bytes (c ∷ []) (f t)) where
  pub past_pieces : (bytes : List ℕ) (pieces : List (List ℕ)) (t : List ℕ) → AllZip P bytes pieces
      → f (concat pieces ++ t) ≡ after_bytes bytes (f t)
  past_pieces [] [] t h = sym (after_bytes_none (f t))
  past_pieces [] (p ∷ ps) t h = absurd h
  past_pieces (c ∷ bytes) [] t h = absurd h
  past_pieces (c ∷ bytes) (p ∷ ps) t h = ap f (append_assoc p (concat ps) t) ∙ step c p (concat ps ++ t) h.0 ∙ ap
      (after_bytes (c ∷ [])) (past_pieces bytes ps t h.1) ∙ after_bytes_more (c ∷ []) bytes (f t)

pub past_string : (bytes : List ℕ) (pieces : List (List ℕ)) (t : List ℕ) → AllZip IsStringPiece bytes pieces
    → string_from false (concat pieces ++ t) ≡ after_bytes bytes (string_from false t)
past_string = past_pieces IsStringPiece (string_from false) step_string

pub past_display : (bytes : List ℕ) (pieces : List (List ℕ)) (t : List ℕ) → AllZip IsDisplayPiece bytes pieces
    → pieces_from outside (concat pieces ++ t) ≡ after_bytes bytes (pieces_from outside t)
past_display = past_pieces IsDisplayPiece (pieces_from outside) step_display

-- ---- the closing quote, and the faults

pub quote_string : (t : List ℕ) → string_from false (double_quote ∷ t) ≡ Ok ([], t)
unfolding string_from
quote_string t = refl

pub quote_display : (t : List ℕ) → pieces_from outside (double_quote ∷ t) ≡ Ok ([], t)
unfolding pieces_from
quote_display t = refl

-- what is no byte of a string is none of its bytes
not_byte : (w n : ℕ) → is_string_byte w ≡ false → is_string_byte n ≡ true → (w == n) ≡ false
not_byte w n h k = ne_eqb w n (λ e. both_ways (is_string_byte n) (rw (← e) h) k)

wrong_string : (w : ℕ) (more : List ℕ) → is_string_byte w ≡ false
    → string_from false (w ∷ more) ≡ Err (at_reach InvalidStringCharacter (w ∷ more))
unfolding string_from
wrong_string w more h = rw (not_byte w double_quote h refl, not_byte w backslash h refl, h) refl

wrong_display : (w : ℕ) (more : List ℕ) → is_string_byte w ≡ false
    → pieces_from outside (w ∷ more) ≡ Err (by_rule InvalidDisplayStringCharacter (w ∷ more))
unfolding pieces_from
wrong_display w more h = rw (not_byte w double_quote h refl, not_byte w percent_sign h refl, h) refl

wrong_escape : (w : ℕ) (more : List ℕ) → is_escaped_in_string w ≡ false
    → string_from false (backslash ∷ w ∷ more) ≡ Err (at_reach InvalidEscapeSequence (w ∷ more))
unfolding string_from
wrong_escape w more h = rw h refl

pub string_stops : (k : ErrorKind) (left there : List ℕ) → StringStops k left there
    → string_from false left ≡ Err (at_reach k there)
unfolding string_from
string_stops UnterminatedString left there h = rw (h.0, h.1) refl
string_stops UnterminatedEscapeSequence left there h = rw (h.0, h.1) refl
string_stops InvalidEscapeSequence left there h = rw (h.2, h.3) (wrong_escape h.0 h.1 h.4)
string_stops InvalidStringCharacter left there h = rw (h.2, h.3) (wrong_string h.0 h.1 h.4)
string_stops _ left there h = absurd h

cut_percent : (digits : List ℕ) → RunOf is_lower_hexadecimal digits → length digits ≤ 1
    → pieces_from outside (percent_sign ∷ digits) ≡ Err (by_rule UnterminatedEscapeSequence [])
unfolding pieces_from
cut_percent [] h l = refl
cut_percent (d ∷ []) h l = rw (and_parts (is_lower_hexadecimal d) true h).0 refl
cut_percent (d ∷ e ∷ ds) h l = absurd (omega (arith, l))

wrong_percent : (digits : List ℕ) (w : ℕ) (more : List ℕ) → RunOf is_lower_hexadecimal digits → length digits ≤ 1
    → is_lower_hexadecimal w ≡ false → pieces_from outside (percent_sign ∷ (digits ++ w ∷ more))
    ≡ Err (by_rule InvalidEscapeSequence (w ∷ more))
unfolding pieces_from
wrong_percent [] w more h l n = rw n refl
wrong_percent (d ∷ []) w more h l n = rw ((and_parts (is_lower_hexadecimal d) true h).0, n) refl
wrong_percent (d ∷ e ∷ ds) w more h l n = absurd (omega (arith, l))

pub display_stops : (k : ErrorKind) (left there : List ℕ) → DisplayStops k left there
    → pieces_from outside left ≡ Err (by_rule k there)
unfolding pieces_from
display_stops UnterminatedDisplayString left there h = rw (h.0, h.1) refl
display_stops UnterminatedEscapeSequence left there h = rw (h.1, h.2) (cut_percent h.0 h.3 h.4)
display_stops InvalidEscapeSequence left there h = rw (h.3, h.4) (wrong_percent h.0 h.1 h.2 h.5 h.6 h.7)
display_stops InvalidDisplayStringCharacter left there h = rw (h.2, h.3) (wrong_display h.0 h.1 h.4)
display_stops _ left there h = absurd h

-- ---- a fault rests on the bytes before its place, and on the one that stands there

abbrev pub StopsWhole : (ErrorKind → List ℕ → List ℕ → Type 0) → ErrorKind → List ℕ → List ℕ → Type 0
StopsWhole Stops k left there = (h : List ℕ) × (left ≡ h ++ there)
    × ((r : List ℕ) → first r ≡ first there → Stops k (h ++ r) r)

no_first : (r : List ℕ) → first r ≡ first [] → r ≡ []
no_first [] e = refl
no_first (c ∷ r) e = absurd cc

-- the same first byte
same_first : (w : ℕ) (more r : List ℕ) → first r ≡ first (w ∷ more) → (rest : List ℕ) × (r ≡ w ∷ rest)
same_first w more [] e = absurd cc
same_first w more (c ∷ r) e = let same : c ≡ w = cc in (r, ap (λ (c : ℕ). c ∷ r) same)

pub string_stops_whole : (k : ErrorKind) (left there : List ℕ) → StringStops k left there
    → StopsWhole StringStops k left there
string_stops_whole UnterminatedString left there h =
    ([], h.0 ∙ sym h.1, λ r e. let n : r ≡ [] = no_first r (e ∙ ap first h.1) in (n, n))
string_stops_whole UnterminatedEscapeSequence left there h = (
  backslash ∷ [],
  h.0 ∙ ap (λ (l : List ℕ). backslash ∷ l) (sym h.1),
  λ r e. let n : r ≡ [] = no_first r (cc) in (ap (λ (l : List ℕ). backslash ∷ l) n, n),
)
string_stops_whole InvalidEscapeSequence left there h = (
  backslash ∷ [],
  h.2 ∙ ap (λ (l : List ℕ). backslash ∷ l) (sym h.3),
  λ r e. let s = same_first h.0 h.1 r (cc) in (h.0, s.0, ap (λ (l : List ℕ). backslash ∷ l) s.1, s.1, h.4),
)
string_stops_whole InvalidStringCharacter left there h =
    ([], h.2 ∙ sym h.3, λ r e. let s = same_first h.0 h.1 r (e ∙ ap first h.3) in (h.0, s.0, s.1, s.1, h.4))
string_stops_whole _ left there h = absurd h

pub display_stops_whole : (k : ErrorKind) (left there : List ℕ) → DisplayStops k left there
    → StopsWhole DisplayStops k left there
display_stops_whole UnterminatedDisplayString left there h =
    ([], h.0 ∙ sym h.1, λ r e. let n : r ≡ [] = no_first r (e ∙ ap first h.1) in (n, n))
display_stops_whole UnterminatedEscapeSequence left there h = (
  percent_sign ∷ h.0,
  rw (h.1, h.2) (ap (λ (l : List ℕ). percent_sign ∷ l) (sym (append-nil h.0))),
  λ r e. let n : r ≡ [] = no_first r (e ∙ ap first h.2) in
      (h.0, rw n (ap (λ (l : List ℕ). percent_sign ∷ l) (append-nil h.0)), n, h.3, h.4),
)
display_stops_whole InvalidEscapeSequence left there h = (
  percent_sign ∷ h.0,
  rw (h.3, h.4) refl,
  λ r e. let s = same_first h.1 h.2 r (e ∙ ap first h.4) in
      (h.0, h.1, s.0, ap (λ (l : List ℕ). percent_sign ∷ (h.0 ++ l)) s.1, s.1, h.5, h.6, h.7),
)
display_stops_whole InvalidDisplayStringCharacter left there h =
    ([], h.2 ∙ sym h.3, λ r e. let s = same_first h.0 h.1 r (e ∙ ap first h.3) in (h.0, s.0, s.1, s.1, h.4))
display_stops_whole _ left there h = absurd h

pub display_ruled : (k : ErrorKind) (left there : List ℕ) → DisplayStops k left there → has_rule k ≡ true
display_ruled UnterminatedDisplayString left there h = refl
display_ruled UnterminatedEscapeSequence left there h = refl
display_ruled InvalidEscapeSequence left there h = refl
display_ruled InvalidDisplayStringCharacter left there h = refl
display_ruled _ left there h = absurd h

-- ---- whole pieces, seen by their bytes alone

unfoldable pub closed : Place → List ℕ → Bool
closed outside [] = true
closed outside (c ∷ r) = cond (c == percent_sign) (closed percent r) (is_plain_in_display c && closed outside r)
closed percent [] = false
closed percent (c ∷ r) = is_lower_hexadecimal c && closed (digit c) r
closed (digit d) [] = false
closed (digit d) (c ∷ r) = is_lower_hexadecimal c && closed outside r

closed_piece : (c : ℕ) (p t : List ℕ) → IsDisplayPiece c p → closed outside (p ++ t) ≡ closed outside t
unfolding closed
closed_piece c p t (inl h) =
    let a = and_parts (is_string_byte c) (not ((c == percent_sign) || (c == double_quote))) h.0 in
    let o = or_parts (c == percent_sign) (c == double_quote)
    (not-true ((c == percent_sign) || (c == double_quote)) a.1) in
    ap (λ (l : List ℕ). closed outside (l ++ t)) h.1 ∙ rw (o.0, o.1, a.0) refl
closed_piece c p t (inr h) =
    let a = and_parts (is_lower_hexadecimal h.0) (is_lower_hexadecimal h.1) h.2 in
    ap (λ (l : List ℕ). closed outside (l ++ t)) h.4 ∙ rw (a.0, a.1) refl

pub closed_past : (bytes : List ℕ) (pieces : List (List ℕ)) (t : List ℕ) → AllZip IsDisplayPiece bytes pieces
    → closed outside (concat pieces ++ t) ≡ closed outside t
closed_past [] [] t h = refl
closed_past [] (p ∷ ps) t h = absurd h
closed_past (c ∷ bytes) [] t h = absurd h
closed_past (c ∷ bytes) (p ∷ ps) t h = ap (closed outside) (append_assoc p (concat ps) t)
    ∙ closed_piece c p (concat ps ++ t) h.0 ∙ closed_past bytes ps t h.1

pub closed_pieces : (bytes : List ℕ) (pieces : List (List ℕ)) → AllZip IsDisplayPiece bytes pieces
    → closed outside (concat pieces) ≡ true
unfolding closed
closed_pieces bytes pieces h = ap (closed outside) (sym (append-nil (concat pieces))) ∙ closed_past bytes pieces [] h

-- no piece begins what is left
abbrev pub IsStuck : List ℕ → Type 0
IsStuck left = (n : ℕ) → suc n ≤ length left → closed outside (take (suc n) left) ≡ false

stuck_byte : (c : ℕ) (r : List ℕ) → (c == percent_sign) ≡ false → is_plain_in_display c ≡ false → IsStuck (c ∷ r)
unfolding closed
stuck_byte c r h k n l = rw (k, h) refl

pub stuck_quote : (r : List ℕ) → IsStuck (double_quote ∷ r)
stuck_quote r = stuck_byte double_quote r refl refl

stuck_cut : (digits : List ℕ) → RunOf is_lower_hexadecimal digits → length digits ≤ 1 → IsStuck (percent_sign ∷ digits)
unfolding closed
stuck_cut [] h l zero m = refl
stuck_cut [] h l (suc n) m = refl
stuck_cut (d ∷ []) h l zero m = refl
stuck_cut (d ∷ []) h l (suc zero) m = rw (and_parts (is_lower_hexadecimal d) true h).0 refl
stuck_cut (d ∷ []) h l (suc (suc n)) m = absurd (omega (arith, m))
stuck_cut (d ∷ e ∷ ds) h l n m = absurd (omega (arith, l))

stuck_wrong : (digits : List ℕ) (w : ℕ) (more : List ℕ) → RunOf is_lower_hexadecimal digits → length digits ≤ 1
    → is_lower_hexadecimal w ≡ false → IsStuck (percent_sign ∷ (digits ++ w ∷ more))
unfolding closed
stuck_wrong [] w more h l k zero m = refl
stuck_wrong [] w more h l k (suc n) m = rw k refl
stuck_wrong (d ∷ []) w more h l k zero m = refl
stuck_wrong (d ∷ []) w more h l k (suc zero) m = rw (and_parts (is_lower_hexadecimal d) true h).0 refl
stuck_wrong (d ∷ []) w more h l k (suc (suc n)) m = rw ((and_parts (is_lower_hexadecimal d) true h).0, k) refl
stuck_wrong (d ∷ e ∷ ds) w more h l k n m = absurd (omega (arith, l))

pub stuck : (k : ErrorKind) (left there : List ℕ) → DisplayStops k left there → IsStuck left
stuck UnterminatedDisplayString left there h = rw h.0 (λ n m. absurd (omega (arith, m)))
stuck UnterminatedEscapeSequence left there h = rw h.1 (stuck_cut h.0 h.3 h.4)
stuck InvalidEscapeSequence left there h = rw h.3 (stuck_wrong h.0 h.1 h.2 h.5 h.6 h.7)
stuck InvalidDisplayStringCharacter left there h = rw h.2 (stuck_byte _ _ (not_byte _ _ h.4 refl) (and_left _ _ h.4))
stuck _ left there h = absurd h
