-- The inside of strings and display strings, by what the code found out, and the errors that it tells of them.
use Rattle.std.proofs.Common.{◌≡◌, ℕ, ◌<◌, ◌≤◌, ◌+◌, ◌*◌, Bool, true, false, not, List, [], ◌∷◌, ◌++◌, length, drop}
use Rattle.std.proofs.Common.{Option, Some, None, Ok, Err, refl, sym, ap, subst, ◌∙◌, append_assoc, length-append}
use Rattle.std.proofs.Common.{arith, inl, inr, MatchOption, is_some, ◌==◌, ◌↔◌, eqb-true, append-nil}
use Rattle.std.specs.{Char.digit_value as hexadecimal_value, List.concat, declared.alloc.Global.Global}
use Rattle.std.proofs.lemmas.Bool.{and_parts, and_from, and_cases, or_parts, or_from, not-true, not_from_false}
use Rattle.std.proofs.lemmas.Bool.{both_ways, Decides.nat_tests}
use Rattle.sfv_spec.specs.Classes.{is_string_byte, is_lower_hexadecimal}
use Rattle.sfv_spec.specs.{Strings.{is_escaped_in_string, IsStringPiece, IsDisplayPiece}, Texts.RunOf}
use Rattle.sfv_spec.proofs.Marks.{double_quote, percent_sign, backslash, plain_of}
use Rattle.sfv_model.specs.Quoted.{after_bytes, string_from, outside, percent, digit, pieces_from, checked, display_at}
use Rattle.sfv_model.specs.{Quoted.{StringStops, DisplayStops, Traced}, Reader.{Answer, first, byte, Apart}}
use Rattle.sfv_model.proofs.Types.{ErrorKind, UnterminatedEscapeSequence, InvalidEscapeSequence}
use Rattle.sfv_model.proofs.quoted.DisplaySteps.{outside_byte}
use Rattle.sfv_model.proofs.quoted.Pieces.{after_bytes_none, after_bytes_more, after_bytes_ok, step_string}
use Rattle.sfv_model.proofs.quoted.{Pieces.step_display, Traces.{Ends, trace_of_string, trace_of_display}}
use Rattle.sfv_base.specs.{Digits.digit_value, Errors.{kind_of, index_of}, declared.error.Error.Error}
use Rattle.sfv.specs.{Memory.IsRefusal, declared.parser.Parser.Parser, declared.parser.cursor.Cursor.Cursor}
use Rattle.sfv.specs.parser.Cursor.{kept_input, rest, located, IsFaultOf, IsErrorOf, NextIs, TakesIf, Skips}
use Rattle.sfv.specs.parser.Quoted.{mark_of, end_error_of, inside, after_mark, opening, HasNoMark, HasNoMarkInside}
use Rattle.sfv.proofs.reads.Steps.{passed}

-- ---- one byte of a quoted text

opens : (d : Bool) (t : List ℕ) → inside d (mark_of d ∷ t) ≡ after_mark d t
unfolding string_from pieces_from
opens true t = refl
opens false t = refl

closes : (d : Bool) (t : List ℕ) → inside d (double_quote ∷ t) ≡ Ok ([], t)
unfolding string_from pieces_from
closes true t = refl
closes false t = refl

plain_byte : (d : Bool) (c : ℕ) (t : List ℕ) → plain_of d c ≡ true
    → inside d (c ∷ t) ≡ after_bytes (c ∷ []) (inside d t)
plain_byte true c t h = step_display c (c ∷ []) t (inl (h, refl))
plain_byte false c t h = step_string c (c ∷ []) t (inl (h, refl))

-- a byte that is not plain, and neither the quote nor the mark
no_string_byte : (d : Bool) (c : ℕ) → plain_of d c ≡ false → byte double_quote c ≡ false → byte (mark_of d) c ≡ false
    → is_string_byte c ≡ false
no_string_byte true c h q m = outside_byte c h q m
no_string_byte false c h q m = elim (and_cases (is_string_byte c) (not (is_escaped_in_string c)) h) as (λ x.
    is_string_byte c ≡ false) [
      | inl e ↦ e
      | inr e ↦ absurd (both_ways (not (is_escaped_in_string c)) e
          (not_from_false (is_escaped_in_string c) (or_from (c == double_quote) (c == backslash) q m)))
    ]

pub stops : (d : Bool) (t : List ℕ) → Apart (plain_of d) t → Apart (byte double_quote) t → Apart (byte (mark_of d)) t
    → located (inside d t) ≡ Err (end_error_of d (is_some (first t)), t)
unfolding string_from pieces_from
stops true [] p q m = refl
stops false [] p q m = refl
stops true (c ∷ t) p q m = rw (
  q.apart c refl,
  m.apart c refl,
  no_string_byte true c (p.apart c refl) (q.apart c refl) (m.apart c refl),
) refl
stops false (c ∷ t) p q m = rw (
  q.apart c refl,
  m.apart c refl,
  no_string_byte false c (p.apart c refl) (q.apart c refl) (m.apart c refl),
) refl

-- ---- the bytes that stand for themselves

plain_reads : (d : Bool) (run t : List ℕ) → RunOf (plain_of d) run → inside d (run ++ t) ≡ after_bytes run (inside d t)
plain_reads d [] t h = sym (after_bytes_none (inside d t))
plain_reads d (c ∷ run) t h =
    let p = and_parts _ _ h in
    plain_byte d c (run ++ t) p.0 ∙ ap (after_bytes (c ∷ [])) (plain_reads d run t p.1)
    ∙ after_bytes_more (c ∷ []) run (inside d t)

-- a text begins with them
pub begins : (d : Bool) (run t p q : List ℕ) → RunOf (plain_of d) run → t ≡ run ++ p → q ≡ p
    → inside d t ≡ after_bytes run (inside d q)
begins d run t p q each taken same = ap (inside d) taken ∙ plain_reads d run p each
    ∙ ap (λ (l : List ℕ). after_bytes run (inside d l)) (sym same)

at_byte : (m : ℕ) (t r : List ℕ) → TakesIf (byte m) true t r → t ≡ m ∷ r
at_byte m t r h = h.1 ∙ ap (λ (c : ℕ). c ∷ r) (eqb-true h.0 m h.2)

pub closed : (d : Bool) (t r : List ℕ) → TakesIf (byte double_quote) true t r → inside d t ≡ Ok ([], r)
closed d t r h = ap (inside d) (at_byte double_quote t r h) ∙ closes d r

-- and the quote stands after them
pub all_plain : (d : Bool) (run t p r : List ℕ) → RunOf (plain_of d) run → t ≡ run ++ p
    → TakesIf (byte double_quote) true p r → inside d t ≡ Ok (run, r)
all_plain d run t p r each taken quote = begins d run t p p each taken refl ∙ ap (after_bytes run) (closed d p r quote)
    ∙ ap (λ (l : List ℕ). Ok (l, r)) (append-nil run)

-- the closing quote after bytes that were read
pub closed_after : (d : Bool) (bytes t r : List ℕ) (whole : Answer (List ℕ)) → after_bytes bytes (inside d t) ≡ whole
    → TakesIf (byte double_quote) true t r → whole ≡ Ok (bytes, r)
closed_after d bytes t r whole sofar quote = sym sofar ∙ ap (after_bytes bytes) (closed d t r quote)
    ∙ ap (λ (l : List ℕ). Ok (l, r)) (append-nil bytes)

-- ---- escapes

at_mark : (d : Bool) (t q r : List ℕ) → q ≡ t → TakesIf (byte (mark_of d)) true q r → inside d t ≡ after_mark d r
at_mark d t q r same mark = ap (inside d) (sym same ∙ at_byte (mark_of d) q r mark) ∙ opens d r

-- after an escape
pub past_escape : (d : Bool) (bytes : List ℕ) (c : ℕ) (t q r e : List ℕ) → q ≡ t → TakesIf (byte (mark_of d)) true q r
    → after_mark d r ≡ after_bytes (c ∷ []) (inside d e)
    → after_bytes (bytes ++ c ∷ []) (inside d e) ≡ after_bytes bytes (inside d t)
past_escape d bytes c t q r e same mark escaped = sym (after_bytes_more bytes (c ∷ []) (inside d e))
    ∙ ap (after_bytes bytes) (sym (at_mark d t q r same mark ∙ escaped))

-- after plain bytes
pub past_run : (d : Bool) (bytes run t q n : List ℕ) → q ≡ t → RunOf (plain_of d) run → q ≡ run ++ n
    → after_bytes (bytes ++ run) (inside d n) ≡ after_bytes bytes (inside d t)
past_run d bytes run t q n same each taken = sym (after_bytes_more bytes run (inside d n))
    ∙ ap (after_bytes bytes) (sym (ap (inside d) (sym same) ∙ begins d run q n n each taken refl))

-- ---- errors

after_located : (bytes : List ℕ) (a : Answer (List ℕ)) (x : ErrorKind × List ℕ) → located a ≡ Err x
    → located (after_bytes bytes a) ≡ Err x
after_located bytes (Ok y) x h = absurd cc
after_located bytes (Err f) x h = h

-- a fault after bytes that were read
pub after_fault : (i j : Parser × Global) (e : Error) (bytes : List ℕ) (a whole : Answer (List ℕ)) → i ≡ j
    → after_bytes bytes a ≡ whole → IsFaultOf (kept_input i) e a → IsErrorOf (kept_input j) e whole
after_fault i j e bytes a whole same eq h = rw (← eq)
    (on (index_of e) (subst (λ (k : Parser × Global). IsFaultOf (kept_input k) e a) same h))
  where
    on : (o : Option ℕ) → MatchOption o ⊥ (λ n. (located a ≡ Err (kind_of e, drop n (kept_input j)))
        × (n ≤ length (kept_input j))) → MatchOption o (IsRefusal (kept_input j) e) (λ n. (located (after_bytes bytes a) ≡ Err (kind_of e, drop n (kept_input j)))
        × (n ≤ length (kept_input j)))
    on None h = absurd h
    on (Some n) h = (after_located bytes a _ h.0, h.1)

-- that of an escape
pub escape_fails : (d : Bool) (i j : Parser × Global) (e : Error) (bytes t q r : List ℕ) (whole : Answer (List ℕ))
    → i ≡ j → after_bytes bytes (inside d t) ≡ whole → q ≡ t → TakesIf (byte (mark_of d)) true q r
    → IsFaultOf (kept_input i) e (after_mark d r) → IsErrorOf (kept_input j) e whole
escape_fails d i j e bytes t q r whole same sofar at mark h = after_fault i j e bytes
    (after_mark d r) whole same (ap (after_bytes bytes) (sym (at_mark d t q r at mark)) ∙ sofar) h

checked_located : (t : List ℕ) (a : Answer (List ℕ)) (x : ErrorKind × List ℕ) → located a ≡ Err x
    → located (checked t a) ≡ Err x
checked_located t (Ok y) x h = absurd cc
checked_located t (Err f) x h = h

-- an error of the bytes of a display string is one of the whole
pub display_error : (input : List ℕ) (e : Error) (t : List ℕ) → IsErrorOf input e (pieces_from outside t)
    → IsErrorOf input e (display_at t)
unfolding display_at
display_error input e t h = on (index_of e) h
  where
    on : (o : Option ℕ) → MatchOption o (IsRefusal input e) (λ n. (located (pieces_from outside t) ≡ Err (kind_of e, drop n input)) × (n ≤ length input))
        → MatchOption o (IsRefusal input e) (λ n. (located (checked t (pieces_from outside t))
        ≡ Err (kind_of e, drop n input)) × (n ≤ length input))
    on None h = h
    on (Some n) h = (checked_located t (pieces_from outside t) _ h.0, h.1)

-- ---- whether an escape was read

abbrev no_mark : Bool → ℕ → Bool
no_mark d c = not (c == mark_of d)

plain_no_mark : (d : Bool) (c : ℕ) → plain_of d c ≡ true → no_mark d c ≡ true
plain_no_mark true c p = not_from_false _ (or_parts _ _ (not-true _ (and_parts _ _ p).1)).0
plain_no_mark false c p = not_from_false _ (or_parts _ _ (not-true _ (and_parts _ _ p).1)).1

quote_no_mark : (d : Bool) → no_mark d double_quote ≡ true
quote_no_mark true = refl
quote_no_mark false = refl

-- none in plain bytes and the quote
pub no_escape : (d : Bool) (run t p r : List ℕ) → RunOf (plain_of d) run → t ≡ run ++ p
    → TakesIf (byte double_quote) true p r → (s : List ℕ) × (t ≡ s ++ r) × RunOf (no_mark d) s
no_escape d run t p r each taken quote = (
  run ++ double_quote ∷ [],
  taken ∙ ap (λ (l : List ℕ). run ++ l) (at_byte double_quote p r quote) ∙ sym (append_assoc run (double_quote ∷ []) r),
  on run each,
)
  where
    on : (run : List ℕ) → RunOf (plain_of d) run → RunOf (no_mark d) (run ++ double_quote ∷ [])
    on [] h = and_from _ _ (quote_no_mark d) refl
    on (c ∷ run) h = let p = and_parts _ _ h in and_from _ _ (plain_no_mark d c p.0) (on run p.1)

ok_shorter : (d : Bool) (t bytes rest : List ℕ) → inside d t ≡ Ok (bytes, rest) → length rest < length t
ok_shorter true t bytes rest e =
    let h = subst (λ (a : Answer (List ℕ)). Traced IsDisplayPiece t (Ends false DisplayStops a)) e
    (trace_of_display t) in
    let n = ap (length {A = ℕ}) h.text in
    let m = ap (length {A = ℕ}) h.ends.1 in
    omega (arith, n, m, length-append (concat h.pieces) h.left)
ok_shorter false t bytes rest e =
    let h = subst (λ (a : Answer (List ℕ)). Traced IsStringPiece t (Ends true StringStops a)) e (trace_of_string t) in
    let n = ap (length {A = ℕ}) h.text in
    let m = ap (length {A = ℕ}) h.ends.1 in
    omega (arith, n, m, length-append (concat h.pieces) h.left)

-- the mark stands among the bytes that were taken
holds_mark : (d : Bool) (run s t r : List ℕ) (m : ℕ) → byte (mark_of d) m ≡ true → run ++ m ∷ t ≡ s ++ r
    → length r < length (m ∷ t) → RunOf (no_mark d) s → ⊥
holds_mark d [] [] t r m mark e less h = let n = ap (length {A = ℕ}) e in absurd (omega (arith, n, less))
holds_mark d [] (c ∷ s) t r m mark e less h =
    let same : m ≡ c = cc in
    both_ways (no_mark d c) (rw (← same, mark) refl) (and_parts _ _ h).0
holds_mark d (x ∷ run) [] t r m mark e less h = let n = ap (length {A = ℕ}) e in
    absurd (omega (arith, n, less, length-append run (m ∷ t)))
holds_mark d (x ∷ run) (c ∷ s) t r m mark e less h = holds_mark d run s t r m mark (cc) less (and_parts _ _ h).1

pub some_escape : (d : Bool) (run t p q s r : List ℕ) (m : ℕ) (u bytes : List ℕ) → t ≡ run ++ p → q ≡ p → q ≡ m ∷ u
    → byte (mark_of d) m ≡ true → after_bytes run (inside d q) ≡ Ok (bytes, r) → t ≡ s ++ r → RunOf (no_mark d) s → ⊥
some_escape d run t p q s r m u bytes taken same at mark read past h =
    let w = after_bytes_ok run (inside d q) bytes r read in
    let less = ok_shorter d q w.0 r w.1 in
    let n = ap (length {A = ℕ}) at in
    holds_mark d run s u r m mark (ap (λ (l : List ℕ). run ++ l) (sym (sym same ∙ at)) ∙ sym taken
    ∙ past) (omega (arith, less, n)) h

-- ---- the next byte, by what a look at it gives

pub no_first : (t : List ℕ) → first t ≡ None → t ≡ []
no_first [] h = refl
no_first (c ∷ t) h = absurd cc

pub first_is : (t r : List ℕ) (c b : ℕ) → first t ≡ Some c → t ≡ b ∷ r → t ≡ c ∷ r
first_is [] r c b h e = absurd cc
first_is (x ∷ t) r c b h e = cc

-- ---- the escapes of a string

pub string_escaped : (c : ℕ) (t r : List ℕ) → t ≡ c ∷ r → is_escaped_in_string c ≡ true
    → string_from true t ≡ after_bytes (c ∷ []) (string_from false r)
unfolding string_from
string_escaped c t r e h = rw (e, h) refl

pub string_cut : (t : List ℕ) → t ≡ [] → located (string_from true t) ≡ Err (UnterminatedEscapeSequence, t)
unfolding string_from
string_cut t e = rw e refl

pub string_wrong : (t : List ℕ) (c : ℕ) → first t ≡ Some c → is_escaped_in_string c ≡ false
    → located (string_from true t) ≡ Err (InvalidEscapeSequence, t)
unfolding string_from
string_wrong [] c i h = absurd cc
string_wrong (x ∷ t) c i h = let same : x ≡ c = cc in rw (same, h) refl

-- ---- the escapes of a display string

pub first_digit : (c : ℕ) (t : List ℕ) → is_lower_hexadecimal c ≡ true
    → pieces_from percent (c ∷ t) ≡ pieces_from (digit c) t
unfolding pieces_from
first_digit c t h = rw h refl

second_digit : (high c : ℕ) (t : List ℕ) → is_lower_hexadecimal c ≡ true → pieces_from (digit high)
    (c ∷ t) ≡ after_bytes ((16 * hexadecimal_value high + hexadecimal_value c) ∷ []) (pieces_from outside t)
unfolding pieces_from
second_digit high c t h = rw h refl

pub both_digits : (t r s : List ℕ) (high low : ℕ) → t ≡ high ∷ r → is_lower_hexadecimal high ≡ true → r ≡ low ∷ s
    → is_lower_hexadecimal low ≡ true
    → pieces_from percent t ≡ after_bytes ((16 * hexadecimal_value high + hexadecimal_value low) ∷ [])
    (pieces_from outside s)
both_digits t r s high low e h f l = ap (pieces_from percent) e ∙ first_digit high r h ∙ ap (pieces_from (digit high)) f
    ∙ second_digit high low s l

-- the second digit's fault is one after the percent sign
pub second_fault : (i j : Parser × Global) (e : Error) (t r : List ℕ) (high : ℕ) → i ≡ j → t ≡ high ∷ r
    → is_lower_hexadecimal high ≡ true → IsFaultOf (kept_input i) e (pieces_from (digit high) r)
    → IsFaultOf (kept_input j) e (pieces_from percent t)
second_fault i j e t r high same at h f = subst (λ (k : Parser
    × Global). IsFaultOf (kept_input k) e (pieces_from percent t)) same
    (subst (IsFaultOf (kept_input i) e) (sym (ap (pieces_from percent) at ∙ first_digit high r h)) f)

-- no digit stands there, since the input ends
pub digit_cut : (t : List ℕ) → t ≡ [] → (located (pieces_from percent t) ≡ Err (UnterminatedEscapeSequence, t))
    × ((high : ℕ) → located (pieces_from (digit high) t) ≡ Err (UnterminatedEscapeSequence, t))
unfolding pieces_from
digit_cut t e = (rw e refl, λ high. rw e refl)

-- or since another byte does
pub digit_wrong : (t : List ℕ) (c : ℕ) → first t ≡ Some c → is_lower_hexadecimal c ≡ false
    → (located (pieces_from percent t) ≡ Err (InvalidEscapeSequence, t))
    × ((high : ℕ) → located (pieces_from (digit high) t) ≡ Err (InvalidEscapeSequence, t))
unfolding pieces_from
digit_wrong [] c i h = absurd cc
digit_wrong (x ∷ t) c i h = let same : x ≡ c = cc in (rw (same, h) refl, λ high. rw (same, h) refl)

-- a byte by its value as a digit
pub no_digit : (c : ℕ) → digit_value c ≡ None → is_lower_hexadecimal c ≡ false
no_digit c h = grind (arith, nat_tests)

pub digit_is : (c value : ℕ) → digit_value c ≡ Some value
    → (is_lower_hexadecimal c ≡ true) × (value ≡ hexadecimal_value c) × (value < 16)
digit_is c value h = (grind (arith, nat_tests), grind (arith, nat_tests), grind (arith, nat_tests))

-- ---- a text with its opening

pub string_opens : (t r : List ℕ) → NextIs (byte double_quote) true t → Skips t r → t ≡ opening false ++ r
string_opens t r m k = passed double_quote t r m k

pub display_opens : (t r q : List ℕ) → NextIs (byte percent_sign) true t → Skips t r
    → TakesIf (byte double_quote) true r q → t ≡ opening true ++ q
display_opens t r q m k n =
    let same : m.0 ∷ m.1 ≡ k.0 ∷ r = sym m.2 ∙ k.1 in
    let begun : k.0 ≡ m.0 = cc in
    k.1 ∙ ap (λ (c : ℕ). c ∷ r) (begun ∙ eqb-true m.0 percent_sign m.3)
    ∙ ap (λ (l : List ℕ). percent_sign ∷ l) (at_byte double_quote r q n)

opened : (d : Bool) (t u : List ℕ) → opening d ++ t ≡ opening d ++ u → t ≡ u
opened true t u h = cc
opened false t u h = cc

-- no mark stands in what was taken after the opening
pub after_opening : (d : Bool) (A : Type 0) (before middle after : Cursor) → rest before ≡ opening d ++ rest middle
    → (A ↔ HasNoMark d middle after) → (A ↔ HasNoMarkInside d before after)
after_opening d A before middle after opens h = (
  λ a. let n = h.0 a in (n.0, opens ∙ ap (λ (l : List ℕ). opening d ++ l) n.1, n.2),
  λ n. h.1 (n.0, opened d _ _ (sym opens ∙ n.1), n.2),
)
