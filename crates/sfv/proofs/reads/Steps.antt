-- What a reader gives, by what the code found out.
use Rattle.std.proofs.Common.{◌≡◌, ℕ, ◌+◌, ◌-◌, ◌*◌, ◌^◌, ◌≤◌, Bool, true, false, eqb, ltb, List, [], ◌∷◌, ◌++◌, length}
use Rattle.std.proofs.Common.{Option, Some, None, Ok, Err, refl, sym, ap, subst, ◌∙◌, arith, drop, IsTrue, ℤ}
use Rattle.std.proofs.Common.{MatchOption, eqb-true, ne_eqb}
use Rattle.std.{specs.declared.alloc.Global.Global, proofs.lemmas.Bool.{and_from, both_ways}}
use Rattle.sfv_spec.specs.Classes.{is_key_start, is_key_inner, is_key, is_token_start, is_token_inner, is_token}
use Rattle.sfv_spec.specs.{Events.bare_item, Numbers.{place_value, signed}, Texts.RunOf}
use Rattle.sfv_spec.specs.Values.{RawParameters, RawItem, BareValue, integer, decimal, token, boolean, date}
use Rattle.sfv_spec.specs.Values.{display_string, string, byte_sequence}
use Rattle.sfv_spec.proofs.Marks.{double_quote, percent_sign, digit_zero, colon, minus_sign, dot, digit_one, semicolon}
use Rattle.sfv_spec.proofs.Marks.{equals_sign, question_mark, at_sign, is_digit, is_space}
use Rattle.sfv_model.specs.Bare.{is_number_start, bare_at, boolean_at, as_date, date_at, quoted_at, sign_at, long_at}
use Rattle.sfv_model.specs.Bare.{decimal_at, fraction_at, point_at, whole_at, number_at, token_at}
use Rattle.sfv_model.specs.{Content.bytes_at, Items.{key_at, value_at, parameter_at, parameters_at, item_of, item_at}}
use Rattle.sfv_model.specs.Quoted.{string_at, display_at}
use Rattle.sfv_model.specs.Reader.{Answer, Reader, led, give, fail, ruled, ◌>>=◌, branch, ahead, at_start, back, up_to}
use Rattle.sfv_model.specs.Reader.{span, byte, Apart}
use Rattle.sfv_model.proofs.Types.{ExpectedQuote, Rfc8941DisplayString, ExpectedBoolean, Rfc8941Date, NonIntegerDate}
use Rattle.sfv_model.proofs.Types.{ExpectedStartOfKey, ExpectedStartOfBareItem, ExpectedDigit, TooManyDigits}
use Rattle.sfv_model.proofs.Types.{TooManyDigitsBeforeDecimalPoint, TooManyDigitsAfterDecimalPoint}
use Rattle.sfv_model.proofs.Types.{TrailingDecimalPoint, Version, Rfc8941, Rfc9651, ErrorKind}
use Rattle.sfv_model.proofs.complete.Combinators.{branch_past, branch_take, ahead_past, ahead_take, bind_complete}
use Rattle.sfv_model.proofs.complete.Combinators.{led_complete, span_complete}
use Rattle.sfv.specs.{Types.Error, declared.parser.Parser.Parser}
use Rattle.sfv.specs.parser.Cursor.{kept_input, located, IsFaultOf, NextIs, TakesIf, Skips}
use Rattle.sfv.proofs.reads.Errors.{fault_bind}

pub ahead_true : {A : Type 0} (class : ℕ → Bool) (taken other : Reader A) (t : List ℕ) → NextIs class true t
    → ahead class taken other t ≡ taken t
ahead_true class taken other t m = ap (ahead class taken other) m.2 ∙ ahead_take _ _ _ _ _ m.3 ∙ ap taken (sym m.2)

pub branch_true : {A : Type 0} (class : ℕ → Bool) (taken : ℕ → Reader A) (other : Reader A) (t r : List ℕ)
    → (m : TakesIf class true t r) → branch class taken other t ≡ taken m.0 r
branch_true class taken other t r m = ap (branch class taken other) m.1 ∙ branch_take class taken other m.0 r m.2

pub branch_false : {A : Type 0} (class : ℕ → Bool) (taken : ℕ → Reader A) (other : Reader A) (t r : List ℕ)
    → TakesIf class false t r → branch class taken other t ≡ other r
branch_false class taken other t r m = branch_past class taken other t m.1 ∙ ap other (sym m.0)

pub sign_takes : (b : Bool) (t r : List ℕ) → TakesIf (byte minus_sign) b t r → sign_at t ≡ Ok (b, r)
unfolding sign_at give
sign_takes true t r m = branch_true (byte minus_sign) (λ _. give true) (give false) t r m
sign_takes false t r m = branch_false (byte minus_sign) (λ _. give true) (give false) t r m

-- ---- a number

pub number_is : (dated b : Bool) (t r q whole : List ℕ) → sign_at t ≡ Ok (b, r) → up_to is_digit 15 r ≡ Ok (whole, q)
    → number_at dated t ≡ whole_at dated b whole q
unfolding number_at
number_is dated b t r q whole s d = bind_complete _ _ t r b s ∙ bind_complete _ _ r q whole d

pub ruleset number_steps = number_is

-- ---- after the whole part

pub whole_empty : (dated negative : Bool) (whole t : List ℕ) → eqb (length whole) 0 ≡ true
    → located (whole_at dated negative whole t) ≡ Err (ExpectedDigit, t)
unfolding whole_at fail
whole_empty dated negative whole t e = rw e refl

pub whole_digit : (dated negative : Bool) (whole t : List ℕ) → eqb (length whole) 0 ≡ false → NextIs is_digit true t
    → located (whole_at dated negative whole t) ≡ Err (TooManyDigits, t)
unfolding whole_at fail
whole_digit dated negative whole t e m = rw e (ap located (ahead_true _ _ _ t m))

pub whole_integer : (dated negative : Bool) (whole t : List ℕ) → eqb (length whole) 0 ≡ false → Apart is_digit t
    → Apart (byte dot) t → whole_at dated negative whole t ≡ Ok (integer (signed negative (place_value whole)), t)
unfolding whole_at give
whole_integer dated negative whole t e m k = rw e (ahead_past _ _ _ t m ∙ ahead_past _ _ _ t k)

pub whole_long : (dated negative : Bool) (whole t : List ℕ) → eqb (length whole) 0 ≡ false → Apart is_digit t
    → NextIs (byte dot) true t → ltb 12 (length whole) ≡ true
    → located (whole_at dated negative whole t) ≡ Err (TooManyDigitsBeforeDecimalPoint, t)
unfolding whole_at fail
whole_long dated negative whole t e m k l =
    let long : whole_at dated negative whole t ≡ fail TooManyDigitsBeforeDecimalPoint t =
    rw e (ahead_past _ _ _ t m ∙ ahead_true _ _ _ t k ∙ rw l refl) in
    ap located long

pub whole_point : (dated negative : Bool) (whole t : List ℕ) → eqb (length whole) 0 ≡ false → Apart is_digit t
    → NextIs (byte dot) true t → ltb 12 (length whole) ≡ false
    → whole_at dated negative whole t ≡ point_at dated negative whole t
unfolding whole_at
whole_point dated negative whole t e m k l = rw e (ahead_past _ _ _ t m ∙ ahead_true _ _ _ t k ∙ rw l refl)

pub ruleset whole_steps = (whole_empty, whole_digit, whole_integer, whole_long, whole_point)

-- ---- at the point

-- the byte that was skipped is the point
at_point : (dated negative : Bool) (whole t r : List ℕ) → NextIs (byte dot) true t → Skips t r
    → point_at dated negative whole t ≡ at_start TrailingDecimalPoint t (fraction_at dated negative whole r)
unfolding point_at back
at_point dated negative whole t r m k =
    let same : m.0 ∷ m.1 ≡ k.0 ∷ r = sym m.2 ∙ k.1 in
    let after : m.1 ≡ r = cc in
    ap (at_start TrailingDecimalPoint t) (branch_true _ _ _ _ _ (m.0, m.2 ∙ ap (λ (l : List ℕ). m.0 ∷ l) after, m.3))

pub point_empty : (dated negative : Bool) (whole t r f q : List ℕ) → NextIs (byte dot) true t → Skips t r
    → up_to is_digit 3 r ≡ Ok (f, q) → eqb (length f) 0 ≡ true
    → located (point_at dated negative whole t) ≡ Err (TrailingDecimalPoint, t)
unfolding fraction_at decimal_at give
point_empty dated negative whole t r f q m k d e =
    let inner : fraction_at dated negative whole r ≡ Ok (None, q) = bind_complete _ _ r q f d ∙ rw e refl in
    ap located (at_point dated negative whole t r m k ∙ ap (at_start TrailingDecimalPoint t) inner)

long_located : (dated : Bool) (q : List ℕ) (k t : List ℕ)
    → located (at_start TrailingDecimalPoint k (long_at dated q)) ≡ Err (TooManyDigitsAfterDecimalPoint, q)
unfolding long_at fail ruled
long_located true q k t = refl
long_located false q k t = refl

pub point_digit : (dated negative : Bool) (whole t r f q : List ℕ) → NextIs (byte dot) true t → Skips t r
    → up_to is_digit 3 r ≡ Ok (f, q) → eqb (length f) 0 ≡ false → NextIs is_digit true q
    → located (point_at dated negative whole t) ≡ Err (TooManyDigitsAfterDecimalPoint, q)
unfolding fraction_at decimal_at
point_digit dated negative whole t r f q m k d e n =
    let inner : fraction_at dated negative whole r ≡ long_at dated q = bind_complete _ _ _ _ _ d
    ∙ rw e (ahead_true _ _ _ _ n) in
    ap located (at_point _ _ _ _ _ m k ∙ ap (at_start TrailingDecimalPoint t) inner) ∙ long_located _ _ _ t

pub point_decimal : (dated negative : Bool) (whole t r f q : List ℕ) → NextIs (byte dot) true t → Skips t r
    → up_to is_digit 3 r ≡ Ok (f, q) → eqb (length f) 0 ≡ false → Apart is_digit q
    → point_at dated negative whole t ≡ Ok (
      decimal (signed negative (place_value whole * 1000 + place_value f * 10 ^ (3 - length f))),
      q,
    )
unfolding fraction_at decimal_at give
point_decimal dated negative whole t r f q m k d e n =
    let value : BareValue = decimal (signed negative
    (place_value whole * 1000 + place_value f * 10 ^ (3 - length f))) in
    let inner : fraction_at dated negative whole r ≡ Ok (Some value, q) = bind_complete _ _ r q f d
    ∙ rw e (ahead_past _ _ _ q n) in
    at_point dated negative whole t r m k ∙ ap (at_start TrailingDecimalPoint t) inner

pub ruleset point_steps = (point_empty, point_digit, point_decimal)

-- ---- keys and tokens

pub key_none : (t : List ℕ) → Apart is_key_start t → located (key_at t) ≡ Err (ExpectedStartOfKey, t)
unfolding key_at fail
key_none t m = ap located (branch_past _ _ _ t m)

pub token_none : (t : List ℕ) → Apart is_token_start t → located (token_at t) ≡ Err (ExpectedStartOfBareItem, t)
unfolding token_at fail
token_none t m = ap located (branch_past _ _ _ t m)

pub some_next : (class : ℕ → Bool) (t : List ℕ) → NextIs class true t → 1 ≤ length t
some_next class t m = rw m.2 (omega arith)

-- a byte of the first class and bytes of the second were taken of t
pub record IsTaken (start inner : ℕ → Bool) (t bytes q : List ℕ) : Type 0 where
  pub head : NextIs start true t
  pub each : (b : ℕ) × (s : List ℕ) × (bytes ≡ b ∷ s) × RunOf inner s
  pub taken : t ≡ bytes ++ q
  pub ends : Apart inner q

taken_text : (start inner : ℕ → Bool) (t bytes q : List ℕ) → (h : IsTaken start inner t bytes q)
    → (t ≡ h.each.0 ∷ (h.each.1 ++ q)) × (start h.each.0 ≡ true)
taken_text start inner t bytes q h =
    let split : t ≡ h.each.0 ∷ (h.each.1 ++ q) = h.taken ∙ ap (λ (l : List ℕ). l ++ q) h.each.2 in
    let same : h.head.0 ∷ h.head.1 ≡ h.each.0 ∷ (h.each.1 ++ q) = sym h.head.2 ∙ split in
    let head : h.head.0 ≡ h.each.0 = cc in
    (split, rw (← head) h.head.3)

pub key_class : (t bytes q : List ℕ) → IsTaken is_key_start is_key_inner t bytes q → IsTrue (is_key bytes)
key_class t bytes q h = let s = taken_text _ _ t bytes q h in rw h.each.2 (and_from _ _ s.1 h.each.3)

pub key_some : (t bytes q : List ℕ) → IsTaken is_key_start is_key_inner t bytes q → key_at t ≡ Ok (bytes, q)
unfolding key_at give
key_some t bytes q h =
    let s = taken_text _ _ t bytes q h in
    ap key_at s.0 ∙ branch_take _ _ _ h.each.0 _ s.1 ∙ bind_complete _ _ _ _ _
    (span_complete is_key_inner h.each.1 q h.each.3 h.ends) ∙ ap (λ (l : List ℕ). Ok (l, q)) (sym h.each.2)

pub token_class : (t bytes q : List ℕ) → IsTaken is_token_start is_token_inner t bytes q → IsTrue (is_token bytes)
token_class t bytes q h = let s = taken_text _ _ t bytes q h in rw h.each.2 (and_from _ _ s.1 h.each.3)

pub token_some : (t bytes q : List ℕ) → IsTaken is_token_start is_token_inner t bytes q
    → token_at t ≡ Ok (token bytes, q)
unfolding token_at give
token_some t bytes q h =
    let s = taken_text _ _ t bytes q h in
    ap token_at s.0 ∙ branch_take _ _ _ h.each.0 _ s.1 ∙ bind_complete _ _ _ _ _
    (span_complete is_token_inner h.each.1 q h.each.3 h.ends) ∙ ap (λ (l : List ℕ). Ok (token l, q)) (sym h.each.2)

pub ruleset key_steps = (some_next, key_none)

pub ruleset token_steps = (some_next, token_none)

-- ---- booleans

pub boolean_false : (t r : List ℕ) → TakesIf (byte digit_zero) true t r → boolean_at t ≡ Ok (boolean false, r)
unfolding boolean_at give
boolean_false t r m = branch_true _ _ _ t r m

pub boolean_true : (t r q : List ℕ) → TakesIf (byte digit_zero) false t r → TakesIf (byte digit_one) true r q
    → boolean_at t ≡ Ok (boolean true, q)
unfolding boolean_at give
boolean_true t r q m k = branch_false _ _ _ t r m ∙ branch_true _ _ _ r q k

pub boolean_none : (t r q : List ℕ) → TakesIf (byte digit_zero) false t r → TakesIf (byte digit_one) false r q
    → located (boolean_at t) ≡ Err (ExpectedBoolean, q)
unfolding boolean_at fail
boolean_none t r q m k = ap located (branch_false _ _ _ t r m ∙ branch_false _ _ _ r q k)

pub ruleset boolean_steps = (boolean_false, boolean_true, boolean_none)

-- ---- dates

date_older : (t : List ℕ) → located (date_at Rfc8941 t) ≡ Err (Rfc8941Date, t)
unfolding date_at fail
date_older t = refl

date_is : (t r : List ℕ) → NextIs (byte at_sign) true t → Skips t r
    → date_at Rfc9651 t ≡ at_start NonIntegerDate t ((number_at true >>= λ v. give (as_date v)) r)
unfolding date_at back
date_is t r m k =
    let same : m.0 ∷ m.1 ≡ k.0 ∷ r = sym m.2 ∙ k.1 in
    let after : m.1 ≡ r = cc in
    ap (at_start NonIntegerDate t) (branch_true _ _ _ _ _ (m.0, m.2 ∙ ap (λ (l : List ℕ). m.0 ∷ l) after, m.3))

pub date_integer : (t r q : List ℕ) (z : ℤ) → NextIs (byte at_sign) true t → Skips t r
    → number_at true r ≡ Ok (integer z, q) → date_at Rfc9651 t ≡ Ok (date z, q)
unfolding give
date_integer t r q z m k n = date_is t r m k ∙ ap (at_start NonIntegerDate t) (bind_complete _ _ r q (integer z) n)

pub date_decimal : (t r q : List ℕ) (z : ℤ) → NextIs (byte at_sign) true t → Skips t r
    → number_at true r ≡ Ok (decimal z, q) → located (date_at Rfc9651 t) ≡ Err (NonIntegerDate, t)
unfolding give
date_decimal t r q z m k n = ap located (date_is _ _ m k ∙ ap (at_start NonIntegerDate t) (bind_complete _ _ _ _ _ n))

start_fault : (k t s : List ℕ) (o : Answer (Option BareValue)) (kind : ErrorKind) → located o ≡ Err (kind, s)
    → located (at_start NonIntegerDate t o) ≡ Err (kind, s)
start_fault k t s (Ok x) kind h = absurd cc
start_fault k t s (Err f) kind h = ap (λ (p : ErrorKind × List ℕ). Err p) cc

date_faulty : (t r : List ℕ) (kind : ErrorKind) (s : List ℕ) → NextIs (byte at_sign) true t → Skips t r
    → located (number_at true r) ≡ Err (kind, s) → located (date_at Rfc9651 t) ≡ Err (kind, s)
date_faulty t r kind s m k n = ap located (date_is t r m k) ∙ start_fault t t s _ kind (fault_bind _ _ r kind s n)

pub date_fault : (t r : List ℕ) (i j : Parser × Global) (e : Error) → NextIs (byte at_sign) true t → Skips t r → i ≡ j
    → IsFaultOf (kept_input i) e (number_at true r) → IsFaultOf (kept_input j) e (date_at Rfc9651 t)
date_fault t r i j e m k same h = subst (λ (i : Parser
    × Global). IsFaultOf (kept_input i) e (date_at Rfc9651 t)) same (on e.index h)
  where
    on : (o : Option ℕ) → MatchOption o ⊥ (λ index. (located (number_at true r)
        ≡ Err (e.kind, drop index (kept_input i))) × (index ≤ length (kept_input i)))
        → MatchOption o ⊥ (λ index. (located (date_at Rfc9651 t) ≡ Err (e.kind, drop index (kept_input i)))
        × (index ≤ length (kept_input i)))
    on None h = h
    on (Some i) h = (date_faulty t r _ _ m k h.0, h.1)

-- ---- display strings

quoted_older : (t : List ℕ) → located (quoted_at Rfc8941 t) ≡ Err (Rfc8941DisplayString, t)
unfolding quoted_at fail
quoted_older t = refl

quoted_is : (t r : List ℕ) → NextIs (byte percent_sign) true t → Skips t r
    → quoted_at Rfc9651 t ≡ branch (byte double_quote) (λ _. display_at
    >>= λ s. give (display_string s)) (fail ExpectedQuote) r
unfolding quoted_at
quoted_is t r m k =
    let same : m.0 ∷ m.1 ≡ k.0 ∷ r = sym m.2 ∙ k.1 in
    let after : m.1 ≡ r = cc in
    branch_true (byte percent_sign) _ _ t r (m.0, m.2 ∙ ap (λ (l : List ℕ). m.0 ∷ l) after, m.3)

pub quoted_no_quote : (t r q : List ℕ) → NextIs (byte percent_sign) true t → Skips t r
    → TakesIf (byte double_quote) false r q → located (quoted_at Rfc9651 t) ≡ Err (ExpectedQuote, q)
unfolding fail
quoted_no_quote t r q m k n = ap located (quoted_is t r m k ∙ branch_false _ _ _ r q n)

pub quoted_reads : (t r q : List ℕ) → NextIs (byte percent_sign) true t → Skips t r
    → TakesIf (byte double_quote) true r q → quoted_at Rfc9651 t ≡ (display_at >>= λ s. give (display_string s)) q
quoted_reads t r q m k n = quoted_is t r m k ∙ branch_true _ _ _ r q n

-- ---- bare items

-- the byte that stands next, and what stands after it
next_byte : (c : ℕ) (t : List ℕ) → (m : NextIs (byte c) true t) → t ≡ c ∷ m.1
next_byte c t m = m.2 ∙ ap (λ (b : ℕ). b ∷ m.1) (eqb-true m.0 c m.3)

-- a byte of the class that was skipped was consumed
pub skip_takes : (class : ℕ → Bool) (t r : List ℕ) → NextIs class true t → Skips t r → TakesIf class true t r
skip_takes class t r n s =
    let here : List ℕ = n.0 ∷ n.1 in
    let there : List ℕ = s.0 ∷ r in
    let same : here ≡ there = sym n.2 ∙ s.1 in
    let head : n.0 ≡ s.0 = cc in
    (s.0, s.1, ap class (sym head) ∙ n.3)

pub passed : (c : ℕ) (t r : List ℕ) → NextIs (byte c) true t → Skips t r → t ≡ c ∷ r
passed c t r m k =
    let same : c ∷ m.1 ≡ k.0 ∷ r = sym (next_byte c t m) ∙ k.1 in
    let after : m.1 ≡ r = cc in
    next_byte c t m ∙ ap (λ (l : List ℕ). c ∷ l) after

pub bare_boolean : (version : Version) (t r : List ℕ) → NextIs (byte question_mark) true t → Skips t r
    → bare_at version t ≡ boolean_at r
unfolding bare_at branch
bare_boolean version t r m k = ap (bare_at version) (passed question_mark t r m k)

pub bare_string : (version : Version) (t r : List ℕ) → NextIs (byte double_quote) true t → Skips t r
    → bare_at version t ≡ (string_at >>= λ s. give (string s)) r
unfolding bare_at branch
bare_string version t r m k = ap (bare_at version) (passed double_quote t r m k)

pub bare_bytes : (version : Version) (t r : List ℕ) → NextIs (byte colon) true t → Skips t r
    → bare_at version t ≡ (bytes_at >>= λ s. give (byte_sequence s)) r
unfolding bare_at branch
bare_bytes version t r m k = ap (bare_at version) (passed colon t r m k)

pub bare_date : (version : Version) (t : List ℕ) → NextIs (byte at_sign) true t → bare_at version t ≡ date_at version t
unfolding bare_at branch ahead
bare_date version t m = let e = next_byte at_sign t m in ap (bare_at version) e ∙ sym (ap (date_at version) e)

pub bare_quoted : (version : Version) (t : List ℕ) → NextIs (byte percent_sign) true t
    → bare_at version t ≡ quoted_at version t
unfolding bare_at branch ahead
bare_quoted version t m = let e = next_byte percent_sign t m in ap (bare_at version) e ∙ sym (ap (quoted_at version) e)

-- what RFC 8941 has not
pub bare_older_date : (t : List ℕ) → NextIs (byte at_sign) true t → located (bare_at Rfc8941 t) ≡ Err (Rfc8941Date, t)
bare_older_date t m = ap located (bare_date Rfc8941 t m) ∙ date_older t

pub bare_older_quoted : (t : List ℕ) → NextIs (byte percent_sign) true t
    → located (bare_at Rfc8941 t) ≡ Err (Rfc8941DisplayString, t)
bare_older_quoted t m = ap located (bare_quoted Rfc8941 t m) ∙ quoted_older t

pub ruleset older_steps = (bare_older_date, bare_older_quoted)

-- a byte that a number begins with is none of the others
no_opener : (b c : ℕ) → is_number_start b ≡ true → is_number_start c ≡ false → byte c b ≡ false
no_opener b c h n = ne_eqb b c (λ e. both_ways (is_number_start b) (rw e n) h)

pub bare_number : (version : Version) (t : List ℕ) → NextIs is_number_start true t
    → bare_at version t ≡ number_at false t
unfolding bare_at branch ahead
bare_number version t m =
    let all : bare_at version (m.0 ∷ m.1) ≡ number_at false (m.0 ∷ m.1) = rw (
      no_opener m.0 question_mark m.3 refl,
      no_opener m.0 double_quote m.3 refl,
      no_opener m.0 colon m.3 refl,
      no_opener m.0 at_sign m.3 refl,
      no_opener m.0 percent_sign m.3 refl,
      m.3,
    ) refl in
    ap (bare_at version) m.2 ∙ all ∙ sym (ap (number_at false) m.2)

-- nothing stands next that opens another item than a token
pub record NoOpener (t : List ℕ) : Type 0 where
  pub no_number : Apart is_number_start t
  pub no_string : Apart (byte double_quote) t
  pub no_boolean : Apart (byte question_mark) t
  pub no_bytes : Apart (byte colon) t
  pub no_date : Apart (byte at_sign) t
  pub no_quoted : Apart (byte percent_sign) t

pub bare_token : (version : Version) (t : List ℕ) → NoOpener t → bare_at version t ≡ token_at t
unfolding bare_at
bare_token version t h = branch_past _ _ _ t h.no_boolean ∙ branch_past _ _ _ t h.no_string
    ∙ branch_past _ _ _ t h.no_bytes ∙ ahead_past _ _ _ t h.no_date ∙ ahead_past _ _ _ t h.no_quoted
    ∙ ahead_past _ _ _ t h.no_number

-- what is read of a part and then given on
pub given : {A B : Type 0} (f : Reader A) (view : A → B) (t r : List ℕ) (v : A) → f t ≡ Ok (v, r)
    → (f >>= λ s. give (view s)) t ≡ Ok (view v, r)
unfolding give
given f view t r v e = bind_complete f _ t r v e

-- ---- parameters

pub value_given : (version : Version) (t r : List ℕ) → TakesIf (byte equals_sign) true t r
    → value_at version t ≡ bare_at version r
unfolding value_at
value_given version t r m = branch_true _ _ _ t r m

pub value_left_out : (version : Version) (t r : List ℕ) → TakesIf (byte equals_sign) false t r
    → value_at version t ≡ Ok (boolean true, r)
unfolding value_at give
value_left_out version t r m = branch_false _ _ _ t r m

pub ruleset value_steps = (value_given, value_left_out)

pub parameter_none : (version : Version) (t r : List ℕ) → TakesIf (byte semicolon) false t r
    → parameter_at version t ≡ Ok (None, r)
unfolding parameter_at give
parameter_none version t r m = branch_false _ _ _ t r m

-- after the semicolon and spaces
pub parameter_is : (version : Version) (t r s q : List ℕ) → TakesIf (byte semicolon) true t r
    → span is_space r ≡ Ok (s, q) → parameter_at version t
    ≡ (key_at >>= λ key. value_at version >>= λ v. give (Some (key, v))) q
unfolding parameter_at
parameter_is version t r s q m i = branch_true _ _ _ t r m ∙ bind_complete _ _ r q s i

pub parameter_keyed : (version : Version) (t r s q key w : List ℕ) → TakesIf (byte semicolon) true t r
    → span is_space r ≡ Ok (s, q) → key_at q ≡ Ok (key, w)
    → parameter_at version t ≡ (value_at version >>= λ v. give (Some (key, v))) w
parameter_keyed version t r s q key w m i k = parameter_is version t r s q m i ∙ bind_complete _ _ q w key k

pub parameter_some : (version : Version) (t r s q key w x : List ℕ) (v : BareValue) → TakesIf (byte semicolon) true t r
    → span is_space r ≡ Ok (s, q) → key_at q ≡ Ok (key, w) → value_at version w ≡ Ok (v, x)
    → parameter_at version t ≡ Ok (Some (key, v), x)
unfolding give
parameter_some version t r s q key w x v m i k e = parameter_keyed _ _ _ _ _ _ _ m i k ∙ bind_complete _ _ _ _ _ e

pub ruleset parameter_steps = parameter_none

-- ---- items

-- what stands after a bare item
pub item_after : Version → BareValue → Reader RawItem
item_after version bare = led (bare_item bare ∷ []) (parameters_at version >>= λ ps. give (item_of bare ps))

pub item_is : (version : Version) (t : List ℕ) → item_at version t ≡ (bare_at version >>= item_after version) t
unfolding item_at item_after
item_is version t = refl

pub item_some : (version : Version) (t r q : List ℕ) (bare : BareValue) (ps : RawParameters)
    → bare_at version t ≡ Ok (bare, r) → parameters_at version r ≡ Ok (ps, q)
    → item_at version t ≡ Ok (item_of bare ps, q)
unfolding item_after give
item_some version t r q bare ps e k = item_is _ _ ∙ bind_complete _ _ _ _ _ e
    ∙ led_complete _ _ _ _ _ (bind_complete _ _ _ _ _ k)
