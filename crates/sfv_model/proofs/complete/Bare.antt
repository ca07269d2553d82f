-- A text of a bare item is read, as that bare item.
use Rattle.std.proofs.Common.{◌≡◌, ℕ, ◌≤◌, Bool, true, false, eqb, ℤ, List, [], ◌∷◌, ◌++◌, length, Ok, refl, sym, ap}
use Rattle.std.proofs.Common.{◌∙◌, arith, inl, inr, ◌⊎◌, IsTrue, eqb-true, ne_eqb, true≢false}
use Rattle.std.proofs.lemmas.Bool.{or_left, or_from, and_parts, cases_Bool, Decides.nat_tests}
use Rattle.sfv_spec.specs.{Classes.{is_token, is_token_start, is_token_inner}, Grammar.{IsBareText, boolean_text}}
use Rattle.sfv_spec.specs.{Numbers.{IsIntegerText, IsDecimalText}, Texts.{begins_with, RunOf}}
use Rattle.sfv_spec.specs.Values.{BareValue, integer, decimal, string, token, byte_sequence, boolean, date}
use Rattle.sfv_spec.specs.Values.{display_string}
use Rattle.sfv_spec.proofs.Marks.{double_quote, percent_sign, digit_zero, colon, minus_sign, dot, question_mark}
use Rattle.sfv_spec.proofs.Marks.{at_sign, is_digit, minus_text}
use Rattle.sfv_spec.proofs.Parts.{no_digit, no_point, integer_text, decimal_text}
use Rattle.sfv_model.specs.Bare.{is_number_start, number_at, boolean_at, token_at, date_at, quoted_at, bare_at}
use Rattle.sfv_model.specs.{Content.bytes_at, Quoted.{string_at, IsDisplayEnd}}
use Rattle.sfv_model.specs.Reader.{Apart, byte, give, ◌>>=◌, branch, ahead}
use Rattle.sfv_model.proofs.{Types.{Version, Rfc9651}, complete.ByteSequences.bytes_complete}
use Rattle.sfv_model.proofs.complete.Combinators.{Apart-cons, branch_past, branch_take, bind_complete, back_complete}
use Rattle.sfv_model.proofs.complete.Combinators.{span_complete}
use Rattle.sfv_model.proofs.complete.Numbers.{goes_on, digit_apart, integer_complete, decimal_complete}
use Rattle.sfv_model.proofs.{complete.Quoted.{string_complete, display_complete}, sound.Combinators.run_head}

-- ---- how the readers of bare items are chosen, by the first byte

-- the byte begins none of the kinds before
pub apart_from : (class : ℕ → Bool) (n : ℕ) → class n ≡ false → (c : ℕ) → class c ≡ true → eqb c n ≡ false
apart_from class n none c e = ne_eqb c n (λ i. true≢false (sym e ∙ ap class i ∙ none))

pub bare_boolean : (version : Version) (r : List ℕ) → bare_at version (question_mark ∷ r) ≡ boolean_at r
unfolding bare_at branch
bare_boolean version r = refl

pub bare_quote : (version : Version) (r : List ℕ)
    → bare_at version (double_quote ∷ r) ≡ (string_at >>= λ s. give (string s)) r
unfolding bare_at branch
bare_quote version r = refl

pub bare_colon : (version : Version) (r : List ℕ)
    → bare_at version (colon ∷ r) ≡ (bytes_at >>= λ s. give (byte_sequence s)) r
unfolding bare_at branch
bare_colon version r = refl

pub bare_at_sign : (version : Version) (r : List ℕ) → bare_at version (at_sign ∷ r) ≡ date_at version (at_sign ∷ r)
unfolding bare_at branch ahead
bare_at_sign version r = refl

pub bare_percent : (version : Version) (r : List ℕ)
    → bare_at version (percent_sign ∷ r) ≡ quoted_at version (percent_sign ∷ r)
unfolding bare_at branch ahead
bare_percent version r = refl

token_no_number : (c : ℕ) → is_token_start c ≡ true → is_number_start c ≡ false
token_no_number c e = grind (arith, nat_tests)

bare_token_start : (version : Version) (c : ℕ) (r : List ℕ) → is_token_start c ≡ true
    → bare_at version (c ∷ r) ≡ token_at (c ∷ r)
unfolding bare_at branch ahead
bare_token_start version c r e = rw (
  out question_mark refl,
  out double_quote refl,
  out colon refl,
  out at_sign refl,
  out percent_sign refl,
  token_no_number c e,
) refl
  where
    out : (n : ℕ) → is_token_start n ≡ false → eqb c n ≡ false
    out n none = apart_from is_token_start n none c e

pub bare_number : (version : Version) (c : ℕ) (r : List ℕ) → is_number_start c ≡ true
    → bare_at version (c ∷ r) ≡ number_at false (c ∷ r)
unfolding bare_at branch ahead
bare_number version c r e = rw (
  out question_mark refl,
  out double_quote refl,
  out colon refl,
  out at_sign refl,
  out percent_sign refl,
  e,
) refl
  where
    out : (n : ℕ) → is_number_start n ≡ false → eqb c n ≡ false
    out n none = apart_from is_number_start n none c e

-- which of these it is
pub first_byte : (version : Version) (c : ℕ) (r : List ℕ)
    → (c ≡ question_mark) ⊎ (c ≡ double_quote) ⊎ (c ≡ colon) ⊎ (c ≡ at_sign) ⊎ (c ≡ percent_sign)
    ⊎ (is_number_start c ≡ true) ⊎ (bare_at version (c ∷ r) ≡ token_at (c ∷ r))
unfolding bare_at branch ahead
first_byte version c r = elim (cases_Bool (byte question_mark c)) [
  | inl y ↦ inl (eqb-true c question_mark y)
  | inr n ↦ inr (elim (cases_Bool (byte double_quote c)) [
    | inl y ↦ inl (eqb-true c double_quote y)
    | inr m ↦ inr (elim (cases_Bool (byte colon c)) [
      | inl y ↦ inl (eqb-true c colon y)
      | inr k ↦ inr (elim (cases_Bool (byte at_sign c)) [
        | inl y ↦ inl (eqb-true c at_sign y)
        | inr j ↦ inr (elim (cases_Bool (byte percent_sign c)) [
          | inl y ↦ inl (eqb-true c percent_sign y)
          | inr i ↦ inr (elim (cases_Bool (is_number_start c)) [
            | inl y ↦ inl y
            | inr h ↦ inr (rw (n, m, k, j, i, h) refl)
          ])
        ])
      ])
    ])
  ])
]

date_complete : (z : ℤ) (t q : List ℕ) → IsIntegerText z t → Apart goes_on q
    → date_at Rfc9651 (at_sign ∷ (t ++ q)) ≡ Ok (date z, q)
unfolding date_at give
date_complete z t q i h = back_complete _ _ _ _ _ (branch_take _ _ _ at_sign (t ++ q) refl
    ∙ bind_complete _ _ _ _ _ (integer_complete true t q z i h))

quoted_complete : (s t q : List ℕ) → IsDisplayEnd s t → quoted_at Rfc9651 (percent_sign ∷ double_quote ∷ (t ++ q))
    ≡ Ok (display_string s, q)
unfolding quoted_at give
quoted_complete s t q h = branch_take _ _ _ percent_sign (double_quote ∷ (t ++ q)) refl
    ∙ branch_take _ _ _ double_quote (t ++ q) refl ∙ bind_complete _ _ _ _ _ (display_complete s t q h)

boolean_complete : (version : Version) (b : Bool) (q : List ℕ)
    → bare_at version (boolean_text b ++ q) ≡ Ok (boolean b, q)
unfolding boolean_at give
boolean_complete version true q = bare_boolean _ _ ∙ branch_past _ _ _ _ (Apart-cons _ _ _ refl) ∙ branch_take _ _ _ _ _
    refl
boolean_complete version false q = bare_boolean version (digit_zero ∷ q) ∙ branch_take _ _ _ digit_zero q refl

token_complete : (version : Version) (s q : List ℕ) → IsTrue (is_token s) → Apart is_token_inner q
    → bare_at version (s ++ q) ≡ Ok (token s, q)
unfolding token_at give
token_complete version [] q h a = absurd (true≢false (sym h))
token_complete version (c ∷ s) q h a =
    let p = and_parts _ _ h in
    bare_token_start _ _ _ p.0 ∙ branch_take _ _ _ _ _ p.0 ∙ bind_complete _ _ _ _ _ (span_complete _ _ _ p.1 a)

-- how a number begins
pub front : (negative : Bool) (whole q : List ℕ) → 1 ≤ length whole → RunOf is_digit whole
    → begins_with is_number_start (minus_text negative ++ (whole ++ q)) ≡ true
front true whole q some each = refl
front false [] q some each = absurd (omega arith)
front false (d ∷ ds) q some each = or_left (is_digit d) (eqb d minus_sign) (run_head is_digit d ds each)

pub number_from : (version : Version) (t : List ℕ) → begins_with is_number_start t ≡ true
    → bare_at version t ≡ number_at false t
number_from version [] h = absurd (true≢false (sym h))
number_from version (c ∷ r) h = bare_number version c r h

integer_front : (t q : List ℕ) (z : ℤ) → IsIntegerText z t → begins_with is_number_start (t ++ q) ≡ true
integer_front t q z i = simp (integer_text z t q i, front i.negative i.digits q i.counted.0 i.counted.2)

decimal_front : (t q : List ℕ) (z : ℤ) → IsDecimalText z t → begins_with is_number_start (t ++ q) ≡ true
decimal_front t q z i = ap (begins_with is_number_start) (decimal_text z t q i)
    ∙ front i.negative i.whole (dot ∷ (i.fraction ++ q)) i.counted.0.0 i.counted.0.2

-- what ends a token ends a number
number_ends : (q : List ℕ) → Apart is_token_inner q → Apart goes_on q
number_ends q h = record {
  apart = λ c e. let n = h.apart c e in
      or_from (is_digit c) (eqb c dot) (no_digit (c ∷ []) n) (no_point (c ∷ []) n);
}

pub bare_complete : (version : Version) (v : BareValue) (t q : List ℕ) → IsBareText version v t → Apart is_token_inner q
    → bare_at version (t ++ q) ≡ Ok (v, q)
unfolding give
bare_complete version (integer z) t q i h = number_from version (t ++ q) (integer_front t q z i)
    ∙ integer_complete false t q z i (number_ends q h)
bare_complete version (decimal z) t q i h = number_from version (t ++ q) (decimal_front t q z i)
    ∙ decimal_complete false t q z i (digit_apart q (number_ends q h))
bare_complete version (string s) t q i h =
    let all : t ++ q ≡ double_quote ∷ (i.back ++ q) =
    ap (λ (l : List ℕ). l ++ q) (i.text ∙ ap (λ (l : List ℕ). l ++ i.back) i.first) in
    rw (all, bare_quote version (i.back ++ q), bind_complete _ _ _ _ _ (string_complete s i.back q i.second)) refl
bare_complete version (token s) t q i h = simp (i.1, token_complete version s q i.0 h)
bare_complete version (byte_sequence s) t q i h =
    let all = ap (λ (l : List ℕ). l ++ q) (i.text ∙ ap (λ (l : List ℕ). l ++ i.back) i.first) in
    rw (all, bare_colon version (i.back ++ q), bind_complete _ _ _ _ _ (bytes_complete s i.back q i.second)) refl
bare_complete version (boolean b) t q i h = simp (i, boolean_complete version b q)
bare_complete version (date z) t q i h =
    let d = i.1 in
    let all = ap (λ (l : List ℕ). l ++ q) (d.text ∙ ap (λ (l : List ℕ). l ++ d.back) d.first) in
    simp (i.0, all, bare_at_sign Rfc9651 (d.back ++ q), date_complete z d.back q d.second (number_ends q h))
bare_complete version (display_string s) t q i h =
    let d = i.1 in
    let all : t ++ q ≡ percent_sign ∷ double_quote ∷ (d.back ++ q) =
    ap (λ (l : List ℕ). l ++ q) (d.text ∙ ap (λ (l : List ℕ). l ++ d.back) d.first) in
    simp (i.0, all, bare_percent Rfc9651 (double_quote ∷ (d.back ++ q)), quoted_complete s d.back q d.second)
