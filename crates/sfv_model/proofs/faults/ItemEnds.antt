-- The text of an item ends with no space, and with no parenthesis.
use Rattle.std.proofs.Common.{◌≡◌, ℕ, ◌≤◌, Bool, true, false, eqb, List, [], ◌∷◌, ◌++◌, length, refl, sym, ap, subst}
use Rattle.std.proofs.Common.{◌∙◌, append_assoc, arith, inl, inr, ◌⊎◌, codes, append-nil, length-append, eq-eqb}
use Rattle.std.{proofs.Common.true≢false, specs.List.list_all, proofs.lemmas.Bool.{and_parts, both_ways}}
use Rattle.sfv_spec.specs.Classes.{is_token_start, is_token_inner, is_key_start, is_key_inner}
use Rattle.sfv_spec.specs.Grammar.{IsBareText, IsKeyText, IsValueText, IsParametersText, IsItemText}
use Rattle.sfv_spec.specs.{Numbers.{IsIntegerText, AreDigits}, Texts.{IsJoining, RunOf, ◌⨾◌, Exactly}}
use Rattle.sfv_spec.specs.Values.{BareValue, integer, decimal, string, token, byte_sequence, boolean, date}
use Rattle.sfv_spec.specs.{Values.{display_string, RawParameters, RawItem}, declared.version.Version.Version}
use Rattle.sfv_spec.proofs.Marks.{space, double_quote, colon, digit_zero, right_parenthesis, digit_one, is_digit}
use Rattle.sfv_spec.proofs.{Marks.IsParameterText, Settled.{joining-nil, joining-cons}}
use Rattle.sfv_model.proofs.{complete.Bare.apart_from, sound.Combinators.{run_head, run_tail}}

-- a text in two parts
abbrev pub parted : {P Q : List ℕ → Type 0} (a b t : List ℕ) → t ≡ a ++ b → P a → Q b → (P ⨾ Q) t
parted a b t e p q = record { front = a; back = b; text = e; first = p; second = q }

-- with a longer second part
pub second_longer : {P Q R : List ℕ → Type 0} (t more : List ℕ) (h : (P ⨾ Q) t) → R (h.back ++ more)
    → (P ⨾ R) (t ++ more)
second_longer t more h k = parted _ _ _ (ap (λ (l : List ℕ). l ++ more) h.text ∙ append_assoc h.front h.back more)
    h.first k

-- the last byte is another one than n
pub record IsTight (n : ℕ) (t : List ℕ) : Type 0 where
  pub before : List ℕ
  pub last : ℕ
  pub text : t ≡ before ++ last ∷ []
  pub other : eqb last n ≡ false

pub tight_after : (n : ℕ) (s t : List ℕ) → IsTight n t → IsTight n (s ++ t)
tight_after n s t h = record {
  before = s ++ h.before;
  last = h.last;
  text = ap (λ (l : List ℕ). s ++ l) h.text ∙ sym (append_assoc s h.before (h.last ∷ []));
  other = h.other;
}

last_same : (s t : List ℕ) (c d : ℕ) → s ++ c ∷ [] ≡ t ++ d ∷ [] → c ≡ d
last_same [] [] c d e = cc
last_same [] (y ∷ t) c d e = absurd (omega (arith, ap (length {A = ℕ}) e, length-append t (d ∷ [])))
last_same (x ∷ s) [] c d e = absurd (omega (arith, ap (length {A = ℕ}) e, length-append s (c ∷ [])))
last_same (x ∷ s) (y ∷ t) c d e = let tails : s ++ c ∷ [] ≡ t ++ d ∷ [] = cc in last_same s t c d tails

-- so n isn't the last one
pub not_last : (n : ℕ) (t u : List ℕ) → IsTight n t → ¬ (t ≡ u ++ n ∷ [])
not_last n t u h e =
    let same : h.last ≡ n = last_same h.before u h.last n (sym h.text ∙ e) in
    both_ways (eqb h.last n) h.other (eq-eqb h.last n same)

-- no part of an item ends with n
pub record IsOuter (n : ℕ) : Type 0 where
  pub digit : is_digit n ≡ false
  pub token : (is_token_start n ≡ false) × (is_token_inner n ≡ false)
  pub key : (is_key_start n ≡ false) × (is_key_inner n ≡ false)
  pub closing : (eqb double_quote n ≡ false) × (eqb colon n ≡ false)

pub outer_space : IsOuter space
outer_space = record { digit = refl; token = (refl, refl); key = (refl, refl); closing = (refl, refl) }

pub outer_parenthesis : IsOuter right_parenthesis
outer_parenthesis = record { digit = refl; token = (refl, refl); key = (refl, refl); closing = (refl, refl) }

-- it ends so, or there is nothing
abbrev pub TightOrNone : ℕ → List ℕ → Type 0
TightOrNone n t = (t ≡ []) ⊎ IsTight n t

module _ (n : ℕ) (outer : IsOuter n) where
  pub tight_both : (s t : List ℕ) → IsTight n s → TightOrNone n t → IsTight n (s ++ t)
  tight_both s t h (inl e) = subst (IsTight n) (sym (ap (λ (l : List ℕ). s ++ l) e ∙ append-nil s)) h
  tight_both s t h (inr k) = tight_after n s t k

  tight_byte : (c : ℕ) → eqb c n ≡ false → IsTight n (c ∷ [])
  tight_byte c e = record { before = []; last = c; text = refl; other = e }

  -- after a byte of one class a run of another
  started_tight : (start inner : ℕ → Bool) → start n ≡ false → inner n ≡ false → (c : ℕ) (s : List ℕ)
      → start c ≡ true → RunOf inner s → IsTight n (c ∷ s)
  started_tight start inner no_start no_inner c [] e each = tight_byte c (apart_from start n no_start c e)
  started_tight start inner no_start no_inner c (d ∷ s) e each = tight_after n (c ∷ []) (d ∷ s)
      (started_tight inner inner no_inner no_inner d s (run_head inner d s each) (run_tail inner d s each))

  digits_tight : (least most : ℕ) (ds : List ℕ) → 1 ≤ least → AreDigits least most ds → IsTight n ds
  digits_tight least most [] le h = absurd (omega (arith, le, h.0))
  digits_tight least most (d ∷ ds) le h = started_tight is_digit is_digit outer.digit outer.digit d ds
      (run_head is_digit d ds h.2) (run_tail is_digit d ds h.2)

  -- a closing byte
  closed_tight : {Q : List ℕ → Type 0} (c : ℕ) (t : List ℕ) → eqb c n ≡ false → (Q ⨾ Exactly (c ∷ [])) t → IsTight n t
  closed_tight c t e h = subst (IsTight n) (sym (h.text ∙ ap (λ (l : List ℕ). h.front ++ l) h.second))
      (tight_after n h.front (c ∷ []) (tight_byte c e))

  -- with a second part that ends so
  pub after_front : {P Q : List ℕ → Type 0} (t : List ℕ) (h : (P ⨾ Q) t) → IsTight n h.back → IsTight n t
  after_front t h k = subst (IsTight n) (sym h.text) (tight_after n h.front h.back k)

  integer_tight : {z : _} (t : List ℕ) → IsIntegerText z t → IsTight n t
  integer_tight t h = rw h.text (tight_after n _ h.digits (digits_tight 1 15 h.digits (omega arith) h.counted))

  bare_tight : (version : Version) (v : BareValue) (t : List ℕ) → IsBareText version v t → IsTight n t
  bare_tight version (integer z) t h = integer_tight t h
  bare_tight version (decimal z) t h = rw h.text (tight_after _ _ _ (digits_tight _ _ _ (omega arith) h.counted.1))
  bare_tight version (string s) t h = after_front t h (closed_tight double_quote h.back outer.closing.0 h.second)
  bare_tight version (token []) t h = absurd (true≢false (sym h.0))
  bare_tight version (token (c ∷ s)) t h =
      let p = and_parts (is_token_start c) (list_all is_token_inner s) h.0 in
      subst (IsTight n) (sym h.1) (started_tight is_token_start is_token_inner outer.token.0 outer.token.1 c s p.0 p.1)
  bare_tight version (byte_sequence s) t h = after_front t h (closed_tight colon h.back outer.closing.1 h.second)
  bare_tight version (boolean true) t h = subst (IsTight n) (sym h) (tight_after n (codes "?") (codes "1")
      (tight_byte digit_one (apart_from is_digit n outer.digit digit_one refl)))
  bare_tight version (boolean false) t h = subst (IsTight n) (sym h) (tight_after n (codes "?") (codes "0")
      (tight_byte digit_zero (apart_from is_digit n outer.digit digit_zero refl)))
  bare_tight version (date z) t h = after_front t h.1 (integer_tight h.1.back h.1.second)
  bare_tight version (display_string s) t h = after_front t h.1
      (closed_tight double_quote h.1.back outer.closing.0 h.1.second)

  pub key_tight : (k t : List ℕ) → IsKeyText k t → IsTight n t
  key_tight [] t h = absurd (true≢false (sym h.0))
  key_tight (c ∷ k) t h =
      let p = and_parts (is_key_start c) (list_all is_key_inner k) h.0 in
      subst (IsTight n) (sym h.1) (started_tight is_key_start is_key_inner outer.key.0 outer.key.1 c k p.0 p.1)

  value_tight : (version : Version) (v : BareValue) (t : List ℕ) → IsValueText version v t → TightOrNone n t
  value_tight version v t (inl h) = inl h.1
  value_tight version v t (inr h) = inr (after_front t h (bare_tight version v h.back h.second))

  parameter_tight : (version : Version) (p : List ℕ × BareValue) (t : List ℕ) → IsParameterText version p t
      → IsTight n t
  parameter_tight version p t h =
      let k = h.second.second in
      after_front t h (after_front h.back h.second (subst (IsTight n) (sym k.text)
      (tight_both k.front k.back (key_tight p.0 k.front k.first) (value_tight version p.1 k.back k.second))))

  -- values whose texts end so
  pub joining_tight : {A : Type 0} (P : A → List ℕ → Type 0) → ((v : A) (t : List ℕ) → P v t → IsTight n t)
      → (vs : List A) (t : List ℕ) → IsJoining P vs t → TightOrNone n t
  joining_tight P tight [] t h = inl (joining-nil h)
  joining_tight P tight (v ∷ vs) t h =
      let c = joining-cons h in
      inr (subst (IsTight n) (sym c.text) (tight_both c.front c.back (tight v c.front c.first)
      (joining_tight P tight vs c.back c.second)))

  pub parameters_tight : (version : Version) (ps : RawParameters) (t : List ℕ) → IsParametersText version ps t
      → TightOrNone n t
  parameters_tight version ps t h = joining_tight (IsParameterText version) (parameter_tight version) ps t h

  pub item_tight : (version : Version) (i : RawItem) (t : List ℕ) → IsItemText version i t → IsTight n t
  item_tight version i t h = subst (IsTight n) (sym h.text) (tight_both _ _ (bare_tight _ _ _ h.first)
      (parameters_tight _ _ _ h.second))
