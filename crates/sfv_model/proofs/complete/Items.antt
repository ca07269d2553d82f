-- A text of parameters, an item, a member is read, as that.
use Rattle.std.proofs.Common.{◌≡◌, ℕ, ◌≤◌, Bool, true, false, eqb, ◌||◌, List, [], ◌∷◌, ◌++◌, length, Some, None, Ok}
use Rattle.std.proofs.Common.{refl, sym, ap, ◌∙◌, append_assoc, arith, inl, inr, ne_eqb, true≢false}
use Rattle.std.{specs.List.list_all, proofs.lemmas.Bool.{or_parts, and_parts}, proofs.lemmas.Bool.Decides.nat_tests}
use Rattle.sfv_spec.specs.Classes.{is_key_start, is_key_inner, is_token_inner}
use Rattle.sfv_spec.specs.{Grammar.{IsKeyText, IsValueText, IsParametersText, IsItemText}, Texts.{Exactly, ◌⨾◌}}
use Rattle.sfv_spec.specs.{Values.{BareValue, RawParameters, RawItem}, declared.version.Version.Version}
use Rattle.sfv_spec.proofs.Bare.{is_bare_start, bare_begins}
use Rattle.sfv_spec.proofs.Marks.{space, equals_sign, semicolon, is_space_or_tab, IsParameterText}
use Rattle.sfv_spec.proofs.Settled.{begins, begins-append}
use Rattle.sfv_model.specs.{Items.{key_at, value_at, parameter_at, parameters_at, item_at}, Reader.{Apart, byte, give}}
use Rattle.sfv_model.proofs.complete.Bare.{bare_complete}
use Rattle.sfv_model.proofs.complete.Combinators.{Apart-cons, Apart-part, branch_past, branch_take, bind_complete}
use Rattle.sfv_model.proofs.complete.Combinators.{led_complete, span_complete}
use Rattle.sfv_model.proofs.{sound.Items.Consumes-parameter, sound.Many.many_complete, texts.Joining.end_joined}

-- what would lengthen a bare item, a key, or a parameter, and an item
abbrev pub lengthens : ℕ → Bool
lengthens b = is_token_inner b || (is_key_inner b || eqb b equals_sign)

abbrev pub lengthens_item : ℕ → Bool
lengthens_item b = lengthens b || eqb b semicolon

pub token_apart : (q : List ℕ) → Apart lengthens q → Apart is_token_inner q
token_apart q h = Apart-part _ _ _ (λ c e. (or_parts _ _ e).0) h

pub key_apart : (q : List ℕ) → Apart lengthens q → Apart is_key_inner q
key_apart q h = Apart-part _ _ _ (λ c e. grind (arith, nat_tests)) h

pub equals_apart : (q : List ℕ) → Apart lengthens q → Apart (byte equals_sign) q
equals_apart q h = Apart-part _ _ _ (λ c e. grind (arith, nat_tests)) h

pub item_part : (q : List ℕ) → Apart lengthens_item q → Apart lengthens q
item_part q h = Apart-part lengthens lengthens_item q (λ c e. (or_parts (lengthens c) (eqb c semicolon) e).0) h

semicolon_apart : (q : List ℕ) → Apart lengthens_item q → Apart (byte semicolon) q
semicolon_apart q h = Apart-part _ _ _ (λ c e. (or_parts _ _ e).1) h

pub key_complete : (key t q : List ℕ) → IsKeyText key t → Apart is_key_inner q → key_at (t ++ q) ≡ Ok (key, q)
unfolding key_at give
key_complete [] t q k h = absurd (true≢false (sym k.0))
key_complete (c ∷ cs) t q k h =
    let p = and_parts (is_key_start c) (list_all is_key_inner cs) k.0 in
    rw (k.1, branch_take _ _ _ c (cs ++ q) p.0, bind_complete _ _ _ _ _ (span_complete is_key_inner cs q p.1 h)) refl

-- after a sign of a class
after_sign : {Q : List ℕ → Type 0} (n : ℕ) (t q : List ℕ) (h : (Exactly (n ∷ []) ⨾ Q) t) → t ++ q ≡ n ∷ (h.back ++ q)
after_sign n t q h = ap (λ (l : List ℕ). l ++ q) (h.text ∙ ap (λ (l : List ℕ). l ++ h.back) h.first)

pub value_complete : (version : Version) (v : BareValue) (t q : List ℕ) → IsValueText version v t → Apart lengthens q
    → value_at version (t ++ q) ≡ Ok (v, q)
unfolding value_at give
value_complete version v t q (inl e) h = cc (e.1, branch_past _ _ _ q (equals_apart q h), e.0)
value_complete version v t q (inr e) h = ap (value_at version) (after_sign equals_sign t q e)
    ∙ branch_take _ _ _ equals_sign (e.back ++ q) refl ∙ bare_complete version v e.back q e.second (token_apart q h)

-- what stands after a key is no more of it
pub value_apart : (version : Version) (v : BareValue) (t q : List ℕ) → IsValueText version v t → Apart is_key_inner q
    → Apart is_key_inner (t ++ q)
value_apart version v t q (inl e) h = rw e.1 h
value_apart version v t q (inr e) h = rw (after_sign equals_sign t q e) (Apart-cons _ _ _ refl)

-- a key begins with no byte n that begins none
pub key_no : (n : ℕ) (key t q : List ℕ) → is_key_start n ≡ false → IsKeyText key t → Apart (byte n) (t ++ q)
key_no n [] t q none k = absurd (true≢false (sym k.0))
key_no n (c ∷ cs) t q none k =
    let p = and_parts (is_key_start c) (list_all is_key_inner cs) k.0 in
    rw k.1 (Apart-cons (byte n) c (cs ++ q) (ne_eqb c n (λ i. true≢false (sym p.0 ∙ ap is_key_start i ∙ none))))

pub parameter_complete : (version : Version) (p : List ℕ × BareValue) (t q : List ℕ) → IsParameterText version p t
    → Apart lengthens q → (parameter_at version (t ++ q) ≡ Ok (Some p, q)) × Apart lengthens (t ++ q)
unfolding parameter_at give
parameter_complete version p t q i h =
    let s = i.second in
    let k = s.second in
    let inner : i.back ++ q ≡ s.front ++ (k.front ++ (k.back ++ q)) =
    ap (λ (l : List ℕ). l ++ q) (s.text ∙ ap (λ (l : List ℕ). s.front ++ l) k.text) ∙ simp append_assoc in
    let all : t ++ q ≡ semicolon ∷ (s.front ++ (k.front ++ (k.back ++ q))) = cc (after_sign semicolon t q i) in (
      ap (parameter_at version) all ∙ branch_take _ _ _ _ _ refl ∙ bind_complete _ _ _ _ _ (span_complete _ _ _ s.first
          (key_no _ _ _ _ refl k.first)) ∙ bind_complete _ _ _ _ _ (key_complete _ _ _ k.first
          (value_apart _ _ _ _ k.second (key_apart _ h))) ∙ bind_complete _ _ _ _ _ (value_complete _ _ _ _ k.second h),
      rw all (Apart-cons _ _ _ refl),
    )

no_parameter : (version : Version) (q : List ℕ) → Apart (byte semicolon) q → parameter_at version q ≡ Ok (None, q)
unfolding parameter_at give
no_parameter version q stop = branch_past _ _ _ q stop

pub parameters_complete : (version : Version) (ps : RawParameters) (t q : List ℕ) → IsParametersText version ps t
    → Apart lengthens_item q → (parameters_at version (t ++ q) ≡ Ok (ps, q)) × Apart lengthens (t ++ q)
unfolding parameters_at
parameters_complete version ps t q i h = many_complete _ _ (Consumes-parameter _) _ _ _ _
    (λ p a q i f. parameter_complete _ _ _ _ i f) (λ e n. (
      simp (n, no_parameter version q (semicolon_apart q h)),
      rw n (item_part _ h),
    )) _ _ (end_joined _ _ _ i)

pub item_complete : (version : Version) (i : RawItem) (t q : List ℕ) → IsItemText version i t → Apart lengthens_item q
    → item_at version (t ++ q) ≡ Ok (i, q)
unfolding item_at give
item_complete version i t q h f =
    let ps = parameters_complete _ _ _ _ h.second f in
    let all : t ++ q ≡ h.front ++ (h.back ++ q) = ap (λ (l : List ℕ). l ++ q) h.text ∙ append_assoc h.front h.back q in
    ap (item_at version) all ∙ bind_complete _ _ _ _ _ (bare_complete _ _ _ _ h.first (token_apart _ ps.1))
    ∙ led_complete _ _ _ _ _ (bind_complete _ _ _ _ _ ps.0)

-- ---- how items begin

-- a byte that begins no such text
pub begun_apart : (class : ℕ → Bool) (n : ℕ) (t : List ℕ) → class n ≡ false → begins class t ≡ true → Apart (byte n) t
begun_apart class n [] none b = absurd (true≢false (sym b))
begun_apart class n (c ∷ t) none b = Apart-cons (byte n) c t (ne_eqb c n (λ i. true≢false (sym b ∙ ap class i ∙ none)))

pub item_begun : (version : Version) (i : RawItem) (t q : List ℕ) → IsItemText version i t
    → begins is_bare_start (t ++ q) ≡ true
item_begun version i t q h = rw (ap (λ (l : List ℕ). l ++ q) h.text ∙ append_assoc h.front h.back q)
    (begins-append is_bare_start h.front (h.back ++ q) (bare_begins version i.bare h.front h.first))

pub item_no : (n : ℕ) (version : Version) (i : RawItem) (t q : List ℕ) → is_bare_start n ≡ false
    → IsItemText version i t → Apart (byte n) (t ++ q)
item_no n version i t q none h = begun_apart is_bare_start n (t ++ q) none (item_begun version i t q h)

pub begun_some : (class : ℕ → Bool) (t : List ℕ) → begins class t ≡ true → 1 ≤ length t
begun_some class [] b = absurd (true≢false (sym b))
begun_some class (c ∷ t) b = omega arith

pub space_ends : (q : List ℕ) → Apart lengthens_item (space ∷ q)
space_ends q = Apart-cons lengthens_item space q refl

pub blank_ends : (c : ℕ) (q : List ℕ) → is_space_or_tab c ≡ true → Apart lengthens_item (c ∷ q)
blank_ends c q e = Apart-cons lengthens_item c q (grind (arith, nat_tests))
