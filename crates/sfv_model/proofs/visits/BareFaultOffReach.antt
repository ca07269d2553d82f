-- A bare item that is at fault elsewhere than at the reach: its first byte begins some bare item.
use Rattle.std.proofs.Common.{◌≡◌, ℕ, true, false, List, [], ◌∷◌, ◌++◌, Err, refl, sym, ap, ◌∙◌, inl, inr, true≢false}
use Rattle.std.proofs.{Common.eqb-true, lemmas.Bool.cases_Bool}
use Rattle.sfv_spec.specs.{Classes.is_token_start, Values.BareValue}
use Rattle.sfv_spec.proofs.Marks.{double_quote, colon, percent_sign, question_mark, at_sign, minus_sign, is_digit}
use Rattle.sfv_model.specs.Bare.{bare_at, boolean_at, date_at, quoted_at, number_at, sign_at, whole_at, token_at}
use Rattle.sfv_model.specs.Bare.{is_number_start}
use Rattle.sfv_model.specs.Content.{symbol_value, padding_in, valid_from, values_in, bytes_from, bytes_of, fault_place}
use Rattle.sfv_model.specs.{Content.{content_in, bytes_at}, Quoted.string_from}
use Rattle.sfv_model.specs.Reader.{Fault, Answer, at_reach, byte, branch, ahead, back, up_to, bind, give, fail, span}
use Rattle.sfv_model.proofs.Types.{Version, Rfc8941, Rfc9651, ErrorKind, ExpectedStartOfBareItem, Rfc8941Date}
use Rattle.sfv_model.proofs.{Types.Rfc8941DisplayString, places.Calls.Stuck, sound.Bare.Sound-bare}
use Rattle.sfv_model.proofs.{sound.Combinators.sound_at, visits.EventsBeforeRuleAlike.{Tells, Early, begins_all}}

pub stuck_mark : (version : Version) → Stuck (bare_at version (63 ∷ 49 ∷ 0 ∷ []))
unfolding bare_at boolean_at branch give
stuck_mark version = refl

stuck_quote : (version : Version) → Stuck (bare_at version (34 ∷ 34 ∷ 0 ∷ []))
unfolding bare_at branch bind give string_from
stuck_quote version = refl

stuck_colon : (version : Version) → Stuck (bare_at version (58 ∷ 58 ∷ 0 ∷ []))
unfolding bare_at branch bind give symbol_value padding_in valid_from values_in bytes_from bytes_of fault_place content_in bytes_at
stuck_colon version = refl

stuck_at : Stuck (bare_at Rfc9651 (64 ∷ 0 ∷ []))
unfolding bare_at branch ahead back bind give fail date_at number_at sign_at up_to whole_at
stuck_at = (refl, refl)

stuck_percent : Stuck (bare_at Rfc9651 (37 ∷ 0 ∷ []))
unfolding bare_at branch ahead bind give fail quoted_at
stuck_percent = (refl, refl)

stuck_minus : (version : Version) → Stuck (bare_at version (45 ∷ 0 ∷ []))
unfolding bare_at branch ahead bind give fail number_at sign_at up_to whole_at
stuck_minus version = (refl, refl)

stuck_digit : (version : Version) (c : ℕ) → is_digit c ≡ true → byte question_mark c ≡ false
    → byte double_quote c ≡ false → byte colon c ≡ false → byte at_sign c ≡ false → byte percent_sign c ≡ false
    → byte minus_sign c ≡ false → Stuck (bare_at version (c ∷ 0 ∷ []))
unfolding bare_at branch ahead bind give fail number_at sign_at up_to whole_at
stuck_digit version c d m q k a p s = rw (m, q, k, a, p, s, d) refl

stuck_token : (version : Version) (c : ℕ) → is_token_start c ≡ true → is_number_start c ≡ false
    → byte question_mark c ≡ false → byte double_quote c ≡ false → byte colon c ≡ false → byte at_sign c ≡ false
    → byte percent_sign c ≡ false → Stuck (bare_at version (c ∷ 0 ∷ []))
unfolding bare_at branch ahead bind give fail token_at span
stuck_token version c d n m q k a p = rw (m, q, k, a, p, n, d) refl

-- no other byte begins a bare item
pub no_bare : (version : Version) (c : ℕ) (r : List ℕ) → is_token_start c ≡ false → is_number_start c ≡ false
    → byte question_mark c ≡ false → byte double_quote c ≡ false → byte colon c ≡ false → byte at_sign c ≡ false
    → byte percent_sign c ≡ false → bare_at version (c ∷ r) ≡ Err (at_reach ExpectedStartOfBareItem (c ∷ r))
unfolding bare_at branch ahead fail token_at
no_bare version c r d n m q k a p = rw (m, q, k, a, p, n, d) refl

old_date : (r : List ℕ) → bare_at Rfc8941 (64 ∷ r) ≡ Err (at_reach Rfc8941Date (64 ∷ r))
unfolding bare_at branch ahead fail date_at
old_date r = refl

old_display : (r : List ℕ) → bare_at Rfc8941 (37 ∷ r) ≡ Err (at_reach Rfc8941DisplayString (37 ∷ r))
unfolding bare_at branch ahead fail quoted_at
old_display r = refl

-- a fault at the reach is no other
is_exact : (a : Answer BareValue) (k : ErrorKind) (t : List ℕ) (e : Fault) → a ≡ Err (at_reach k t) → a ≡ Err e
    → e.exact ≡ false → ⊥
is_exact a k t e h i x =
    let same : at_reach k t ≡ e = cc in true≢false (ap (λ (e : Fault). e.exact) same ∙ x)

-- the byte begins some bare item
abbrev Begun : Version → ℕ → Type 0
Begun version c = (w : List ℕ) × Stuck (bare_at version (c ∷ (w ++ 0 ∷ [])))

begun_date : (version : Version) (r : List ℕ) (e : Fault) → bare_at version (64 ∷ r) ≡ Err e → e.exact ≡ false
    → Begun version 64
begun_date Rfc8941 r e i x = absurd (is_exact _ _ _ e (old_date r) i x)
begun_date Rfc9651 r e i x = ([], stuck_at)

begun_display : (version : Version) (r : List ℕ) (e : Fault) → bare_at version (37 ∷ r) ≡ Err e → e.exact ≡ false
    → Begun version 37
begun_display Rfc8941 r e i x = absurd (is_exact _ _ _ e (old_display r) i x)
begun_display Rfc9651 r e i x = ([], stuck_percent)

begun : (version : Version) (c : ℕ) (r : List ℕ) (e : Fault) → bare_at version (c ∷ r) ≡ Err e → e.exact ≡ false
    → Begun version c
begun version c r e i x = elim (cases_Bool (byte question_mark c)) [
  | inl y ↦ rw (eqb-true c question_mark y) (49 ∷ [], stuck_mark version)
  | inr m ↦ elim (cases_Bool (byte double_quote c)) [
    | inl y ↦ rw (eqb-true c double_quote y) (34 ∷ [], stuck_quote version)
    | inr q ↦ elim (cases_Bool (byte colon c)) [
      | inl y ↦ rw (eqb-true c colon y) (58 ∷ [], stuck_colon version)
      | inr k ↦ elim (cases_Bool (byte at_sign c)) [
        | inl y ↦ let is : c ≡ 64 = eqb-true c at_sign y in
            rw is (begun_date version r e (ap (λ (c : ℕ). bare_at version (c ∷ r)) (sym is) ∙ i) x)
        | inr a ↦ elim (cases_Bool (byte percent_sign c)) [
          | inl y ↦ let is : c ≡ 37 = eqb-true c percent_sign y in
              rw is (begun_display version r e (ap (λ (c : ℕ). bare_at version (c ∷ r)) (sym is) ∙ i) x)
          | inr p ↦ elim (cases_Bool (byte minus_sign c)) [
            | inl y ↦ rw (eqb-true c minus_sign y) ([], stuck_minus version)
            | inr s ↦ elim (cases_Bool (is_digit c)) [
              | inl d ↦ ([], stuck_digit version c d m q k a p s)
              | inr d ↦ elim (cases_Bool (is_token_start c)) [
                | inl z ↦ ([], stuck_token version c z (no_number d s) m q k a p)
                | inr z ↦ absurd (is_exact _ _ _ e (no_bare version c r z (no_number d s) m q k a p) i x)
              ]
            ]
          ]
        ]
      ]
    ]
  ]
]
  where
    no_number : is_digit c ≡ false → byte minus_sign c ≡ false → is_number_start c ≡ false
    no_number d s = rw (d, s) refl

-- nor does the end of the text
pub nothing_there : (version : Version) → bare_at version [] ≡ Err (at_reach ExpectedStartOfBareItem [])
unfolding bare_at branch ahead fail token_at
nothing_there version = refl

no_events : (version : Version) (t : List ℕ) (e : Fault) → bare_at version t ≡ Err e → e.exact ≡ false → e.events ≡ []
no_events version t e i x = ((sound_at (Sound-bare version) t (Err e) i).1 x).0.1.2

pub Early-bare : (version : Version) → Early (bare_at version) (λ _. [])
Early-bare version = record { early = at }
  where
    at : (t : List ℕ) (e : Fault) → bare_at version t ≡ Err e → e.exact ≡ false
        → Tells (bare_at version) (λ _. []) t e.events
    at [] e i x = absurd (is_exact _ _ _ e (nothing_there version) i x)
    at (c ∷ r) e i x =
        let b = begun version c r e i x in
        record {
          before = [];
          next = c;
          after = r;
          text = refl;
          emitted = λ q. rw (no_events version (c ∷ r) e i x) (begins_all _);
          more = b.0;
          stuck = b.1;
        }
