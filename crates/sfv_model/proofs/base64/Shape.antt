-- A text is symbols, padding, and what no Base64 text goes on with.
use Rattle.std.proofs.Common.{◌≡◌, ℕ, zero, suc, ◌<◌, ◌≤◌, ◌+◌, List, [], ◌∷◌, ◌++◌, length, map, take, replicate, refl}
use Rattle.std.proofs.Common.{sym, ◌∙◌, ap, Bool, true, arith, ◌⊎◌, inl, inr, ◌==◌, eqb-true, ltb-true}
use Rattle.std.{specs.List.list_all, proofs.lemmas.Bool.{and_parts, cases_Bool}, proofs.lemmas.Bool.Decides.nat_tests}
use Rattle.sfv_spec.specs.Base64.{symbol}
use Rattle.sfv_spec.proofs.{Marks.{equals_sign, is_symbol}, Parts.implied, Settled.NotBegun}
use Rattle.sfv_model.specs.Content.{symbol_value, most_padding, padding_in, valid_from, values_in}
use Rattle.sfv_model.proofs.base64.Bits.{is_value}

abbrev pub is_equals : ℕ → Bool
is_equals c = c == equals_sign

below_128 : (v : ℕ) → is_value v ≡ true → v < 128
below_128 v h = omega (arith, ltb-true v 64 h)

pub symbol-is_symbol : (v : ℕ) → is_value v ≡ true → is_symbol (symbol v) ≡ true
unfolding is_symbol
symbol-is_symbol v h = implied is_value (λ v. is_symbol (symbol v)) refl v (below_128 v h) h

pub value-symbol : (v : ℕ) → is_value v ≡ true → symbol_value (symbol v) ≡ v
unfolding symbol_value
value-symbol v h = eqb-true (symbol_value (symbol v)) v
    (implied is_value (λ v. symbol_value (symbol v) == v) refl v (below_128 v h) h)

pub symbol_below : (c : ℕ) → is_symbol c ≡ true → c < 128
unfolding is_symbol
symbol_below c h = grind (arith, nat_tests)

pub symbol-value : (c : ℕ) → is_symbol c ≡ true → symbol (symbol_value c) ≡ c
unfolding is_symbol symbol_value
symbol-value c h = eqb-true (symbol (symbol_value c)) c
    (implied is_symbol (λ c. symbol (symbol_value c) == c) refl c (symbol_below c h) h)

pub value_within : (c : ℕ) → is_symbol c ≡ true → is_value (symbol_value c) ≡ true
unfolding is_symbol symbol_value
value_within c h = implied is_symbol (λ c. is_value (symbol_value c)) refl c (symbol_below c h) h

-- the same along a list
pub are_symbols : (vs : List ℕ) → list_all is_value vs ≡ true → list_all is_symbol (map symbol vs) ≡ true
are_symbols [] h = refl
are_symbols (v ∷ vs) h = let p = and_parts (is_value v) (list_all is_value vs) h in
    rw (symbol-is_symbol v p.0) (are_symbols vs p.1)

pub values-symbols : (vs : List ℕ) → list_all is_value vs ≡ true → map symbol_value (map symbol vs) ≡ vs
values-symbols [] h = refl
values-symbols (v ∷ vs) h = let p = and_parts (is_value v) (list_all is_value vs) h in
    cc (value-symbol v p.0, values-symbols vs p.1)

pub symbols-values : (cs : List ℕ) → list_all is_symbol cs ≡ true → map symbol (map symbol_value cs) ≡ cs
symbols-values [] h = refl
symbols-values (c ∷ cs) h = let p = and_parts (is_symbol c) (list_all is_symbol cs) h in
    cc (symbol-value c p.0, symbols-values cs p.1)

pub are_values : (cs : List ℕ) → list_all is_symbol cs ≡ true → list_all is_value (map symbol_value cs) ≡ true
are_values [] h = refl
are_values (c ∷ cs) h = let p = and_parts (is_symbol c) (list_all is_symbol cs) h in
    rw (value_within c p.0) (are_values cs p.1)

-- padding, up to so much, and what follows
pub record Padded (most : ℕ) (t : List ℕ) : Type 0 where
  pub padding : ℕ
  pub rest : List ℕ
  pub text : t ≡ replicate padding equals_sign ++ rest
  pub within : padding ≤ most
  pub ends : (padding ≡ most) ⊎ NotBegun is_equals rest

pub padded : (most : ℕ) (t : List ℕ) → Padded most t
padded zero t = record { padding = 0; rest = t; text = refl; within = omega arith; ends = inl refl }
padded (suc k) [] = record { padding = 0; rest = []; text = refl; within = omega arith; ends = inr refl }
padded (suc k) (c ∷ t) = elim (cases_Bool (is_equals c)) [
  | inl p ↦ let e = eqb-true c equals_sign p in
      let h = padded k t in
      record {
        padding = suc h.padding;
        rest = h.rest;
        text = cc (e, h.text);
        within = omega (arith, h.within);
        ends = elim h.ends [ inl f ↦ inl (ap suc f) | inr f ↦ inr f ];
      }
  | inr p ↦ record { padding = 0; rest = c ∷ t; text = refl; within = omega arith; ends = inr p }
]

pub padding-padded : (most n : ℕ) (rest : List ℕ) → n ≤ most → (n ≡ most) ⊎ NotBegun is_equals rest
    → padding_in most (replicate n equals_sign ++ rest) ≡ n
unfolding padding_in
padding-padded zero zero rest h e = refl
padding-padded zero (suc n) rest h e = absurd (omega arith)
padding-padded (suc k) zero [] h e = refl
padding-padded (suc k) zero (c ∷ rest) h (inl e) = absurd (omega (arith, e))
padding-padded (suc k) zero (c ∷ rest) h (inr e) = rw e refl
padding-padded (suc k) (suc n) rest h e = ap suc (padding-padded k n rest (omega arith) (elim e [
  | inl f ↦ inl (omega (arith, f))
  | inr f ↦ inr f
]))

-- symbols, padding and what follows, after n symbols
pub record Shape (n : ℕ) (t : List ℕ) : Type 0 where
  pub run : List ℕ
  pub padding : ℕ
  pub rest : List ℕ
  pub text : t ≡ run ++ (replicate padding equals_sign ++ rest)
  pub symbols : list_all is_symbol run ≡ true
  pub within : padding ≤ most_padding (n + length run)
  pub ends : (padding ≡ most_padding (n + length run)) ⊎ NotBegun is_equals rest
  pub apart : NotBegun is_symbol (replicate padding equals_sign ++ rest)

pub shape_of : (n : ℕ) (t : List ℕ) → Shape n t
shape_of n [] = record {
  run = [];
  padding = 0;
  rest = [];
  text = refl;
  symbols = refl;
  within = omega arith;
  ends = inr refl;
  apart = refl;
}
shape_of n (c ∷ t) = elim (cases_Bool (is_symbol c)) [
  | inl p ↦
      let h = shape_of (suc n) t in
      let e : suc n + length h.run ≡ n + suc (length h.run) = omega arith in
      record {
        run = c ∷ h.run;
        padding = h.padding;
        rest = h.rest;
        text = cc (h.text);
        symbols = rw p h.symbols;
        within = rw (← e) h.within;
        ends = rw (← e) h.ends;
        apart = h.apart;
      }
  | inr p ↦
      let h = padded (most_padding n) (c ∷ t) in
      let e : n + 0 ≡ n = omega arith in
      record {
        run = [];
        padding = h.padding;
        rest = h.rest;
        text = h.text;
        symbols = refl;
        within = rw e h.within;
        ends = rw e h.ends;
        apart = rw (← h.text) p;
      }
]

pub padding-nil : (k : ℕ) → padding_in k [] ≡ 0
unfolding padding_in
padding-nil zero = refl
padding-nil (suc k) = refl

-- what stands after the symbols
pub after_symbols : (n : ℕ) (u : List ℕ) → NotBegun is_symbol u
    → (valid_from n u ≡ padding_in (most_padding n) u) × (values_in u ≡ [])
unfolding valid_from values_in
after_symbols n [] h = (sym (padding-nil (most_padding n)), refl)
after_symbols n (c ∷ u) h = rw h (refl, refl)

pub valid_run : (n : ℕ) (run u : List ℕ) → list_all is_symbol run ≡ true → NotBegun is_symbol u
    → (valid_from n (run ++ u) ≡ length run + padding_in (most_padding (n + length run)) u)
    × (values_in (run ++ u) ≡ map symbol_value run)
unfolding valid_from values_in
valid_run n [] u h a =
    let e : n + 0 ≡ n = omega arith in
    let b = after_symbols n u a in
    let f : valid_from n u ≡ 0 + padding_in (most_padding n) u = omega (arith, b.0) in
    (rw e f, b.1)
valid_run n (c ∷ run) u h a =
    let p = and_parts (is_symbol c) (list_all is_symbol run) h in
    let r = valid_run (suc n) run u p.1 a in
    let e : suc n + length run ≡ n + suc (length run) = omega arith in
    rw p.0 (
      ap suc r.0 ∙ omega (arith, ap (λ k. padding_in (most_padding k) u) e),
      ap (λ (l : List ℕ). symbol_value c ∷ l) r.1,
    )

pub shape_valid : (n : ℕ) (t : List ℕ) (s : Shape n t)
    → (valid_from n t ≡ length s.run + s.padding) × (values_in t ≡ map symbol_value s.run)
shape_valid n t s =
    let v = valid_run n s.run (replicate s.padding equals_sign ++ s.rest) s.symbols s.apart in
    rw (s.text) (simp (v.0, padding-padded (most_padding (n + length s.run)) s.padding s.rest s.within s.ends), v.1)

-- an answer rests on the bytes up to its place, and on the one that stands there
padding_local : (k : ℕ) (t : List ℕ) (m : ℕ) (more : List ℕ) → padding_in k t < m → m ≤ length t
    → padding_in k (take m t ++ more) ≡ padding_in k t
unfolding padding_in
padding_local zero t m more h l = refl
padding_local (suc k) [] m more h l = absurd (omega arith)
padding_local (suc k) (c ∷ t) zero more h l = absurd (omega arith)
padding_local (suc k) (c ∷ t) (suc m) more h l = elim (cases_Bool (is_equals c)) [
  | inl p ↦
      let g : padding_in k t < m = omega (arith, rw p at h) in
      rw p (ap suc (padding_local k t m more g (omega arith)))
  | inr p ↦ rw p refl
]

pub valid_local : (n : ℕ) (t : List ℕ) (m : ℕ) (more : List ℕ) → valid_from n t < m → m ≤ length t
    → valid_from n (take m t ++ more) ≡ valid_from n t
unfolding valid_from
valid_local n [] m more h l = absurd (omega arith)
valid_local n (c ∷ t) zero more h l = absurd (omega arith)
valid_local n (c ∷ t) (suc m) more h l = elim (cases_Bool (is_symbol c)) [
  | inl p ↦
      let g : valid_from (suc n) t < m = omega (arith, rw p at h) in
      rw p (ap suc (valid_local (suc n) t m more g (omega arith)))
  | inr p ↦
      let g = rw p at h in
      rw p (padding_local (most_padding n) (c ∷ t) (suc m) more g l)
]
