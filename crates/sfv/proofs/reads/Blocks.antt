-- Vectors of symbols, of values and of groups, lane by lane.
use Rattle.std.proofs.Common.{◌≡◌, ℕ, zero, suc, ◌+◌, ◌-◌, ◌*◌, ◌/◌, ◌%◌, ◌^◌, ◌<◌, Bool, true, cond, eqb, ltb, List}
use Rattle.std.proofs.Common.{[], ◌∷◌, ◌++◌, map, take, length, get_or, replicate, refl, ap, ap₂, ◌∙◌, arith, w8, Fits}
use Rattle.std.{proofs.Common.{T, inl, inr, ◌==◌, eqb-true, ltb-true, lt-ltb}, specs.List.list_all}
use Rattle.std.proofs.lemmas.{Bool.{agree_below_at, and_parts, and_from, both_ways, cases_Bool}, List.length-map}
use Rattle.std.proofs.lemmas.{List.Folds.list_all_at, Simd.{swz_l, SwzOk, SwzOk-from_below, get_or_narrower}}
use lib.Lanes.{zip2, sel_l, top, Each1, dots, products, pair_sums, all_below, number_l, digits_l, pick_l}
use Rattle.sfv_spec.{specs.Base64.symbols, proofs.Marks.is_symbol}
use Rattle.sfv_model.specs.Content.{symbol_value, bytes_from}
use Rattle.sfv_model.proofs.base64.{Bits.{is_value, head_value}, Shape.{symbol-value, value_within}}
use Rattle.sfv_base.proofs.Masks.{half_looked_up}
use Rattle.sfv.specs.parser.Base64.{group_numbers, bytes_of_groups, offset_index, AreOffsets}

-- ---- values

-- one lane: a sum, a difference and a shift
abbrev pub add8 : ℕ → ℕ → ℕ
add8 a b = (a + b) % 2 ^ 8

abbrev pub sub8 : ℕ → ℕ → ℕ
sub8 a b = (a + (2 ^ 8 - b)) % 2 ^ 8

abbrev pub down : ℕ → ℕ → ℕ
down a b = a / 2 ^ b

abbrev pub hit : ℕ → ℕ → ℕ
hit a b = cond (eqb a b) 255 0

-- the row of a symbol
abbrev row : ℕ → ℕ
row x = sub8 (down x 4) (cond (top 7 (hit x 47)) 1 0)

abbrev pub rows : ℕ → List ℕ → List ℕ
rows n v = zip2 sub8 (zip2 down v (replicate n 4))
    (sel_l (map (top 7) (zip2 hit v (replicate n 47))) (replicate n 1) (replicate n 0))

rows_are : (n : ℕ) (v : List ℕ) → length v ≡ n → rows n v ≡ map row v
rows_are zero [] e = refl
rows_are (suc n) [] e = absurd (omega arith)
rows_are zero (x ∷ v) e = absurd (omega arith)
rows_are (suc n) (x ∷ v) e = ap (λ (l : List ℕ). row x ∷ l) (rows_are n v (omega arith))

row_below : (x : ℕ) → x < 256 → row x < 16
row_below x lt = ltb-true _ _ (agree_below_at (λ x. ltb (row x) 16) (λ _. true) 256 x refl lt)

rows_below : (v : List ℕ) → Each1 (Fits w8) v → Each1 (λ j. j < 16) (map row v)
rows_below [] fits = tt
rows_below (x ∷ v) fits = (row_below x fits.0.fits, rows_below v fits.1)

pub rows_ok : (v : List ℕ) → length v ≡ 16 → Each1 (Fits w8) v → SwzOk w8 16 16 0 (rows 16 v)
rows_ok v long fits = rw (rows_are 16 v long)
    (SwzOk-from_below w8 16 1 16 0 (map row v) refl (omega (arith, length-map v row)) (rows_below v fits))

-- the row of a symbol is the index of its offset
row_is : (x : ℕ) → x < 256 → row x ≡ offset_index x
row_is x lt = eqb-true _ _ (agree_below_at (λ x. eqb (row x) (offset_index x)) (λ _. true) 256 x refl lt)

offset_at : (offsets : List ℕ) (x : ℕ) → x < 256 → is_symbol x ≡ true → AreOffsets offsets
    → add8 x (get_or offsets (row x) 0) ≡ symbol_value x
offset_at offsets x lt is all =
    let test : ℕ → Bool = λ c. (c + get_or offsets (offset_index c) 0) % 256 == symbol_value c in
    let small : symbol_value x < 64 = ltb-true (symbol_value x) 64 (value_within x is) in
    elim (cases_Bool (test x)) [
      | inl y ↦ rw (row_is x lt) (eqb-true _ _ y)
      | inr n ↦
          let no = list_all_at test symbols (symbol_value x) 0 small (rw (symbol-value x is) n) in
          absurd (both_ways _ no all)
    ]

moved : (offsets v : List ℕ) → Each1 (Fits w8) v → list_all is_symbol v ≡ true → AreOffsets offsets
    → zip2 add8 v (map (λ j. get_or offsets j 0) (map row v)) ≡ map symbol_value v
moved offsets [] fits each all = refl
moved offsets (x ∷ v) fits each all =
    let parts = and_parts (is_symbol x) (list_all is_symbol v) each in
    ap₂ (λ a (l : List ℕ). a ∷ l) (offset_at offsets x fits.0.fits parts.0 all) (moved offsets v fits.1 parts.1 all)

pub values_are : (offsets v : List ℕ) → length v ≡ 16 → Each1 (Fits w8) v → list_all is_symbol v ≡ true
    → AreOffsets offsets → zip2 add8 v (swz_l w8 16 offsets 0 (rows 16 v)) ≡ map symbol_value v
values_are offsets v long fits each all =
    ap (λ (js : List ℕ). zip2 add8 v (swz_l w8 16 offsets 0 js)) (rows_are 16 v long) ∙ ap (zip2 add8 v)
    (half_looked_up offsets (map row v) (length-map v row ∙ long) (rows_below v fits)) ∙ moved offsets v fits each all

-- ---- groups

abbrev pub add32 : ℕ → ℕ → ℕ
add32 a b = (a + b) % 2 ^ 32

abbrev pub mul32 : ℕ → ℕ → ℕ
mul32 a b = a * b % 2 ^ 32

-- the weights of the values in the two halves of a group
abbrev pub front_weights : ℕ → List ℕ
front_weights zero = []
front_weights (suc n) = 64 ∷ 1 ∷ 0 ∷ 0 ∷ front_weights n

abbrev pub back_weights : ℕ → List ℕ
back_weights zero = []
back_weights (suc n) = 0 ∷ 0 ∷ 64 ∷ 1 ∷ back_weights n

group_of : (a b c d : ℕ) → a < 64 → b < 64 → c < 64 → d < 64 → add32 (mul32 ((a * 64 + b * 1) + (c * 0 + d * 0)) 4096)
    ((a * 0 + b * 0) + (c * 64 + d * 1)) ≡ (a * 64 + b) * 4096 + (c * 64 + d)
group_of a b c d la lb lc ld = omega arith

pub groups_are : (n : ℕ) (vs : List ℕ) → length vs ≡ 4 * n → list_all is_value vs ≡ true
    → zip2 add32 (zip2 mul32 (dots vs (front_weights n)) (replicate n 4096)) (dots vs (back_weights n))
    ≡ group_numbers vs
unfolding group_numbers
groups_are zero [] e h = refl
groups_are zero (a ∷ vs) e h = absurd (omega arith)
groups_are (suc n) [] e h = absurd (omega arith)
groups_are (suc n) (a ∷ []) e h = absurd (omega arith)
groups_are (suc n) (a ∷ b ∷ []) e h = absurd (omega arith)
groups_are (suc n) (a ∷ b ∷ c ∷ []) e h = absurd (omega arith)
groups_are (suc n) (a ∷ b ∷ c ∷ d ∷ rest) e h =
    let o = head_value a (b ∷ c ∷ d ∷ rest) h in
    let p = head_value b (c ∷ d ∷ rest) o.1 in
    let q = head_value c (d ∷ rest) p.1 in
    let r = head_value d rest q.1 in
    ap₂ (λ x (l : List ℕ). x ∷ l) (group_of a b c d o.0 p.0 q.0 r.0) (groups_are n rest (omega arith) r.1)

-- the sums of two products fit in one half of a lane
halves_are : (n : ℕ) (vs : List ℕ) → length vs ≡ 4 * n → list_all is_value vs ≡ true
    → (all_below 32768 (pair_sums (products vs (front_weights n))) ≡ true)
    × (all_below 32768 (pair_sums (products vs (back_weights n))) ≡ true)
halves_are zero [] e h = (refl, refl)
halves_are zero (a ∷ vs) e h = absurd (omega arith)
halves_are (suc n) [] e h = absurd (omega arith)
halves_are (suc n) (a ∷ []) e h = absurd (omega arith)
halves_are (suc n) (a ∷ b ∷ []) e h = absurd (omega arith)
halves_are (suc n) (a ∷ b ∷ c ∷ []) e h = absurd (omega arith)
halves_are (suc n) (a ∷ b ∷ c ∷ d ∷ rest) e h =
    let o = head_value a (b ∷ c ∷ d ∷ rest) h in
    let p = head_value b (c ∷ d ∷ rest) o.1 in
    let q = head_value c (d ∷ rest) p.1 in
    let r = head_value d rest q.1 in
    let la = o.0 in
    let lb = p.0 in
    let lc = q.0 in
    let ld = r.0 in
    let ih = halves_are n rest (omega arith) r.1 in (
      and_from _ _ (lt-ltb (a * 64 + b * 1) 32768 (omega arith)) (and_from _ _ (lt-ltb (c * 0 + d * 0) 32768 (omega arith)) ih.0),
      and_from _ _ (lt-ltb (a * 0 + b * 0) 32768 (omega arith)) (and_from _ _ (lt-ltb (c * 64 + d * 1) 32768 (omega arith)) ih.1),
    )

pub halves_fit : (n : ℕ) (vs : List ℕ) → length vs ≡ 4 * n → list_all is_value vs ≡ true
    → T (all_below 32768 (pair_sums (products vs (front_weights n))))
    × T (all_below 32768 (pair_sums (products vs (back_weights n))))
halves_fit n vs e h = let are = halves_are n vs e h in (rw are.0 tt, rw are.1 tt)

-- ---- bytes

cons : {x y : ℕ} {xs ys : List ℕ} → x ≡ y → xs ≡ ys → x ∷ xs ≡ y ∷ ys
cons e f = ap₂ (λ a (l : List ℕ). a ∷ l) e f

lowest : (n : ℕ) → n / 256 ^ 0 % 256 ≡ n % 256
lowest n = let e : n / 1 ≡ n = omega arith in ap (λ k. k % 256) e

abbrev little : List ℕ → List ℕ
little g = digits_l 256 16 (number_l 4294967296 g)

pub bytes_are : (g : List ℕ) → length g ≡ 4 → Each1 (λ x. x < 4294967296) g
    → take 12 (pick_l 0 (little g ++ little g) (2 ∷ 1 ∷ 0 ∷ 6 ∷ 5 ∷ 4 ∷ 10 ∷ 9 ∷ 8 ∷ 14 ∷ 13 ∷ 12 ∷ 15 ∷ 15 ∷ 15 ∷ 15 ∷ []))
    ≡ bytes_of_groups g
unfolding bytes_of_groups
bytes_are [] long fits = absurd (omega arith)
bytes_are (a ∷ []) long fits = absurd (omega arith)
bytes_are (a ∷ b ∷ []) long fits = absurd (omega arith)
bytes_are (a ∷ b ∷ c ∷ []) long fits = absurd (omega arith)
bytes_are (a ∷ b ∷ c ∷ d ∷ []) long fits =
    let g : List ℕ = a ∷ b ∷ c ∷ d ∷ [] in
    let at = λ (j i : ℕ) (l : i < 4) (m : 4 * j + i < 16). get_or_narrower 4294967296 4 256 16 g j i refl fits l m in
    let last = λ (j : ℕ) (m : 4 * j + 0 < 16). at j 0 (omega arith) m ∙ lowest (get_or g j 0) in
    cons (at 0 2 (omega arith) (omega arith)) (cons (at 0 1 (omega arith) (omega arith)) (cons (last 0 (omega arith))
    (cons (at 1 2 (omega arith) (omega arith)) (cons (at 1 1 (omega arith) (omega arith)) (cons (last 1 (omega arith))
    (cons (at 2 2 (omega arith) (omega arith)) (cons (at 2 1 (omega arith) (omega arith)) (cons (last 2 (omega arith))
    (cons (at 3 2 (omega arith) (omega arith)) (cons (at 3 1 (omega arith) (omega arith)) (cons (last 3 (omega arith)) refl)))))))))))
bytes_are (a ∷ b ∷ c ∷ d ∷ e ∷ g) long fits = absurd (omega arith)

-- the bytes of a group
pub grouped : (vs : List ℕ) → length vs % 4 ≡ 0 → list_all is_value vs ≡ true
    → bytes_of_groups (group_numbers vs) ≡ bytes_from vs
unfolding bytes_of_groups group_numbers bytes_from
grouped [] n h = refl
grouped (a ∷ []) n h = absurd (omega (arith, n))
grouped (a ∷ b ∷ []) n h = absurd (omega (arith, n))
grouped (a ∷ b ∷ c ∷ []) n h = absurd (omega (arith, n))
grouped (a ∷ b ∷ c ∷ d ∷ rest) n h =
    let o = head_value a (b ∷ c ∷ d ∷ rest) h in
    let p = head_value b (c ∷ d ∷ rest) o.1 in
    let q = head_value c (d ∷ rest) p.1 in
    let r = head_value d rest q.1 in
    let la = o.0 in
    let lb = p.0 in
    let lc = q.0 in
    let ld = r.0 in
    let k : ℕ = (a * 64 + b) * 4096 + (c * 64 + d) in
    let m : length rest % 4 ≡ 0 = omega (arith, n) in
    let first : k / 65536 % 256 ≡ a * 4 + b / 16 = omega arith in
    let second : k / 256 % 256 ≡ b % 16 * 16 + c / 4 = omega arith in
    let third : k % 256 ≡ c % 4 * 64 + d = omega arith in
    cons first (cons second (cons third (grouped rest m r.1)))
