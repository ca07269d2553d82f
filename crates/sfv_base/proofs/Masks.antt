-- Masks of lanes, computed lane by lane from a vector of bytes.
use Rattle.std.proofs.Common.{◌≡◌, ℕ, ◌+◌, ◌*◌, ◌/◌, ◌%◌, ◌^◌, ◌<◌, ◌≤◌, Bool, true, false, not, cond, eqb, List, []}
use Rattle.std.proofs.Common.{◌∷◌, ◌++◌, map, length, get_or, replicate, bit_and, refl, sym, ap, ap₂, ◌∙◌, arith, w8}
use Rattle.std.{proofs.Common.{Fits, ext_get_or}, specs.List.range_with_len}
use Rattle.std.proofs.lemmas.{Bool.{agree_below, agree_below_at}, List.{get_or-map, get_or_append_left, length-map}}
use Rattle.std.proofs.lemmas.{List.FromFn.get_or-map-range_with_len, Nat.{and_le_r, and_mask}}
use Rattle.std.proofs.lemmas.Simd.{zip2_splat, zip2_of_maps, map-map, mask_l-mod, Each1-all, Each1-weaker, Each1-zip2}
use Rattle.std.proofs.lemmas.Simd.{Each2-splat, Each1-get_or, below_from_Fits, swz_l, SwzOk, SwzOk-from_below}
use Rattle.std.proofs.lemmas.Simd.{length-swz_l, get_or-swz_l_below}
use lib.Lanes.{zip2, mask_l, top, Each1}
use Rattle.sfv_base.specs.{Lanes.{outside_mask, is_marked}, declared.lanes.TheConstants.HIGH}

-- ---- maps

-- two functions that agree at the bytes of a vector
map_same : (f g : ℕ → Bool) → ((x : ℕ) → x < 256 → f x ≡ g x) → (v : List ℕ) → Each1 (Fits w8) v → map f v ≡ map g v
map_same f g all [] fits = refl
map_same f g all (x ∷ xs) fits = ap₂ (λ a b. a ∷ b) (all x fits.0.fits) (map_same f g all xs fits.1)

-- an operation of a vector that was computed lane by lane and a splat
pub to_splat : (h : ℕ → ℕ → ℕ) (f : ℕ → ℕ) (y n : ℕ) (v : List ℕ) {a : List ℕ} → length v ≡ n → a ≡ map f v
    → zip2 h a (replicate n y) ≡ map (λ x. h (f x) y) v
to_splat h f y n v {a} long e =
    ap (λ l. zip2 h l (replicate n y)) e ∙ zip2_splat h (map f v) n y (length-map v f ∙ long) ∙ map-map (λ x. h x y) f v

-- the mask of the lanes z, which were computed from the bytes v
pub mask_of : (n : ℕ) → n ≤ 64 → (f : ℕ → ℕ) (class : ℕ → Bool) (v z : List ℕ) → length v ≡ n → Each1 (Fits w8) v → z ≡ map f v
    → ((x : ℕ) → x < 256 → top 7 (f x) ≡ not (class x))
    → mask_l (map (top 7) z) % 2 ^ 64 ≡ outside_mask class v
mask_of n short f class v z long fits e all = ap (λ l. mask_l l % 2 ^ 64)
    (ap (map (top 7)) e ∙ map-map (top 7) f v ∙ map_same (λ x. top 7 (f x)) (λ x. not (class x)) all v fits)
    ∙ mask_l-mod (map (λ x. not (class x)) v) 64 (omega (arith, length-map v (λ x. not (class x))))

-- classes that agree at each byte have one mask
pub mask_same : (class other : ℕ → Bool) (v : List ℕ) → Each1 (Fits w8) v → agree_below class other 256 ≡ true
    → outside_mask class v ≡ outside_mask other v
mask_same class other v fits all = ap mask_l (map_same (λ x. not (class x)) (λ x. not (other x))
    (λ x lt. ap not (agree_below_at class other 256 x all lt)) v fits)

-- one lane of `simd_eq`
abbrev pub hit : ℕ → ℕ → ℕ
hit a b = cond (eqb a b) 255 0

-- ---- look-ups

pub low_halves : (n : ℕ) (v : List ℕ) → Each1 (λ j. j < 16) (zip2 bit_and v (replicate n 15))
low_halves n v = Each1-zip2 bit_and (λ j. j < 16) v (replicate n 15) (Each2-splat
    (λ a b. bit_and a b < 16) v n 15 (Each1-all (λ a. bit_and a 15 < 16) (λ a. omega (arith, and_le_r a 15)) v))

abbrev pub down : ℕ → ℕ → ℕ
down a b = a / 2 ^ b

pub high_halves : (n : ℕ) (v : List ℕ) → Each1 (Fits w8) v → Each1 (λ j. j < 16) (zip2 down v (replicate n 4))
high_halves n v fits = Each1-zip2 down (λ j. j < 16) v (replicate n 4) (Each2-splat (λ a b. down a b < 16) v n 4
    (Each1-weaker (λ a. a < 256) (λ a. a / 16 < 16) (λ a h. omega arith) v (below_from_Fits w8 v fits)))

pub places_ok : (js : List ℕ) → length js ≡ 32 → Each1 (λ j. j < 16) js → SwzOk w8 16 32 0 js
places_ok js long small = SwzOk-from_below w8 16 2 32 0 js refl (omega arith) small

-- the table twice
abbrev twice : List ℕ → List ℕ
twice table = map (λ j. get_or (table ++ table) (j % 16) 0) (range_with_len 0 32)

pub looked_up : (table js : List ℕ) → length table ≡ 16 → length js ≡ 32 → Each1 (λ j. j < 16) js
    → swz_l w8 16 (twice table) 0 js ≡ map (λ j. get_or table j 0) js
looked_up table js size long small =
    ext_get_or 0 _ _ (length-swz_l w8 16 (twice table) 0 js ∙ sym (length-map js (λ j. get_or table j 0))) (λ i h.
    let lt : i < length js = omega (arith, length-swz_l w8 16 (twice table) 0 js) in
    let below = Each1-get_or (λ j. j < 16) js i 0 lt small in
    let at = 16 * ((0 + i) / 16) + get_or js i 0 in
    let same : at % 16 ≡ get_or js i 0 = omega arith in
    get_or-swz_l_below w8 16 (twice table) 0 js i lt below
    ∙ get_or-map-range_with_len (λ j. get_or (table ++ table) (j % 16) 0) 0 32 at at 0 (omega arith) (omega arith)
    ∙ ap (λ j. get_or (table ++ table) j 0) same ∙ get_or_append_left table table 0 (get_or js i 0) (omega arith)
    ∙ sym (get_or-map (λ j. get_or table j 0) js i 0 0 lt))

-- the same for 16 places
pub half_places_ok : (js : List ℕ) → length js ≡ 16 → Each1 (λ j. j < 16) js → SwzOk w8 16 16 0 js
half_places_ok js long small = SwzOk-from_below w8 16 1 16 0 js refl (omega arith) small

pub half_looked_up : (table js : List ℕ) → length js ≡ 16 → Each1 (λ j. j < 16) js
    → swz_l w8 16 table 0 js ≡ map (λ j. get_or table j 0) js
half_looked_up table js long small =
    ext_get_or 0 _ _ (length-swz_l w8 16 table 0 js ∙ sym (length-map js (λ j. get_or table j 0))) (λ i h.
    let lt : i < length js = omega (arith, length-swz_l w8 16 table 0 js) in
    let below = Each1-get_or (λ j. j < 16) js i 0 lt small in
    let same : 16 * ((0 + i) / 16) + get_or js i 0 ≡ get_or js i 0 = omega (arith, long, lt) in
    get_or-swz_l_below w8 16 table 0 js i lt below ∙ ap (λ j. get_or table j 0) same
    ∙ sym (get_or-map (λ j. get_or table j 0) js i 0 0 lt))

flag : (b : Bool) → top 7 (cond b 255 0) ≡ not (not b)
flag true = refl
flag false = refl

-- a class by two look-ups
pub by_look_ups : (n : ℕ) → n ≤ 64 → (table v by_low by_high : List ℕ) → length v ≡ n → Each1 (Fits w8) v
    → by_low ≡ map (λ j. get_or table j 0) (zip2 bit_and v (replicate n 15))
    → by_high ≡ map (λ j. get_or HIGH j 0) (zip2 down v (replicate n 4))
    → mask_l (map (top 7) (zip2 hit (zip2 bit_and by_low by_high) (replicate n 0))) % 2 ^ 64
    ≡ outside_mask (is_marked table) v
by_look_ups n short table v by_low by_high long fits low high = mask_of n short
    (λ x. hit (bit_and (get_or table (bit_and x 15) 0) (get_or HIGH (down x 4) 0)) 0) (is_marked table) v _ long fits
    (to_splat hit _ 0 n v long (zip2_of_maps bit_and _ _ v (low ∙ ap (map (λ j. get_or table j 0))
    (zip2_splat bit_and v n 15 long) ∙ map-map (λ j. get_or table j 0) (λ x. bit_and x 15) v) (high
    ∙ ap (map (λ j. get_or HIGH j 0)) (zip2_splat down v n 4 long) ∙ map-map (λ j. get_or HIGH j 0) (λ x. down x 4) v)))
    (λ x lt. flag (eqb (bit_and (get_or table (bit_and x 15) 0) (get_or HIGH (down x 4) 0)) 0)
    ∙ ap (λ j. not (not (eqb (bit_and (get_or table j 0) (get_or HIGH (down x 4) 0)) 0))) (and_mask x 4))
