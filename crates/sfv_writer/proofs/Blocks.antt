-- Vectors of bytes, of values and of symbols, lane by lane.
use Rattle.std.proofs.Common.{◌≡◌, ℕ, zero, suc, ◌+◌, ◌-◌, ◌*◌, ◌/◌, ◌%◌, ◌^◌, ◌<◌, Bool, true, cond, eqb, ltb, List}
use Rattle.std.proofs.Common.{[], ◌∷◌, ◌++◌, map, take, length, get_or, replicate, bit_and, refl, ap, ap₂, subst, ◌∙◌}
use Rattle.std.proofs.Common.{arith, inl, inr, w8, w16, Fits, ◌==◌, nat_lt, eqb-true, ltb-true, lt-ltb, length-take-le}
use Rattle.std.specs.List.{list_all, range_with_len}
use Rattle.std.proofs.lemmas.Bool.{agree_below_at, and_parts, and_from, both_ways, cases_Bool}
use Rattle.std.proofs.lemmas.List.{length-map, Folds.list_all_at, FromFn.get_or-range_with_len}
use Rattle.std.proofs.lemmas.{Nat.and_mask, Simd.{swz_l, SwzOk, SwzOk-from_below, pick_l_whole}}
use lib.Lanes.{zip2, sel_l, top, Each1, number_l, digits_l, pick_l}
use Rattle.sfv_spec.specs.Base64.{symbol, base64_text}
use Rattle.sfv_base.proofs.Masks.{half_looked_up}
use Rattle.sfv_writer.specs.Base64.{six_bits, byte_pairs, value_pairs, offset_index, AreOffsets}

-- two lists with the same first element
cons : {x y : ℕ} {xs ys : List ℕ} → x ≡ y → xs ≡ ys → x ∷ xs ≡ y ∷ ys
cons e f = ap₂ (λ a (l : List ℕ). a ∷ l) e f

-- ---- pairs of bytes

-- of each three bytes, the second, the first, the third and the second
unfoldable picked : List ℕ → List ℕ
picked [] = []
picked (a ∷ []) = []
picked (a ∷ b ∷ []) = []
picked (a ∷ b ∷ c ∷ rest) = b ∷ a ∷ c ∷ b ∷ picked rest

abbrev places : List ℕ
places = 1 ∷ 0 ∷ 2 ∷ 1 ∷ 4 ∷ 3 ∷ 5 ∷ 4 ∷ 7 ∷ 6 ∷ 8 ∷ 7 ∷ 10 ∷ 9 ∷ 11 ∷ 10 ∷ []

picks : (v : List ℕ) → length v ≡ 16 → pick_l 0 (v ++ v) places ≡ picked (take 12 v)
unfolding picked
picks v long =
    let P : List ℕ → Type 0 = λ v. pick_l 0 (v ++ v) places ≡ picked (take 12 v) in
    subst P (pick_l_whole 0 v 16 long) refl

pair_is : (x y n : ℕ) → x < 256 → y < 256
    → ((x + 256 * (y + 256 * n)) % 65536 ≡ x + 256 * y) × ((x + 256 * (y + 256 * n)) / 65536 ≡ n)
pair_is x y n lx ly = (omega arith, omega arith)

-- numbers of two bytes, from the bytes
paired : (n : ℕ) (bs : List ℕ) → length bs ≡ 3 * n → Each1 (Fits w8) bs
    → digits_l 65536 (2 * n) (number_l 256 (picked bs)) ≡ byte_pairs bs
unfolding picked byte_pairs
paired zero [] e fits = refl
paired zero (a ∷ bs) e fits = absurd (omega arith)
paired (suc n) [] e fits = absurd (omega arith)
paired (suc n) (a ∷ []) e fits = absurd (omega arith)
paired (suc n) (a ∷ b ∷ []) e fits = absurd (omega arith)
paired (suc n) (a ∷ b ∷ c ∷ rest) e fits =
    let more : ℕ = number_l 256 (picked rest) in
    let first = pair_is b a (c + 256 * (b + 256 * more)) fits.1.0.fits fits.0.fits in
    let second = pair_is c b more fits.1.1.0.fits fits.1.0.fits in
    let count : 2 * suc n ≡ suc (suc (2 * n)) = omega arith in
    rw (count, first.0, first.1, second.0, second.1) (cons refl (cons refl (paired n rest (omega arith) fits.1.1.1)))

pub front_fits : (n : ℕ) (v : List ℕ) → Each1 (Fits w8) v → Each1 (Fits w8) (take n v)
front_fits zero [] fits = tt
front_fits zero (x ∷ v) fits = tt
front_fits (suc n) [] fits = tt
front_fits (suc n) (x ∷ v) fits = (fits.0, front_fits n v fits.1)

pub pairs_are : (v : List ℕ) → length v ≡ 16 → Each1 (Fits w8) v
    → digits_l 65536 8 (number_l 256 (pick_l 0 (v ++ v) places)) ≡ byte_pairs (take 12 v)
pairs_are v long fits = ap (λ (bs : List ℕ). digits_l 65536 8 (number_l 256 bs)) (picks v long)
    ∙ paired 4 (take 12 v) (length-take-le 12 v (omega arith)) (front_fits 12 v fits)

-- ---- values

abbrev pub add16 : ℕ → ℕ → ℕ
add16 a b = (a + b) % 2 ^ 16

abbrev pub mul16 : ℕ → ℕ → ℕ
mul16 a b = a * b % 2 ^ 16

abbrev pub down : ℕ → ℕ → ℕ
down a b = a / 2 ^ b

-- how far the first and the second number are shifted down and up
abbrev pub downs : ℕ → List ℕ
downs zero = []
downs (suc n) = 10 ∷ 6 ∷ downs n

abbrev pub ups : ℕ → List ℕ
ups zero = []
ups (suc n) = 16 ∷ 256 ∷ ups n

six : (x : ℕ) → bit_and x 63 ≡ x % 64
six x = and_mask x 6

first_is : (x : ℕ) → x < 65536 → add16 (bit_and (down x 10) 63) (mul16 (bit_and (down (mul16 x 16) 8) 63) 256)
    ≡ x / 1024 % 64 + x / 16 % 64 * 256
first_is x lt = rw (six (x / 1024), six (mul16 x 16 / 256)) (omega arith)

second_is : (x : ℕ) → x < 65536 → add16 (bit_and (down x 6) 63) (mul16 (bit_and (down (mul16 x 256) 8) 63) 256)
    ≡ x / 64 % 64 + x % 64 * 256
second_is x lt = rw (six (x / 64), six (mul16 x 256 / 256)) (omega arith)

pub values_are : (n : ℕ) (ps : List ℕ) → length ps ≡ 2 * n → Each1 (Fits w16) ps
    → zip2 add16 (zip2 bit_and (zip2 down ps (downs n)) (replicate (2 * n) 63))
    (zip2 mul16 (zip2 bit_and (zip2 down (zip2 mul16 ps (ups n)) (replicate (2 * n) 8)) (replicate (2 * n) 63))
    (replicate (2 * n) 256))
    ≡ value_pairs ps
unfolding value_pairs
values_are zero [] e fits = refl
values_are zero (x ∷ ps) e fits = absurd (omega arith)
values_are (suc n) [] e fits = absurd (omega arith)
values_are (suc n) (x ∷ []) e fits = absurd (omega arith)
values_are (suc n) (x ∷ y ∷ rest) e fits =
    let count : 2 * suc n ≡ suc (suc (2 * n)) = omega arith in
    rw count (cons (first_is x fits.0.fits) (cons (second_is y fits.1.0.fits)
    (values_are n rest (omega arith) fits.1.1)))

-- the bytes of numbers
halves : (n x : ℕ) → x < 65536 → ((x + 65536 * n) % 256 ≡ x % 256) × ((x + 65536 * n) / 256 % 256 ≡ x / 256)
    × ((x + 65536 * n) / 256 / 256 ≡ n)
halves n x lt = (omega arith, omega arith, omega arith)

-- the values of bytes, by the numbers of two bytes
pub bits_are : (n : ℕ) (bs : List ℕ) → length bs ≡ 3 * n → Each1 (Fits w8) bs
    → digits_l 256 (4 * n) (number_l 65536 (value_pairs (byte_pairs bs))) ≡ six_bits bs
unfolding value_pairs byte_pairs six_bits
bits_are zero [] e fits = refl
bits_are zero (a ∷ bs) e fits = absurd (omega arith)
bits_are (suc n) [] e fits = absurd (omega arith)
bits_are (suc n) (a ∷ []) e fits = absurd (omega arith)
bits_are (suc n) (a ∷ b ∷ []) e fits = absurd (omega arith)
bits_are (suc n) (a ∷ b ∷ c ∷ rest) e fits =
    let more : ℕ = number_l 65536 (value_pairs (byte_pairs rest)) in
    let la : a < 256 = fits.0.fits in
    let lb : b < 256 = fits.1.0.fits in
    let lc : c < 256 = fits.1.1.0.fits in
    let x : ℕ = b + 256 * a in
    let y : ℕ = c + 256 * b in
    let p : ℕ = x / 1024 % 64 + x / 16 % 64 * 256 in
    let q : ℕ = y / 64 % 64 + y % 64 * 256 in
    let count : 4 * suc n ≡ suc (suc (suc (suc (4 * n)))) = omega arith in
    let h1 = halves (q + 65536 * more) p (omega arith) in
    let h2 = halves more q (omega arith) in
    let e0 : p % 256 ≡ a / 4 = omega arith in
    let e1 : p / 256 ≡ a % 4 * 16 + b / 16 = omega arith in
    let e2 : q % 256 ≡ b % 16 * 4 + c / 64 = omega arith in
    let e3 : q / 256 ≡ c % 64 = omega arith in
    rw (count, h1.0, h1.1, h1.2, h2.0, h2.1, h2.2)
    (cons e0 (cons e1 (cons e2 (cons e3 (bits_are n rest (omega arith) fits.1.1.1)))))

-- ---- symbols

abbrev pub add8 : ℕ → ℕ → ℕ
add8 a b = (a + b) % 2 ^ 8

abbrev pub sub8 : ℕ → ℕ → ℕ
sub8 a b = (a + (2 ^ 8 - b)) % 2 ^ 8

abbrev pub under : ℕ → ℕ → ℕ
under a b = cond (ltb a b) 255 0

-- the row of a value
abbrev row : ℕ → ℕ
row x = add8 (sub8 (cond (top 7 (under x 51)) 51 x) 51) (cond (top 7 (under x 26)) 13 0)

abbrev pub rows : ℕ → List ℕ → List ℕ
rows n v = zip2 add8 (zip2 sub8 (sel_l (map (top 7) (zip2 under v (replicate n 51))) (replicate n 51) v)
    (replicate n 51)) (sel_l (map (top 7) (zip2 under v (replicate n 26))) (replicate n 13) (replicate n 0))

rows_are : (n : ℕ) (v : List ℕ) → length v ≡ n → rows n v ≡ map row v
rows_are zero [] e = refl
rows_are (suc n) [] e = absurd (omega arith)
rows_are zero (x ∷ v) e = absurd (omega arith)
rows_are (suc n) (x ∷ v) e = ap (λ (l : List ℕ). row x ∷ l) (rows_are n v (omega arith))

abbrev pub is_value : ℕ → Bool
is_value v = nat_lt v 64

row_below : (x : ℕ) → x < 64 → row x < 16
row_below x lt = ltb-true _ _ (agree_below_at (λ x. ltb (row x) 16) (λ _. true) 64 x refl lt)

rows_below : (v : List ℕ) → list_all is_value v ≡ true → Each1 (λ j. j < 16) (map row v)
rows_below [] each = tt
rows_below (x ∷ v) each =
    let parts = and_parts (is_value x) (list_all is_value v) each in
    (row_below x (ltb-true x 64 parts.0), rows_below v parts.1)

pub rows_ok : (v : List ℕ) → length v ≡ 16 → list_all is_value v ≡ true → SwzOk w8 16 16 0 (rows 16 v)
rows_ok v long each = rw (rows_are 16 v long)
    (SwzOk-from_below w8 16 1 16 0 (map row v) refl (omega (arith, length-map v row)) (rows_below v each))

-- the row of a value is the index of its offset
row_is : (x : ℕ) → x < 64 → row x ≡ offset_index x
row_is x lt = eqb-true _ _ (agree_below_at (λ x. eqb (row x) (offset_index x)) (λ _. true) 64 x refl lt)

offset_at : (offsets : List ℕ) (x : ℕ) → x < 64 → AreOffsets offsets → add8 x (get_or offsets (row x) 0) ≡ symbol x
offset_at offsets x lt all =
    let test : ℕ → Bool = λ v. (v + get_or offsets (offset_index v) 0) % 256 == symbol v in
    let from_zero : 0 + x ≡ x = omega arith in
    let here : get_or (range_with_len 0 64) x 0 ≡ x = get_or-range_with_len 0 64 x 0 lt ∙ from_zero in
    elim (cases_Bool (test x)) [
      | inl y ↦ rw (row_is x lt) (eqb-true _ _ y)
      | inr n ↦
          let no = list_all_at test (range_with_len 0 64) x 0 lt (rw here n) in
          absurd (both_ways _ no all)
    ]

moved : (offsets v : List ℕ) → list_all is_value v ≡ true → AreOffsets offsets
    → zip2 add8 v (map (λ j. get_or offsets j 0) (map row v)) ≡ map symbol v
moved offsets [] each all = refl
moved offsets (x ∷ v) each all =
    let parts = and_parts (is_value x) (list_all is_value v) each in
    cons (offset_at offsets x (ltb-true x 64 parts.0) all) (moved offsets v parts.1 all)

pub symbols_are : (offsets v : List ℕ) → length v ≡ 16 → list_all is_value v ≡ true → AreOffsets offsets
    → zip2 add8 v (swz_l w8 16 offsets 0 (rows 16 v)) ≡ map symbol v
symbols_are offsets v long each all = ap (λ (js : List ℕ). zip2 add8 v (swz_l w8 16 offsets 0 js)) (rows_are _ _ long)
    ∙ ap (zip2 add8 v) (half_looked_up _ _ (length-map v row ∙ long) (rows_below _ each)) ∙ moved _ _ each all

-- ---- the text of a block

pub all_fit : (bs : List ℕ) → ((i : ℕ) → get_or bs i 0 < 256) → Each1 (Fits w8) bs
all_fit [] below = tt
all_fit (b ∷ bs) below = (record { fits = below 0 }, all_fit bs (λ i. below (suc i)))

pub bits_within : (bs : List ℕ) → Each1 (Fits w8) bs → list_all is_value (six_bits bs) ≡ true
unfolding six_bits
bits_within [] fits = refl
bits_within (a ∷ []) fits = refl
bits_within (a ∷ b ∷ []) fits = refl
bits_within (a ∷ b ∷ c ∷ rest) fits =
    let la : a < 256 = fits.0.fits in
    let lb : b < 256 = fits.1.0.fits in
    let lc : c < 256 = fits.1.1.0.fits in
    and_from _ _ (lt-ltb (a / 4) 64 (omega arith)) (and_from _ _ (lt-ltb (a % 4 * 16 + b / 16) 64 (omega arith))
    (and_from _ _ (lt-ltb (b % 16 * 4 + c / 64) 64 (omega arith)) (and_from _ _ (lt-ltb (c % 64) 64 (omega arith))
    (bits_within rest fits.1.1.1))))

pub text_of_bits : (bs : List ℕ) → length bs % 3 ≡ 0 → map symbol (six_bits bs) ≡ base64_text bs
unfolding six_bits base64_text
text_of_bits [] n = refl
text_of_bits (a ∷ []) n = absurd (omega (arith, n))
text_of_bits (a ∷ b ∷ []) n = absurd (omega (arith, n))
text_of_bits (a ∷ b ∷ c ∷ rest) n =
    let m : length rest % 3 ≡ 0 = omega (arith, n) in
    cons refl (cons refl (cons refl (cons refl (text_of_bits rest m))))
