-- A text of a number is read, as that number.
use Rattle.std.proofs.Common.{◌≡◌, ℕ, ◌<◌, ◌≤◌, Bool, true, false, eqb, leb, ◌||◌, ℤ, List, [], ◌∷◌, ◌++◌, length, Some}
use Rattle.std.proofs.Common.{Ok, refl, sym, ap, ◌∙◌, append_assoc, arith, leb-true, ne_eqb, le-ltb}
use Rattle.std.proofs.lemmas.Bool.{and_parts, or_parts}
use Rattle.sfv_spec.specs.Numbers.{AreDigits, signed, IsIntegerText, IsDecimalText}
use Rattle.sfv_spec.specs.{Texts.RunOf, Values.{integer, decimal}}
use Rattle.sfv_spec.proofs.Marks.{digit_zero, digit_nine, minus_sign, dot, is_digit, minus_text}
use Rattle.sfv_model.specs.Bare.{sign_at, decimal_at, fraction_at, point_at, whole_at, number_at}
use Rattle.sfv_model.specs.Reader.{Apart, byte, give}
use Rattle.sfv_model.proofs.complete.Combinators.{Apart-cons, branch_past, branch_take, ahead_past, ahead_take}
use Rattle.sfv_model.proofs.complete.Combinators.{bind_complete, back_complete, up_to_taken, up_to_complete}
use Rattle.sfv_model.proofs.sound.Numbers.{thousandths}

-- ---- a number is read again

pub digit_within : (b : ℕ) → is_digit b ≡ true → (digit_zero ≤ b) × (b ≤ digit_nine)
digit_within b e = let h = and_parts (leb digit_zero b) (leb b digit_nine) e in
    (leb-true digit_zero b h.0, leb-true b digit_nine h.1)

-- neither a digit nor a point, which would go on
abbrev pub goes_on : ℕ → Bool
goes_on b = is_digit b || eqb b dot

pub digit_apart : (q : List ℕ) → Apart goes_on q → Apart is_digit q
digit_apart q h = record { apart = λ c e. (or_parts (is_digit c) (eqb c dot) (h.apart c e)).0 }

point_apart : (q : List ℕ) → Apart goes_on q → Apart (byte dot) q
point_apart q h = record { apart = λ c e. (or_parts (is_digit c) (eqb c dot) (h.apart c e)).1 }

pub minus_apart : (ds q : List ℕ) → AreDigits 1 15 ds → Apart (byte minus_sign) (ds ++ q)
minus_apart [] q counted = absurd (omega (arith, counted.0))
minus_apart (d ∷ ds) q counted = Apart-cons (byte minus_sign) d (ds ++ q)
    (ne_eqb d minus_sign (λ e. omega (arith, digit_within d (and_parts (is_digit d) _ counted.2).0)))

sign_complete : (negative : Bool) (q : List ℕ) → (negative ≡ false → Apart (byte minus_sign) q)
    → sign_at (minus_text negative ++ q) ≡ Ok (negative, q)
unfolding sign_at give
sign_complete true q h = branch_take (byte minus_sign) (λ _. give true) (give false) minus_sign q refl
sign_complete false q h = branch_past (byte minus_sign) (λ _. give true) (give false) q (h refl)

-- the sign and the first digits
pub start_read : (dated negative : Bool) (whole q : List ℕ) → RunOf is_digit whole → length whole ≤ 15
    → (length whole < 15 → Apart is_digit q) → (negative ≡ false → Apart (byte minus_sign) (whole ++ q))
    → number_at dated (minus_text negative ++ (whole ++ q)) ≡ whole_at dated negative whole q
unfolding number_at
start_read dated negative whole q each most ends plain = bind_complete _ _ _ _ _ (sign_complete _ _ plain)
    ∙ bind_complete _ _ _ _ _ (up_to_taken _ _ _ _ each most ends)

-- the sign and the whole part
pub start_complete : (dated negative : Bool) (whole q : List ℕ) → AreDigits 1 15 whole → Apart is_digit q
    → number_at dated (minus_text negative ++ (whole ++ q)) ≡ whole_at dated negative whole q
start_complete dated negative whole q counted h =
    start_read dated negative whole q counted.2 counted.1 (λ _. h) (λ _. minus_apart whole q counted)

pub some_eqb : (n : ℕ) → 1 ≤ n → eqb n 0 ≡ false
some_eqb n h = ne_eqb n 0 (λ e. omega arith)

pub integer_complete : (dated : Bool) (t q : List ℕ) (z : ℤ) → IsIntegerText z t → Apart goes_on q
    → number_at dated (t ++ q) ≡ Ok (integer z, q)
unfolding whole_at give
integer_complete dated t q z i h = ap (λ (l : List ℕ). number_at dated (l ++ q)) i.text ∙ ap (number_at dated)
    (append_assoc (minus_text i.negative) i.digits q) ∙ start_complete _ _ _ _ i.counted (digit_apart _ h) ∙ rw
    (some_eqb (length i.digits) i.counted.0) (ahead_past _ _ _ _ (digit_apart _ h) ∙ ahead_past _ _ _ _
    (point_apart _ h) ∙ ap (λ (z : ℤ). Ok (integer z, q)) (sym i.value))

fraction_complete : (dated negative : Bool) (whole fraction q : List ℕ) → AreDigits 1 3 fraction → Apart is_digit q
    → fraction_at dated negative whole (fraction ++ q)
    ≡ Ok (Some (decimal (signed negative (thousandths whole fraction))), q)
unfolding fraction_at decimal_at give
fraction_complete dated negative whole fraction q counted h = bind_complete _ _ _ _ _
    (up_to_complete _ _ _ _ counted.2 counted.1 h) ∙ rw (some_eqb (length fraction) counted.0) (ahead_past _ _ _ _ h)

pub decimal_complete : (dated : Bool) (t q : List ℕ) (z : ℤ) → IsDecimalText z t → Apart is_digit q
    → number_at dated (t ++ q) ≡ Ok (decimal z, q)
unfolding whole_at point_at
decimal_complete dated t q z i h =
    let all : t ++ q ≡ minus_text i.negative ++ (i.whole ++ dot ∷ (i.fraction ++ q)) =
    ap (λ (l : List ℕ). l ++ q) i.text ∙ simp append_assoc in
    let counted : AreDigits 1 15 i.whole = (i.counted.0.0, omega (arith, i.counted.0.1), i.counted.0.2) in
    let point : Apart is_digit (dot ∷ (i.fraction ++ q)) = Apart-cons _ _ _ refl in
    ap (number_at dated) all ∙ start_complete _ _ _ _ counted point ∙ rw (some_eqb (length i.whole) counted.0)
    (ahead_past _ _ _ _ point ∙ ahead_take _ _ _ _ _ refl ∙ rw (le-ltb 12 (length i.whole) i.counted.0.1)
    (back_complete _ _ _ _ _ (branch_take _ _ _ _ _ refl ∙ fraction_complete _ _ _ _ _ i.counted.1 h) ∙ ap
    (λ (z : ℤ). Ok (decimal z, q)) (sym i.value)))
