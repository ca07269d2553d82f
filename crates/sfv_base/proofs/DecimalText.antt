-- The digits of a fraction, each printed as a number.
use Rattle.std.proofs.Common.{◌≡◌, ℕ, ◌+◌, ◌/◌, ◌%◌, ◌<◌, ◌≢◌, List, [], ◌∷◌, ◌++◌, arith, ℤ, nat_abs, decimal}
use Rattle.std.{specs.Int.is_negative, proofs.lemmas.Fmt.decimal_digit, proofs.lemmas.Grind.common_steps}
use Rattle.sfv_spec.{specs.Canonical.{decimal_text, fraction_digits}, proofs.Marks.{digit_zero, minus_text}}

tenth : (f : ℕ) → f < 1000 → decimal (f / 100) ≡ (digit_zero + f / 100) ∷ []
tenth f h = decimal_digit (f / 100) (omega arith)

hundredth : (f : ℕ) → decimal (f / 10 % 10) ≡ (digit_zero + f / 10 % 10) ∷ []
hundredth f = decimal_digit (f / 10 % 10) (omega arith)

thousandth : (f : ℕ) → decimal (f % 10) ≡ (digit_zero + f % 10) ∷ []
thousandth f = decimal_digit (f % 10) (omega arith)

pub fraction-one : (f : ℕ) → f < 1000 → f % 100 ≡ 0 → decimal (f / 100) ≡ fraction_digits f
fraction-one f h e = grind (arith, common_steps, tenth f h)

pub fraction-two : (f : ℕ) → f < 1000 → f % 100 ≢ 0 → f % 10 ≡ 0
    → decimal (f / 100) ++ decimal (f / 10 % 10) ≡ fraction_digits f
fraction-two f h n e = grind (arith, common_steps, tenth f h, hundredth f)

pub fraction-three : (f : ℕ) → f < 1000 → f % 100 ≢ 0 → f % 10 ≢ 0
    → decimal (f / 100) ++ (decimal (f / 10 % 10) ++ decimal (f % 10)) ≡ fraction_digits f
fraction-three f h n e = grind (arith, common_steps, tenth f h, hundredth f, thousandth f)

-- what is written is the text of the decimal
pub written-text : (z : ℤ) (sign digits : List ℕ) (m : ℕ) → sign ≡ minus_text (is_negative z) → m ≡ nat_abs z
    → digits ≡ fraction_digits (m % 1000) → sign ++ (decimal (m / 1000) ++ 46 ∷ digits) ≡ decimal_text z
written-text z sign digits m s n d = grind (arith, common_steps)
