-- The digits of a decimal.
use Rattle.std.proofs.Common.{◌≡◌, ℕ, ◌+◌, ◌<◌, ◌≤◌, ◌/◌, ◌%◌, Bool, true, false, eqb, List, [], ◌∷◌, ◌++◌, refl, ap}
use Rattle.std.proofs.Common.{subst, ◌∙◌, arith, sym, Result, ℤ, pos, negsuc, to_z, of_z, w64, MatchResult, nat_abs}
use Rattle.std.{proofs.Common.{int_lt, codes, decimal as decimal_digits}, specs.Fmt.signed_decimal}
use Rattle.std.{specs.Int.is_negative, proofs.lemmas.Fmt.{decimal_digit, decimal_step}, proofs.lemmas.Int.to_z-of_z}
use Rattle.sfv_spec.specs.Canonical.{fraction_digits, decimal_text}
use Rattle.sfv_spec.proofs.{Marks.{digit_zero, minus_text}, Written.not_negative}
use Rattle.sfv_writer.{specs.Written.Extends, proofs.Appended.{put, next, after}}

pub fraction_one : (f : ℕ) → eqb (f % 100) 0 ≡ true → fraction_digits f ≡ (digit_zero + f / 100) ∷ []
fraction_one f e = rw e refl

pub fraction_two : (f : ℕ) → eqb (f % 100) 0 ≡ false → eqb (f % 10) 0 ≡ true
    → fraction_digits f ≡ (digit_zero + f / 100) ∷ (digit_zero + f / 10 % 10) ∷ []
fraction_two f e k = rw (e, k) refl

pub fraction_three : (f : ℕ) → eqb (f % 100) 0 ≡ false → eqb (f % 10) 0 ≡ false
    → fraction_digits f ≡ (digit_zero + f / 100) ∷ (digit_zero + f / 10 % 10) ∷ (digit_zero + f % 10) ∷ []
fraction_three f e k = rw (e, k) refl

pub ruleset fraction_steps = (fraction_one, fraction_two, fraction_three)

-- the digits of a number below 100, and of one below 1000
pub two_digits : (n : ℕ) → 10 ≤ n → n < 100 → decimal_digits n ≡ (48 + n / 10) ∷ (48 + n % 10) ∷ []
two_digits n l h = rw (decimal_step n l (omega (arith, h)), decimal_digit (n / 10) (omega (arith, h))) refl

pub three_digits : (n : ℕ) → 100 ≤ n → n < 1000
    → decimal_digits n ≡ (48 + n / 100) ∷ (48 + n / 10 % 10) ∷ (48 + n % 10) ∷ []
three_digits n l h =
    let hundreds : n / 10 / 10 ≡ n / 100 = omega (arith, h) in
    rw (
      decimal_step n (omega (arith, l)) (omega (arith, h)),
      two_digits (n / 10) (omega (arith, l)) (omega (arith, h)),
      hundreds,
    ) refl

pub ruleset short_steps = (decimal_digit, two_digits, three_digits)

-- a number that fits is the same in bits
fits_same : (i : ℤ) → nat_abs i < 1000000000000000 → to_z w64 (of_z w64 i) ≡ i
fits_same (pos n) h = to_z-of_z w64 (pos n) record { sfits = omega (arith, h) }
fits_same (negsuc n) h = to_z-of_z w64 (negsuc n) record { sfits = omega (arith, h) }

pub same_number : (v i z : ℤ) → (v ≡ i) × (nat_abs i < 1000000000000000) → i ≡ z → to_z w64 (of_z w64 v) ≡ z
same_number v i z h e = ap (λ k. to_z w64 (of_z w64 k)) h.0 ∙ fits_same i h.1 ∙ e

-- a minus stands before a number below zero
pub minus_of : (v z : ℤ) (b : Bool) → v ≡ z → int_lt v (pos 0) ≡ b → minus_text (is_negative z) ≡ minus_text b
minus_of v z b e h = ap minus_text (test z b (rw e at h))
  where
    test : (z : ℤ) (b : Bool) → int_lt z (pos 0) ≡ b → is_negative z ≡ b
    test z b e = e

-- what is written in front of the digits
pub front_of : (old text sign mid new : List ℕ) → new ≡ mid → mid ≡ old ++ text → text ≡ sign → new ≡ old ++ sign
front_of old text sign mid new a b e = a ∙ put old text sign mid b e

-- a sign and digits are the text of an integer
signed_text : (z : ℤ) → minus_text (is_negative z) ++ decimal_digits (nat_abs z) ≡ signed_decimal z
signed_text (pos n) = ap (λ (b : Bool). minus_text b ++ decimal_digits n) (not_negative n)
signed_text (negsuc n) = refl

-- the digits of a number that is not below zero are its text
pub natural_text : (v z : ℤ) (m : ℕ) → v ≡ z → m ≡ nat_abs z → int_lt v (pos 0) ≡ false
    → decimal_digits m ≡ signed_decimal z
natural_text v z m same e h = ap decimal_digits e
    ∙ ap (λ (minus : List ℕ). minus ++ decimal_digits (nat_abs z)) (sym (minus_of v z false same h)) ∙ signed_text z

-- the parts of a decimal, one after another
pub decimal_parts : {T E : Type 0} (old front whole dot point new : List ℕ) (z : ℤ) (m : ℕ) (r : Result T E)
    → m ≡ nat_abs z → front ≡ old ++ minus_text (is_negative z) → whole ≡ front ++ decimal_digits (m / 1000) → dot ≡ codes "." → point ≡ whole ++ dot
    → MatchResult r (λ _. new ≡ point ++ fraction_digits (m % 1000)) (λ _. Extends point new)
    → MatchResult r (λ _. new ≡ old ++ decimal_text z) (λ _. Extends old new)
decimal_parts {T} {E} old front whole dot point new z m r e a b k c h =
    let minus : List ℕ = minus_text (is_negative z) in
    subst (λ (n : ℕ). MatchResult r (λ _. new ≡ old ++ (minus ++ decimal_digits (n / 1000) ++ codes "."
    ++ fraction_digits (n % 1000))) (λ _. Extends old new)) e (after _ _ _ _ _ _ (next _ _ _ _ _
    (next _ _ _ _ _ a b) (put _ _ _ _ c k)) h)
