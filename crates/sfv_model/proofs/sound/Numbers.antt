-- What is read as a number is one.
use Rattle.std.proofs.Common.{◌≡◌, ℕ, ◌+◌, ◌*◌, ◌-◌, ◌^◌, ◌≤◌, Bool, true, false, eqb, ℤ, List, [], ◌∷◌, ◌++◌, length}
use Rattle.std.proofs.Common.{refl, sym, ap, subst, ◌∙◌, append_assoc, arith, append-nil, eqb-true, ltb-false}
use Rattle.std.proofs.lemmas.{Bool.eqb-false, List.nil_from_length}
use Rattle.sfv_spec.specs.{Events.TreeEvent, Numbers.{AreDigits, place_value, signed, IsIntegerText, IsDecimalText}}
use Rattle.sfv_spec.specs.{Texts.RunOf, Values.{BareValue, integer, decimal}}
use Rattle.sfv_spec.proofs.Marks.{digit_zero, minus_sign, dot, is_digit, minus_text}
use Rattle.sfv_model.specs.Bare.{sign_at, long_at, decimal_at, fraction_at, point_at, whole_at, number_at}
use Rattle.sfv_model.specs.Judgements.{Sound}
use Rattle.sfv_model.proofs.sound.Combinators.{Found, Sound-give, Sound-fail, Sound-ruled, Sound-branch, Sound-ahead}
use Rattle.sfv_model.proofs.sound.Combinators.{Sound-cond, Sound-bind, Sound-back, Sound-up_to}

-- the text of a number
abbrev pub IsNumber : BareValue → List ℕ → Type 0
IsNumber (integer z) t = IsIntegerText z t
IsNumber (decimal z) t = IsDecimalText z t
IsNumber _ t = ⊥

abbrev pub thousandths : List ℕ → List ℕ → ℕ
thousandths whole fraction = place_value whole * 1000 + place_value fraction * 10 ^ (3 - length fraction)

-- after a sign and digits, and after a point and digits
abbrev Whole : Bool → List ℕ → List ℕ → List ℕ
Whole negative whole u = minus_text negative ++ (whole ++ u)

abbrev AtWhole : Bool → List ℕ → BareValue → List ℕ → Type 0
AtWhole negative whole n u = IsNumber n (Whole negative whole u)

abbrev Fraction : Bool → List ℕ → List ℕ → List ℕ → List ℕ
Fraction negative whole fraction u = Whole negative whole (dot ∷ (fraction ++ u))

integer_here : (negative : Bool) (whole : List ℕ) → AreDigits 1 15 whole
    → IsIntegerText (signed negative (place_value whole)) (Whole negative whole [])
integer_here negative whole counted = record {
  negative = negative;
  digits = whole;
  counted = counted;
  text = ap (λ (l : List ℕ). minus_text negative ++ l) (append-nil whole);
  value = refl;
}

decimal_here : (negative : Bool) (whole fraction : List ℕ) → AreDigits 1 12 whole → AreDigits 1 3 fraction
    → IsDecimalText (signed negative (thousandths whole fraction)) (Fraction negative whole fraction [])
decimal_here negative whole fraction counted counted' =
    record {
      negative = negative;
      whole = whole;
      fraction = fraction;
      counted = (counted, counted');
      text = ap (λ (l : List ℕ). Whole negative whole (dot ∷ l)) (append-nil fraction) ∙ simp append_assoc;
      value = refl;
    }

Sound-sign : (W : List ℕ → List TreeEvent → Type 0) (V : List TreeEvent → Type 0)
    → Sound sign_at (λ n s. s ≡ minus_text n) W V
unfolding sign_at
Sound-sign W V = Sound-branch _ _ _ _ _ _ (λ c e. Sound-give _ _ _ _ (ap (λ (b : ℕ). b ∷ []) (eqb-true c minus_sign e)))
    (Sound-give _ _ _ _ refl)

-- W holds of the texts of integers, and V without events; a Decimal is looked for where no Date is
module _ (dated : Bool) (W : List ℕ → List TreeEvent → Type 0) (V : List TreeEvent → Type 0) (i : (z : ℤ) (t : List ℕ)
    → IsIntegerText z t → W t []) (d : dated ≡ false → (z : ℤ) (t : List ℕ) → IsDecimalText z t
    → W t []) (v : V []) where
  Sound-long : (b : Bool) → dated ≡ b → (negative : Bool) (whole fraction : List ℕ) → AreDigits 1 12 whole
      → AreDigits 1 3 fraction → Sound (long_at b) (λ o u. Found (AtWhole negative whole) o (dot ∷ (fraction ++ u)))
      (λ u es. W (Fraction negative whole fraction u) es) V
  unfolding long_at
  Sound-long true e negative whole fraction counted counted' = Sound-ruled _ _ _ _ refl v
  Sound-long false e negative whole fraction counted counted' =
      Sound-fail _ _ _ _ [] (d e _ _ (decimal_here negative whole fraction counted counted'))

  Sound-decimal : (negative : Bool) (whole fraction : List ℕ) → AreDigits 1 12 whole
      → RunOf is_digit fraction → length fraction ≤ 3 → Sound (decimal_at dated negative whole fraction)
      (λ o u. Found (AtWhole negative whole) o (dot ∷ (fraction ++ u)))
      (λ u es. W (Fraction negative whole fraction u) es) V
  unfolding decimal_at
  Sound-decimal negative whole fraction counted each most =
      Sound-cond {b = eqb (length fraction) 0} (λ e. Sound-give _ _ _ _ tt)
      (λ e. let some : 1 ≤ length fraction = omega (arith, eqb-false _ _ e) in
      let counted' : AreDigits 1 3 fraction = (some, most, each) in
      Sound-ahead _ _ _ _ _ _ (Sound-long dated refl negative whole fraction counted counted')
      (Sound-give _ _ _ _ (decimal_here negative whole fraction counted counted')))

  Sound-fraction : (negative : Bool) (whole : List ℕ) → AreDigits 1 12 whole → Sound (fraction_at dated negative whole)
      (λ o u. Found (AtWhole negative whole) o (dot ∷ u)) (λ u es. W (Whole negative whole (dot ∷ u)) es) V
  unfolding fraction_at
  Sound-fraction negative whole counted = Sound-up_to _ _ _ _ _ _
      (λ fraction each most. Sound-decimal negative whole fraction counted each most)

  Sound-point : (negative : Bool) (whole : List ℕ) → AreDigits 1 12 whole
      → Sound (point_at dated negative whole) (AtWhole negative whole) (λ u es. W (Whole negative whole u) es) V
  unfolding point_at
  Sound-point negative whole counted = Sound-back _ _ _ _ _ refl v (Sound-branch _ _ _ _ _ _ (λ c is. subst (λ (c : ℕ).
      Sound (fraction_at dated negative whole) (λ o u. Found (AtWhole negative whole) o (c ∷ u))
      (λ u es. W (Whole negative whole (c ∷ u)) es) V) (sym (eqb-true c dot is)) (Sound-fraction _ _ counted))
      (Sound-give _ _ _ _ tt))

  Sound-whole : (negative : Bool) (whole : List ℕ) → RunOf is_digit whole → length whole ≤ 15
      → Sound (whole_at dated negative whole) (AtWhole negative whole) (λ u es. W (Whole negative whole u) es) V
  unfolding whole_at
  Sound-whole negative whole each most =
      Sound-cond (λ e. let nothing = nil_from_length whole (eqb-true _ _ e) in
      Sound-fail _ _ _ _ (digit_zero ∷ []) (rw nothing (i (signed negative 0) (Whole negative (digit_zero ∷ []) [])
      (integer_here negative (digit_zero ∷ []) (omega arith, omega arith, refl))))) (λ e. let some : 1 ≤ length whole =
      omega (arith, eqb-false _ _ e) in
      let counted : AreDigits 1 15 whole = (some, most, each) in
      let here = integer_here negative whole counted in
      Sound-ahead _ _ _ _ _ _ (Sound-fail _ _ _ _ [] (i _ _ here)) (Sound-ahead _ _ _ _ _ _
      (Sound-cond (λ _. Sound-fail _ _ _ _ [] (i _ _ here)) (λ lt. Sound-point negative whole (
        counted.0,
        ltb-false _ _ lt,
        each,
      )))
      (Sound-give _ _ _ _ here)))

  pub Sound-number : Sound (number_at dated) IsNumber W V
  unfolding number_at
  Sound-number = Sound-bind _ _ _ _ _ _ (Sound-sign _ _)
      (λ s negative e. rw e (Sound-up_to _ _ _ _ _ _ (λ whole each most. Sound-whole _ _ each most)))
