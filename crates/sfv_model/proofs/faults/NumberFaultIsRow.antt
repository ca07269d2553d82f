-- A fault of a number or a Date is a row of the table of faults.
use Rattle.std.proofs.Common.{◌≡◌, ℕ, ◌-◌, Bool, true, false, List, [], ◌∷◌, ◌++◌, length, Ok, Err, refl, sym, ap, ◌∙◌}
use Rattle.std.{proofs.Common.{append_assoc, arith, inl, inr, ◌⊎◌, true≢false}, specs.Prelude.⊤}
use Rattle.std.proofs.lemmas.Bool.{both_ways, Decides.nat_tests}
use Rattle.sfv_spec.specs.Classes.{is_one_of}
use Rattle.sfv_spec.specs.Faults.{RuledFault, point, decimal_date, long_decimal_date, bare, BareItemFault, old_date}
use Rattle.sfv_spec.specs.{Faults.{no_digit, no_number, long_integer, late_point, long_decimal}, Texts.begins_with}
use Rattle.sfv_spec.{specs.Values.BareValue, proofs.Marks.{minus_sign, dot, at_sign, is_digit, at_text, WantsBetween}}
use Rattle.sfv_model.specs.Bare.{number_at, as_date, date_at, is_number_start}
use Rattle.sfv_model.specs.Reader.{Fault, Answer, byte, give, fail, and_then, bind, branch, back, at_start}
use Rattle.sfv_model.proofs.Types.{FieldKind, Version, Rfc8941, Rfc9651, NonIntegerDate, ExpectedStartOfBareItem}
use Rattle.sfv_model.proofs.faults.NumberShapes.{NumberShape, no_digits, sixteen_digits, point_too_late, no_fraction}
use Rattle.sfv_model.proofs.faults.NumberShapes.{long_fraction, a_decimal, an_integer, number_shape, shape_read}
use Rattle.sfv_model.proofs.faults.NumberShapes.{begins_neither}

-- what the table says of a fault of the bare item that s begins with
abbrev pub HasRow : Version → List ℕ → Fault → Type 0
HasRow version s e = ((e.exact ≡ true) × (((e.kind ≡ ExpectedStartOfBareItem) × (e.rest ≡ s))
    ⊎ BareItemFault version s e.rest e.kind)) ⊎ ((e.exact ≡ false) × ((kind : FieldKind) (whole before : List ℕ)
    → WantsBetween version kind whole before s → RuledFault version kind whole e.kind (length whole - length e.rest)))

-- each fault of the answer is one of these
abbrev pub HasRows : {A : Type 0} → Version → List ℕ → Answer A → Type 0
HasRows version s (Ok x) = ⊤
HasRows version s (Err e) = HasRow version s e

-- ---- one byte of a text

pub one_of : (n c : ℕ) → is_one_of (n ∷ []) c ≡ byte n c
one_of n c = grind (arith, nat_tests)

-- ---- numbers

pub number_row : (version : Version) (dated : Bool) → (dated ≡ true → version ≡ Rfc9651) → (t : List ℕ)
    → (dated ≡ false → begins_with is_number_start t ≡ true) → (a : Answer BareValue) → NumberShape dated t a
    → HasRows version (at_text dated ++ t) a
number_row version dated known t start _ (no_digits true q text n plain) =
    inl (refl, inr (no_digit dated known (rw text (simp append_assoc)) n))
number_row version true known t start _ (no_digits false q text n plain) =
    inl (
      refl,
      inr (no_number (known refl) (ap (λ (l : List ℕ). at_sign ∷ l) text)
          (begins_neither is_digit (byte minus_sign) q n (plain refl))),
    )
number_row version false known t start _ (no_digits false q text n plain) =
    absurd (both_ways (begins_with is_number_start q) (begins_neither is_digit (byte minus_sign) q n (plain refl))
    (ap (begins_with is_number_start) (sym text) ∙ start refl))
number_row version dated known t start _ (sixteen_digits negative whole q text counted h) =
    inl (refl, inr (long_integer _ whole (dated, negative, known, refl) counted (rw text (simp append_assoc)) h))
number_row version dated known t start _ (point_too_late negative whole q text counted h) =
    inl (refl, inr (late_point _ whole (dated, negative, known, refl) counted (rw text (simp append_assoc)) h))
number_row version dated known t start _ (no_fraction negative whole q text counted h) = inr (
  refl,
  λ kind w before place. bare before (at_text dated ++ t) (dot ∷ q) place.text place.wanted
      (point _ whole q (dated, negative, known, refl) counted (rw text (simp append_assoc)) refl h),
)
number_row version false known t start _ (long_fraction negative whole fraction q text counted three h) =
    inl (refl, inr (long_decimal negative whole fraction counted three (text ∙ simp append_assoc) h))
number_row version true known t start _ (long_fraction negative whole fraction q text counted three h) = inr (
  refl,
  λ kind w before place. bare before (at_sign ∷ t) q place.text place.wanted (long_decimal_date negative whole fraction (known refl)
      counted three (rw text (simp append_assoc)) h),
)
number_row version dated known t start _ _ = tt

-- ---- Dates

dated_row : (t : List ℕ) (a : Answer BareValue) → NumberShape true t a → HasRows Rfc9651 (at_sign ∷ t)
    (at_start NonIntegerDate (at_sign ∷ t) (and_then a (λ v. give (as_date v))))
unfolding give
dated_row t (Err x) h = number_row Rfc9651 true (λ _. refl) t (λ f. absurd (true≢false f)) (Err x) h
dated_row t _ (a_decimal z number q means text h) = inr (
  refl,
  λ kind w before place. bare before (at_sign ∷ t) (at_sign ∷ t) place.text place.wanted
      (decimal_date z number q refl means (ap (λ (l : List ℕ). at_sign ∷ l) text) refl h),
)
dated_row t _ (an_integer z number q means text h) = tt

-- what is read at the sign
pub date_read : (t : List ℕ) → date_at Rfc9651 (at_sign ∷ t)
    ≡ at_start NonIntegerDate (at_sign ∷ t) (and_then (number_at true t) (λ v. give (as_date v)))
unfolding date_at branch back bind
date_read t = refl

pub date_row : (version : Version) (t : List ℕ) → HasRows version (at_sign ∷ t) (date_at version (at_sign ∷ t))
unfolding date_at branch back bind fail
date_row Rfc8941 t = inl (refl, inr (old_date t refl refl refl))
date_row Rfc9651 t = let n = number_shape true t in rw (shape_read true t n.0 n.1) (dated_row t n.0 n.1)
