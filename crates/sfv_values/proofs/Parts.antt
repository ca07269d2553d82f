-- What an accessor says of the variant, it says of the value, whatever type owns the texts.
use Rattle.std.proofs.Common.{◌≡◌, ℕ, List, Bool, Bor, refl, ap, Option, Some, None}
use Rattle.sfv_base.specs.Numbers.{integer_of, thousandths_of, seconds_of}
use Rattle.sfv_base.specs.declared.{date.Date.Date, decimal.Decimal.Decimal, integer.Integer.Integer}
use Rattle.sfv_values.specs.{BareItems.{GivesPart, value_by}, declared.bare.GenericBareItem.GenericBareItem}
use Rattle.sfv_spec.specs.Values as values
use Rattle.sfv_values.specs.declared.bare.GenericBareItem.TheVariants as code

module _ {S B T D : Type 0} (s : S → List ℕ) (b : B → List ℕ) (t : T → List ℕ) (d : D → List ℕ) where
  other_than_decimal : (item : GenericBareItem S B T D) → ((x : Decimal) → ¬ (item ≡ code.Decimal x)) → (z : _)
      → ¬ (value_by s b t d item ≡ values.decimal z)
  other_than_decimal (code.Decimal x) h z e = h x refl
  other_than_decimal item h z e = absurd (cc)

  pub decimal_part : (item : GenericBareItem S B T D) (r : Option Decimal) → GivesPart code.Decimal (λ z. z) item r
      → GivesPart values.decimal thousandths_of (value_by s b t d item) r
  decimal_part item (Some x) h = ap (value_by s b t d) h
  decimal_part item None h = other_than_decimal item h

  other_than_integer : (item : GenericBareItem S B T D) → ((x : Integer) → ¬ (item ≡ code.Integer x)) → (z : _)
      → ¬ (value_by s b t d item ≡ values.integer z)
  other_than_integer (code.Integer x) h z e = h x refl
  other_than_integer item h z e = absurd (cc)

  pub integer_part : (item : GenericBareItem S B T D) (r : Option Integer) → GivesPart code.Integer (λ z. z) item r
      → GivesPart values.integer integer_of (value_by s b t d item) r
  integer_part item (Some x) h = ap (value_by s b t d) h
  integer_part item None h = other_than_integer item h

  other_than_boolean : (item : GenericBareItem S B T D) → ((x : Bool) → ¬ (item ≡ code.Boolean x)) → (z : _)
      → ¬ (value_by s b t d item ≡ values.boolean z)
  other_than_boolean (code.Boolean x) h z e = h x refl
  other_than_boolean item h z e = absurd (cc)

  pub boolean_part : (item : GenericBareItem S B T D) (r : Option Bool) → GivesPart code.Boolean (λ z. z) item r
      → GivesPart values.boolean (λ z. z) (value_by s b t d item) r
  boolean_part item (Some x) h = ap (value_by s b t d) h
  boolean_part item None h = other_than_boolean item h

  other_than_date : (item : GenericBareItem S B T D) → ((x : Date) → ¬ (item ≡ code.Date x)) → (z : _)
      → ¬ (value_by s b t d item ≡ values.date z)
  other_than_date (code.Date x) h z e = h x refl
  other_than_date item h z e = absurd (cc)

  pub date_part : (item : GenericBareItem S B T D) (r : Option Date) → GivesPart code.Date (λ z. z) item r
      → GivesPart values.date seconds_of (value_by s b t d item) r
  date_part item (Some x) h = ap (value_by s b t d) h
  date_part item None h = other_than_date item h

  other_than_display_string : (item : GenericBareItem S B T D) → ((x : D) → ¬ (item ≡ code.DisplayString x)) → (z : _)
      → ¬ (value_by s b t d item ≡ values.display_string z)
  other_than_display_string (code.DisplayString x) h z e = h x refl
  other_than_display_string item h z e = absurd (cc)

  pub display_string_part : (item : GenericBareItem S B T D) (r : Option (Bor D)) → GivesPart code.DisplayString (λ text. text.now) item r
      → GivesPart values.display_string (λ text. d text.now) (value_by s b t d item) r
  display_string_part item (Some x) h = ap (value_by s b t d) h
  display_string_part item None h = other_than_display_string item h
