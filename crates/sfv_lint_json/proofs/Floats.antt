-- A number of thousandths as a float.
use Rattle.std.proofs.Common.{◌≡◌, ℤ, pos, refl, rules, option_map, unwrap_or, w64, SFits, to_z, of_z}
use Rattle.std.{specs.Float.binary64, specs.Float.Ieee.{of_int, of_bits, div}, proofs.lemmas.Int.to_z-of_z}
use Rattle.serde_json.specs.{Data.Data, Find.of_float}
use Rattle.sfv.specs.Values.{IsInRange}
use Rattle.sfv_lint_json.specs.Json.{decimal_json}
use Rattle.serde_json.specs.Data as json

fits : (t : ℤ) → IsInRange t → SFits w64 t
fits t h = search rules

thousand : of_bits binary64 4652007308841189376 ≡ of_int binary64 (pos 1000)
unfolding of_bits of_int
thousand = refl

-- the value of the quotient by 1000
pub quotient : (t z : ℤ) (value : Data) → IsInRange t → t ≡ z
    → value ≡ unwrap_or (option_map json.number (of_float (div binary64 (of_int binary64 (to_z w64 (of_z w64 t)))
    (of_bits binary64 4652007308841189376)))) json.null
    → value ≡ decimal_json z
quotient t z value range same is = rw (← same) (rw (to_z-of_z w64 t (fits t range), thousand) at is)
