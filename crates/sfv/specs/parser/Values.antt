-- Parsed values as values of the definitions.
use Rattle.std.specs.Prelude.{◌≡◌, ℕ, ◌<◌, ◌^◌, List, length}
use Rattle.std.specs.declared.alloc.Global.{Global}
use Rattle.std.specs.declared.vec.Vec.{Vec}
use Rattle.std.specs.declared.borrow.CowStr.{CowStr}
use Rattle.sfv_spec.specs.Texts.{RunOf}
use Rattle.sfv_spec.proofs.Marks.{is_digit}
use Rattle.sfv_spec.specs.Numbers.{place_value}
use Rattle.sfv_spec.specs.Values.{BareValue, integer, decimal, display_string}
use Rattle.sfv_base.specs.Numbers.{integer_of, thousandths_of}
use Rattle.sfv_values.specs.CheckedTexts.{text_of}
use Rattle.std.specs.Cow.{cow_str_bytes}
use Rattle.sfv_values.specs.BareItems.{input_value}
pub use Rattle.sfv_values.specs.BareItems.{is_borrowed_string, is_borrowed_text}
use Rattle.sfv.specs.declared.parser.digits.Digits.{Digits}
use Rattle.sfv.specs.declared.parser.number.Number.{Number}
use Rattle.sfv.specs.declared.parser.number.Number.TheVariants as number
use Rattle.sfv.specs.declared.parser.item.ReadParameter.{ReadParameter}

-- `d` has the number and the value of the digits `ds`
pub record Spells (ds : List ℕ) (d : Digits) : Type 0 where
  pub each : RunOf is_digit ds
  pub count : length ds ≡ d.count
  pub value : place_value ds ≡ d.value
  pub below : d.value < 10 ^ d.count

-- the value of a parsed number
abbrev pub number_value_of : Number → BareValue
number_value_of (number.Integer z) = integer (integer_of z)
number_value_of (number.Decimal z) = decimal (thousandths_of z)

-- the bytes of a vector
abbrev pub vec_bytes : Vec ℕ Global → List ℕ
vec_bytes v = v.items

-- the value of a parsed display string
abbrev pub display_value_of : CowStr Global → BareValue
display_value_of text = display_string (cow_str_bytes text)

-- the key and the value of a parsed parameter
abbrev pub read_pair : ReadParameter → List ℕ × BareValue
read_pair p = (text_of p.key, input_value p.value)
