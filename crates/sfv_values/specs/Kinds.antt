-- The kinds of bare items, and their names.
use Rattle.std.specs.Prelude.{ℕ, List, codes}
use Rattle.sfv_spec.specs.Values.{BareValue}
use Rattle.sfv_spec.specs.Values as values
use Rattle.sfv_values.specs.declared.bare.BareItemType.{BareItemType}
use Rattle.sfv_values.specs.declared.bare.BareItemType.TheVariants as kinds

-- the printed text of a kind of bare item
abbrev pub kind_text : BareItemType → List ℕ
kind_text kinds.Decimal = codes "decimal"
kind_text kinds.Integer = codes "integer"
kind_text kinds.String = codes "string"
kind_text kinds.ByteSequence = codes "byte sequence"
kind_text kinds.Boolean = codes "boolean"
kind_text kinds.Token = codes "token"
kind_text kinds.Date = codes "date"
kind_text kinds.DisplayString = codes "display string"

-- the kind of a bare value
abbrev pub kind_of_value : BareValue → BareItemType
kind_of_value (values.decimal z) = kinds.Decimal
kind_of_value (values.integer z) = kinds.Integer
kind_of_value (values.string s) = kinds.String
kind_of_value (values.byte_sequence b) = kinds.ByteSequence
kind_of_value (values.boolean b) = kinds.Boolean
kind_of_value (values.token t) = kinds.Token
kind_of_value (values.date z) = kinds.Date
kind_of_value (values.display_string d) = kinds.DisplayString
