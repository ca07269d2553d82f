-- Definitions for an example field: a color and a flag.
use Rattle.std.specs.Prelude.{◌≡◌, ℕ, List, Bool, false, Option, Some, None, Result, Ok, Err, bytes_eq, if◌then◌else◌}
use Rattle.std.specs.Prelude.{codes}
use Rattle.sfv.specs.Values.{BareValue, token, boolean, RawMember, item, inner_list}
use Rattle.sfv.specs.Types.{dictionary_field, Version, ParseError}
use Rattle.sfv.specs.Ordered.{last_of}
use Rattle.sfv.specs.Statements.{IsParsedAs}
use Rattle.sfv.specs.Parsers.{IsParseError}
use Rattle.sfv.specs.Types.parse_errors.{Syntax, Visitor}
use Rattle.sfv_examples.specs.declared.foo.Color.{Color}
use Rattle.sfv_examples.specs.declared.foo.Color.TheVariants as colors
use Rattle.sfv_examples.specs.declared.foo.Foo.{Foo}
use Rattle.sfv_examples.specs.declared.foo.FooFault.{FooFault}
use Rattle.sfv_examples.specs.declared.foo.FooFault.TheVariants as faults

-- the printed text of an error
abbrev pub fault_text : FooFault → List ℕ
fault_text faults.ColorMissing = codes "color missing"
fault_text faults.ColorWrongType = codes "color wrong type"
fault_text faults.ColorInvalid = codes "color invalid"
fault_text faults.StrongWrongType = codes "strong wrong type"

-- the key of the member, and the key of its parameter
abbrev pub color_key : List ℕ
color_key = codes "color"

abbrev pub strong_key : List ℕ
strong_key = codes "strong"

-- the color that a token names
abbrev pub color_named : List ℕ → Result Color FooFault
color_named name =
    if bytes_eq name (codes "red") then Ok colors.Red
    else if bytes_eq name (codes "blue") then Ok colors.Blue
    else Err faults.ColorInvalid

-- the color of a bare item, which must be a token
abbrev pub color_in : BareValue → Result Color FooFault
color_in (token name) = color_named name
color_in b = Err faults.ColorWrongType

-- the flag of a Boolean
abbrev pub strong_in : BareValue → Result Bool FooFault
strong_in (boolean b) = Ok b
strong_in b = Err faults.StrongWrongType

-- the flag of the parameter, and false without it
abbrev pub strong_of : Option BareValue → Result Bool FooFault
strong_of (Some b) = strong_in b
strong_of None = Ok false

-- both, or the first error
abbrev pub foo_of : Result Color FooFault → Result Bool FooFault → Result Foo FooFault
foo_of (Err fault) strong = Err fault
foo_of (Ok color) (Err fault) = Err fault
foo_of (Ok color) (Ok strong) = Ok (record { color = color; strong = strong })

-- the field of the member, which must be an item
abbrev pub foo_in : Option RawMember → Result Foo FooFault
foo_in None = Err faults.ColorMissing
foo_in (Some (item i)) = foo_of (color_in i.bare) (strong_of (last_of strong_key i.parameters))
foo_in (Some (inner_list l)) = Err faults.ColorWrongType

-- the field of an ordered dictionary
abbrev pub foo : List (List ℕ × RawMember) → Result Foo FooFault
foo members = foo_in (last_of color_key members)

-- the text parses to a dictionary with this field, or with this error
abbrev pub IsFooOf : Version → List ℕ → Result Foo FooFault → Type 0
IsFooOf version t found = (value : List (List ℕ × RawMember)) × IsParsedAs version dictionary_field t value
    × (foo value ≡ found)

-- memory ran out, or the text is not a dictionary; or it is a dictionary with this error
abbrev pub IsFooError : Version → List ℕ → ParseError FooFault → Type 0
IsFooError version t (Syntax e) = IsParseError version dictionary_field t e
IsFooError version t (Visitor fault) = IsFooOf version t (Err fault)
