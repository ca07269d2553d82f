-- The integer of a dictionary member.
use Rattle.std.specs.Prelude.{◌≡◌, ℕ, ℤ, List, Option, Some, None}
use Rattle.sfv_readers.specs.Field.{Version, dictionary_field, RawMember, item, IsParsedAs, last_of}
use Rattle.sfv_examples.specs.Rows.{integer_in}

-- the integer of a member that is an Integer
abbrev pub member_integer : Option RawMember → Option ℤ
member_integer (Some (item i)) = integer_in i.bare
member_integer m = None

-- the text parses to a dictionary, and this is the integer of its member with this key
abbrev pub IsIntegerOf : Version → List ℕ → List ℕ → Option ℤ → Type 0
IsIntegerOf version t key found = (value : List (List ℕ × RawMember)) × IsParsedAs version dictionary_field t value
    × (found ≡ member_integer (last_of key value))
