-- The field CDN-Cache-Control (RFC 9213, section 2.1), a dictionary.
use Rattle.std.specs.Prelude.{◌≡◌, ℕ, ℤ, List, Option, Some, None, codes}
use Rattle.sfv_readers.specs.Field.{Version, dictionary_field, BareValue, integer, RawMember, item, last_of, IsParsedAs}

-- the integer of a bare item, if it has this kind
abbrev pub integer_in : BareValue → Option ℤ
integer_in (integer z) = Some z
integer_in b = None

abbrev pub age_of : Option RawMember → Option ℤ
age_of (Some (item i)) = integer_in i.bare
age_of m = None

-- the text parses to a dictionary with this member `max-age`
abbrev pub IsMaxAgeOf : Version → List ℕ → Option ℤ → Type 0
IsMaxAgeOf version t found = (value : List (List ℕ × RawMember)) × IsParsedAs version dictionary_field t value
    × (found ≡ age_of (last_of (codes "max-age") value))
