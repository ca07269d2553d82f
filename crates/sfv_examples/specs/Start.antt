use Rattle.std.specs.Prelude.{ℕ, List, Option, option_map, string_bytes}
use Rattle.std.specs.declared.alloc.Global.{Global}
use Rattle.std.specs.declared.string.String.{String}
use Rattle.sfv.specs.Field.{RawField, dictionary_field, Rfc9651, IsParsedAs, IsSerializedAs}

-- the text parses to a dictionary, and the line is its serialization
abbrev pub IsWrittenAgain : List ℕ → Option (String Global) → Type 0
IsWrittenAgain t line = (value : RawField dictionary_field) × IsParsedAs Rfc9651 dictionary_field t value
    × IsSerializedAs Rfc9651 dictionary_field value (option_map string_bytes line)
