-- The numbers of field types, versions and kinds in C.
use Rattle.std.specs.Prelude.{◌≡◌, ℕ, Option, Some, None, ◌==◌, if◌then◌else◌}
use Rattle.sfv.specs.Types.{FieldKind, item_field, list_field, dictionary_field, Version, BareItemType, ErrorKind}
use Rattle.sfv.specs.Types.error_kinds as kinds
use Rattle.sfv.specs.Types.bare_item_types as types
use Rattle.sfv.specs.Types.versions as versions

-- the field type with this number: 1 is an item, 2 a list, 3 a dictionary
abbrev pub named_field : ℕ → Option FieldKind
named_field n =
    if n == 1 then Some item_field
    else if n == 2 then Some list_field
    else if n == 3 then Some dictionary_field
    else None

-- the version with this number, the number of its RFC
abbrev pub named_version : ℕ → Option Version
named_version n =
    if n == 8941 then Some versions.Rfc8941
    else if n == 9651 then Some versions.Rfc9651
    else None

-- this holds of the field type and the version with these numbers, if there are such
abbrev pub Names : ℕ → ℕ → (FieldKind → Version → Type 0) → Type 0
Names field version P = (f : FieldKind) (v : Version) → named_field field ≡ Some f → named_version version ≡ Some v
    → P f v

-- this holds of the field type, the version to parse and the version to write with these numbers, if there are such
abbrev pub NamesThree : ℕ → ℕ → ℕ → (FieldKind → Version → Version → Type 0) → Type 0
NamesThree field reading writing P = (f : FieldKind) (r w : Version) → named_field field ≡ Some f
    → named_version reading ≡ Some r → named_version writing ≡ Some w
    → P f r w

-- the number of a kind of bare item
abbrev pub type_number : BareItemType → ℕ
type_number types.Integer = 1
type_number types.Decimal = 2
type_number types.String = 3
type_number types.Token = 4
type_number types.ByteSequence = 5
type_number types.Boolean = 6
type_number types.Date = 7
type_number types.DisplayString = 8

-- the number of a kind of error
abbrev pub kind_number : ErrorKind → ℕ
kind_number kinds.OutOfMemory = 1
kind_number kinds.OutOfRange = 2
kind_number kinds.Empty = 3
kind_number kinds.InvalidCharacter = 4
kind_number kinds.TrailingCharactersAfterMember = 5
kind_number kinds.TrailingComma = 6
kind_number kinds.TrailingCharactersAfterParsedValue = 7
kind_number kinds.ExpectedInnerListDelimiter = 8
kind_number kinds.UnterminatedInnerList = 9
kind_number kinds.ExpectedStartOfBareItem = 10
kind_number kinds.ExpectedBoolean = 11
kind_number kinds.InvalidStringCharacter = 12
kind_number kinds.UnterminatedString = 13
kind_number kinds.UnterminatedEscapeSequence = 14
kind_number kinds.InvalidEscapeSequence = 15
kind_number kinds.UnterminatedByteSequence = 16
kind_number kinds.InvalidByteSequence = 17
kind_number kinds.ExpectedDigit = 18
kind_number kinds.TooManyDigits = 19
kind_number kinds.TooManyDigitsBeforeDecimalPoint = 20
kind_number kinds.TooManyDigitsAfterDecimalPoint = 21
kind_number kinds.TrailingDecimalPoint = 22
kind_number kinds.Rfc8941Date = 23
kind_number kinds.NonIntegerDate = 24
kind_number kinds.Rfc8941DisplayString = 25
kind_number kinds.ExpectedQuote = 26
kind_number kinds.InvalidUtf8InDisplayString = 27
kind_number kinds.InvalidDisplayStringCharacter = 28
kind_number kinds.UnterminatedDisplayString = 29
kind_number kinds.ExpectedStartOfKey = 30

-- the kind of error with this number, or none
abbrev pub IsKindOf : ℕ → Option ErrorKind → Type 0
IsKindOf n (Some kind) = kind_number kind ≡ n
IsKindOf n None = (kind : ErrorKind) → ¬ (kind_number kind ≡ n)
