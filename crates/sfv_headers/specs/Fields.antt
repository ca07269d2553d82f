-- Structured fields of a header map.
use Rattle.std.specs.Prelude.{◌≡◌, ◌<◌, ◌⊎◌, ℕ, List, Option, Some, None, MatchOption, length}
use Rattle.http_header.specs.HeaderMap.{Entries}
use Rattle.http_header.specs.FieldValue.{FieldValue}
use Rattle.sfv.specs.Field.{Version, FieldKind, RawField, HasMember, IsParsedAs, IsParseError, NeedsMemory}
use Rattle.sfv.specs.Types.{Error}
use Rattle.sfv_headers.specs.Lines.{lines_in, text_in}

-- the map has the field, and P holds of its text
abbrev pub HasText : Entries FieldValue → List ℕ → (List ℕ → Type 0) → Type 0
HasText headers name P = (text : List ℕ) × (text_in headers name ≡ Some text) × P text

-- the field of the map parses to this value, or the map lacks it
abbrev pub IsReadIn : Version → (kind : FieldKind) → Entries FieldValue → List ℕ → Option (RawField kind) → Type 0
IsReadIn version kind headers name found = MatchOption found (text_in headers name ≡ None)
    (λ value. HasText headers name (λ text. IsParsedAs version kind text value))

-- the error of parsing the field, or out of memory
abbrev pub IsReadError : Version → FieldKind → Entries FieldValue → List ℕ → Error → Type 0
IsReadError version kind headers name error = HasText headers name (λ text. IsParseError version kind text error)

-- the error is out of memory only if the field has two lines, or a byte that may need memory
abbrev pub NeedsMemoryIn : FieldKind → Entries FieldValue → List ℕ → Error → Type 0
NeedsMemoryIn kind headers name error =
    (1 < length (lines_in headers name)) ⊎ HasText headers name (λ text. NeedsMemory kind text error)

-- The field of the map is this value: it parses to the value, or the value has no member and the map lacks the field
-- (RFC 9651, section 4.1).
abbrev pub HasValue : Version → (kind : FieldKind) → Entries FieldValue → List ℕ → RawField kind → Type 0
HasValue version kind headers name value =
    MatchOption (text_in headers name) (¬ HasMember kind value) (λ text. IsParsedAs version kind text value)
