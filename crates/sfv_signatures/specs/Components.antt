-- What a call that writes a value or a line appends.
use Rattle.std.specs.Prelude.{◌≡◌, ◌⊎◌, ℕ, List, [], ◌++◌, codes, if◌then◌else◌, Option, Some, Result, Ok, Err, MatchResult}
use Rattle.std.specs.Prelude.{slice_get, take, string_bytes}
use Rattle.std.specs.declared.alloc.Global.{Global}
use Rattle.std.specs.declared.string.String.{String}
use Rattle.std.specs.Borrow.{Bor}
use Rattle.std.specs.Char.{is_ascii_uppercase}
use Rattle.std.specs.List.{list_any}
use Rattle.std.specs.Option.{option_map_or}
use Rattle.http_header.specs.HeaderMap.{Entries}
use Rattle.http_header.specs.FieldValue.{FieldValue}
use Rattle.http_header.specs.Token.{lowercase}
use Rattle.sfv.specs.Values.{RawItem, RawInnerList}
use Rattle.sfv_headers.specs.Lines.{lines_in}
use Rattle.sfv_signatures.specs.SignatureBase.{Message, IsChecked, component_line, Gives, BreaksFirst}
use Rattle.sfv_signatures.specs.declared.base_error.BaseErrorKind.{BaseErrorKind}
use Rattle.sfv_signatures.specs.declared.base_error.BaseErrorKind.TheVariants as kinds
use Rattle.sfv_signatures.specs.declared.base_error.BaseError.{BaseError}

-- memory ran out, or this holds of the rule
abbrev pub UnlessMemory : (BaseErrorKind → Type 0) → BaseErrorKind → Type 0
UnlessMemory P kind = (kind ≡ kinds.OutOfMemory) ⊎ P kind

-- On success, the value is appended. An error is out of memory, or the rule in place of the value, or the rule that the
-- value breaks. `Gives r`: r is the value, or the rule in its place.
abbrev pub AppendsValue : {T : Type 0} → (Result (List ℕ) BaseErrorKind → Type 0) → String Global → String Global
    → Result T BaseErrorKind → Type 0
AppendsValue Gives old new result = MatchResult result
    (λ _. (v : List ℕ) × Gives (Ok v) × (string_bytes new ≡ string_bytes old ++ v))
    (UnlessMemory (λ kind. IsChecked Gives (Err kind)))

-- the same for the checked value, over the bytes
abbrev pub AppendsChecked : {T : Type 0} → (Result (List ℕ) BaseErrorKind → Type 0) → List ℕ → List ℕ
    → Result T BaseErrorKind → Type 0
AppendsChecked Gives old new result =
    MatchResult result (λ _. (v : List ℕ) × IsChecked Gives (Ok v) × (new ≡ old ++ v))
    (UnlessMemory (λ kind. IsChecked Gives (Err kind)))

-- the line of the identifier i after the identifiers `before` is appended, with its line feed
abbrev pub HasAppended : Message → List RawItem → RawItem → List ℕ → List ℕ → Type 0
HasAppended message before i old new =
    (v : List ℕ) × Gives message before i (Ok v) × (new ≡ old ++ (component_line (i, v) ++ codes "\n"))

-- on success, the line is appended; an error is out of memory, or the rule that the identifier breaks
abbrev pub AppendsLine : {T : Type 0} → Message → List RawItem → RawItem → List ℕ → List ℕ → Result T BaseErrorKind
    → Type 0
AppendsLine message before i old new result = MatchResult result (λ _. HasAppended message before i old new)
    (UnlessMemory (λ kind. Gives message before i (Err kind)))

-- the same for the identifier at an index of an inner list
abbrev pub AppendsLineAt : {T : Type 0} → Message → RawInnerList → ℕ → List ℕ → List ℕ → Result T BaseError → Type 0
AppendsLineAt message l index old new result = MatchResult result
    (λ _. (i : RawItem) × (slice_get l.items index ≡ Some i) × HasAppended message (take index l.items) i old new)
    (λ error. UnlessMemory (λ kind. (i : RawItem) × (slice_get l.items index ≡ Some i)
    × Gives message (take index l.items) i (Err kind)) error.kind)

-- the error of a base: out of memory, or the first rule that an identifier breaks, with the identifier's index
abbrev pub IsBaseError : Message → RawInnerList → BaseError → Type 0
IsBaseError message l error = UnlessMemory (λ kind. BreaksFirst message l kind error.index) error.kind

-- the lines of a field in a section, if there is one; a name with an upper-case letter names none
abbrev pub lines_from : List ℕ → Option (Bor (Entries FieldValue)) → List (List ℕ)
lines_from name section = if list_any is_ascii_uppercase name then [] else option_map_or
    (λ fields. lines_in fields.now (lowercase name)) section []
