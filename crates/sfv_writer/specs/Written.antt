-- The text of a buffer after an append.
use Rattle.std.specs.Prelude.{◌≡◌, ℕ, Bool, false, if◌then◌else◌, List, [], ◌∷◌, ◌++◌, Result, MatchResult, codes}
use Rattle.std.specs.Prelude.{string_bytes, string_len, string_capacity, length, IsUtf8, Option, option_map, ◌≤◌, ◌<◌}
use Rattle.std.specs.Prelude.{◌+◌, OnErr}
use Rattle.std.specs.declared.alloc.Global.{Global}
use Rattle.std.specs.declared.string.String.{String}
use Rattle.sfv_spec.specs.Values.{RawField, BareValue}
use Rattle.sfv_spec.specs.declared.field_kind.FieldKind.{FieldKind}
use Rattle.sfv_spec.specs.declared.version.Version.{Version}
use Rattle.sfv_spec.specs.declared.version.Version.TheVariants.{Rfc9651}
use Rattle.sfv_spec.specs.Ordered.{ordered}
use Rattle.sfv_spec.specs.Canonical.{value_text, canonical}
use Rattle.sfv_spec.specs.Statements.{IsParsedAs, IsSerializedAs}

-- the old text is a prefix of the new one
abbrev pub Extends : List ℕ → List ℕ → Type 0
Extends old new = (more : List ℕ) × (new ≡ old ++ more)

-- on success, the text is appended; on failure, the old text is a prefix of the new one
abbrev pub Appends : {Z T E : Type 0} → String Z → String Z → List ℕ → Result T E → Type 0
Appends old new text result =
    MatchResult result (λ _. string_bytes new ≡ string_bytes old ++ text)
    (λ _. Extends (string_bytes old) (string_bytes new))

-- on success, the text is appended; on failure, the text is unchanged
abbrev pub AppendsOrKeeps : {Z T E : Type 0} → String Z → String Z → List ℕ → Result T E → Type 0
AppendsOrKeeps old new text result =
    MatchResult result (λ _. string_bytes new ≡ string_bytes old ++ text) (λ _. string_bytes new ≡ string_bytes old)

-- the buffer's capacity is too small for its text and the appended text
abbrev pub LacksRoom : {Z : Type 0} → String Z → List ℕ → Type 0
LacksRoom old text = string_capacity old < string_len old + length text

-- The capacity does not shrink, and an error comes only if the old capacity is too small for the added text.
abbrev pub AsksForRoom : {Z T E : Type 0} → String Z → String Z → List ℕ → Result T E → Type 0
AsksForRoom old new text result = (string_capacity old ≤ string_capacity new) × OnErr result (LacksRoom old text)

-- the text of a key with its value (sections 4.1.1.2 and 4.1.2)
abbrev pub keyed_text : List ℕ → BareValue → List ℕ
keyed_text key value = key ++ value_text value

-- the text of a parameter (section 4.1.1.2)
abbrev pub param_text : List ℕ → BareValue → List ℕ
param_text key value = codes ";" ++ keyed_text key value

-- the serialization of a field under RFC 9651: nothing if it has no member (section 4.1)
abbrev pub IsSerialized : (kind : FieldKind) → RawField kind → Option (String Global) → Type 0
IsSerialized kind value text = IsSerializedAs Rfc9651 kind value (option_map string_bytes text)

-- the canonical text of this field parses to its ordered value
abbrev pub IsReadBack : Version → (kind : FieldKind) → RawField kind → Type 0
IsReadBack version kind raw = IsParsedAs version kind (canonical kind raw) (ordered kind raw)

-- the text before a part: the separator, unless the part is the first
abbrev pub separator_before : Bool → List ℕ → List ℕ
separator_before is_first separator = if is_first then [] else separator

-- If the old text begins with a UTF-8 text of this length, the new text is that one. It says nothing if `len` exceeds
-- the old text.
pub record IsTruncatedTo (len : ℕ) (old new : List ℕ) : Type 0 where
  pub back : (before : List ℕ) → IsUtf8 before → len ≡ length before → Extends before old → new ≡ before

-- parts in order, each after the separator unless it is the first
abbrev pub with_separators : Bool → List ℕ → List (List ℕ) → List ℕ
with_separators is_first separator [] = []
with_separators is_first separator (t ∷ ts) =
    separator_before is_first separator ++ t ++ with_separators false separator ts

-- no part is written yet, after these parts
abbrev pub is_first_after : {A : Type 0} → Bool → List A → Bool
is_first_after is_first [] = is_first
is_first_after is_first (x ∷ xs) = false
