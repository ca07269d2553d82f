-- The components of an HTTP message (RFC 9421, sections 2.1 to 2.4).
use Rattle.std.specs.Prelude.{◌≡◌, ◌⊎◌, ℕ, List, [], ◌∷◌, map, Bool, true, false, not, ◌==◌, ◌||◌, ◌&&◌, ◌-◌, if◌then◌else◌}
use Rattle.std.specs.Prelude.{codes, bytes_eq, Option, Some, None, is_some, option_map, MatchOption, Result, Ok, Err}
use Rattle.std.specs.Prelude.{option_and_then, ok_or, take, drop, length, slice_get}
use Rattle.std.specs.Char.{is_ascii_uppercase}
use Rattle.std.specs.List.{list_any, find, filter_map, prefix_len, suffix_len}
use Rattle.std.specs.Option.{option_or, option_map_or}
use Rattle.std.specs.Borrow.{Bor}
use Rattle.sfv.specs.Ascii.{byte}
use Rattle.sfv.specs.Texts.{joined}
use Rattle.sfv.specs.Types.{FieldKind, dictionary_field, Rfc9651}
use Rattle.sfv.specs.Values.{BareValue, string, byte_sequence, boolean, RawParameters, RawMember, RawField}
use Rattle.sfv.specs.Grammar.{IsAccepted}
use Rattle.sfv.specs.Ordered.{last_of}
use Rattle.sfv.specs.Canonical.{canonical, bare_text, member_text}
use Rattle.sfv.specs.Statements.{IsParsedAs}
use Rattle.http_header.specs.HeaderMap.{Entries}
use Rattle.http_header.specs.FieldValue.{FieldValue}
use Rattle.http_header.specs.Token.{lowercase}
use Rattle.sfv_headers.specs.Lines.{lines_in}
use Rattle.sfv_signatures.specs.declared.base_error.BaseErrorKind.{BaseErrorKind}
use Rattle.sfv_signatures.specs.declared.base_error.BaseErrorKind.TheVariants as kinds
use Rattle.sfv_signatures.specs.declared.http_message.MessagePart.{MessagePart}
use Rattle.sfv_signatures.specs.declared.http_message.HttpMessage.{HttpMessage}

-- ---- names and parameters

-- there is a parameter with this key
abbrev pub has : List ℕ → RawParameters → Bool
has key ps = is_some (last_of key ps)

-- the content of a string, or none for another type
abbrev pub string_of : BareValue → Option (List ℕ)
string_of (string s) = Some s
string_of value = None

-- the string of the parameter with this key
abbrev pub string_param : List ℕ → RawParameters → Option (List ℕ)
string_param key ps = option_and_then string_of (last_of key ps)

-- the name of a derived component begins with `@`, and any other name is the name of a field
abbrev pub is_derived : List ℕ → Bool
is_derived name = option_map_or (λ c. c == byte "@") (slice_get name 0) false

-- the derived components (section 2.2)
abbrev pub derived_names : List (List ℕ)
derived_names = codes "@method" ∷ codes "@target-uri" ∷ codes "@authority" ∷ codes "@scheme" ∷ codes "@request-target"
    ∷ codes "@path" ∷ codes "@query" ∷ codes "@query-param" ∷ codes "@status" ∷ []

-- the parameters of a component with this name (sections 2.1, 2.2.8 and 2.4)
abbrev pub keys_of : List ℕ → List (List ℕ)
keys_of name = codes "req" ∷ (if bytes_eq name (codes "@query-param") then codes "name" ∷ []
    else if is_derived name then [] else codes "sf" ∷ codes "key" ∷ codes "bs" ∷ codes "tr" ∷ [])

-- the value has its type: a string, or the flag true
abbrev pub has_type : (is_string : Bool) → BareValue → Bool
has_type true (string s) = true
has_type false (boolean b) = b
has_type is_string value = false

-- the rule that a parameter of the component breaks: `key` and `name` are strings, and the others are flags
abbrev pub param_fault : List ℕ → List ℕ × BareValue → Option BaseErrorKind
param_fault name p = if not (list_any (bytes_eq p.0) (keys_of name)) then Some kinds.UnknownParameter
    else if has_type (bytes_eq p.0 (codes "key") || bytes_eq p.0 (codes "name")) p.1 then None else Some kinds.WrongType

-- the rule that the name breaks, or the first parameter; `bs` excludes `sf` and `key` (section 2.1)
abbrev pub fault_of : List ℕ → RawParameters → Option BaseErrorKind
fault_of name ps = if is_derived name && not (list_any (bytes_eq name) derived_names) then Some kinds.UnknownComponent
    else option_or (slice_get (filter_map (param_fault name) ps) 0)
    (if has (codes "bs") ps && (has (codes "sf") ps || has (codes "key") ps) then Some kinds.Conflict else None)

-- ---- fields

-- c is a space or a tab
abbrev pub is_blank : ℕ → Bool
is_blank c = c == byte " " || c == byte "\t"

-- the text without the spaces and tabs at its start, or at its end
abbrev pub without_start : List ℕ → List ℕ
without_start t = drop (prefix_len is_blank t) t

abbrev pub without_end : List ℕ → List ℕ
without_end t = take (length t - suffix_len is_blank t) t

-- the lines of a field, each without the spaces and tabs at its ends, joined by a comma and a space (section 2.1)
abbrev pub plain_text : List (List ℕ) → List ℕ
plain_text lines = joined (codes ", ") (map (λ line. without_end (without_start line)) lines)

-- each such line as a byte sequence, joined by a comma and a space (section 2.1.3)
abbrev pub byte_text : List (List ℕ) → List ℕ
byte_text lines = joined (codes ", ") (map (λ line. bare_text (byte_sequence (without_end (without_start line)))) lines)

-- the canonical text of the member with this key (section 2.1.2)
abbrev pub member_of : List ℕ → List (List ℕ × RawMember) → Result (List ℕ) BaseErrorKind
member_of key members = ok_or (option_map member_text (last_of key members)) kinds.NoMember

-- r is what `write` gives for the field with this text, or the rule that the text does not parse
abbrev pub ParsedGives : (kind : FieldKind) → (RawField kind → Result (List ℕ) BaseErrorKind) → List ℕ
    → Result (List ℕ) BaseErrorKind → Type 0
ParsedGives kind write t r = ((value : RawField kind) × IsParsedAs Rfc9651 kind t value × (r ≡ write value))
    ⊎ ((¬ IsAccepted Rfc9651 kind t) × (r ≡ Err kinds.Unparsed))

-- r is the value of a field with these lines: with `bs`, with a key, with `sf` (the program may know the type), or as it is
abbrev pub FieldGives : (bs : Bool) → (key : Option (List ℕ)) → (sf : Bool) → Option FieldKind → List (List ℕ)
    → Result (List ℕ) BaseErrorKind → Type 0
FieldGives true key sf type lines r = r ≡ Ok (byte_text lines)
FieldGives false (Some key) sf type lines r = ParsedGives dictionary_field (member_of key) (plain_text lines) r
FieldGives false None true (Some kind) lines r = ParsedGives kind (λ value. Ok (canonical kind value)) (plain_text lines) r
FieldGives false None true None lines r = r ≡ Err kinds.UnknownType
FieldGives false None false type lines r = r ≡ Ok (plain_text lines)

-- the same by the parameters, or the rule that there is no line
abbrev pub LinesGive : RawParameters → Option FieldKind → List (List ℕ) → Result (List ℕ) BaseErrorKind → Type 0
LinesGive ps type lines r = MatchOption (slice_get lines 0) (r ≡ Err kinds.Absent)
    (λ _. FieldGives (has (codes "bs") ps) (string_param (codes "key") ps) (has (codes "sf") ps) type lines r)

-- ---- messages

-- the message, or with `req` the related request (section 2.4)
abbrev pub part_of : HttpMessage → RawParameters → Option MessagePart
part_of m ps = if has (codes "req") ps then m.request else Some m.own

-- the fields, or with `tr` the trailers (section 2.1.4)
abbrev pub section_of : RawParameters → MessagePart → Option (Bor (Entries FieldValue))
section_of ps part = if has (codes "tr") ps then part.trailers else Some part.fields

-- the lines that a field component names; a name with an upper-case letter names none (section 2.1)
abbrev pub lines_of : HttpMessage → List ℕ → RawParameters → List (List ℕ)
lines_of m name ps = if list_any is_ascii_uppercase name then [] else option_map_or
    (λ fields. lines_in fields.now (lowercase name)) (option_and_then (section_of ps) (part_of m ps)) []

-- the type of a field, by the first row with its name
abbrev pub type_in : List (Bor (List ℕ) × FieldKind) → List ℕ → Option FieldKind
type_in types name = option_map (λ row. row.1) (find (λ row. bytes_eq row.0.now name) types)

-- the text of the first row with this name
abbrev pub text_in : Bor (List (Bor (List ℕ) × Bor (List ℕ))) → List ℕ → Option (List ℕ)
text_in rows name = option_map (λ row. row.1.now) (find (λ row. bytes_eq row.0.now name) rows.now)

-- the text that the program supplies for a derived component; for `@query-param` by the parameter `name`
abbrev pub derived_in : List ℕ → RawParameters → MessagePart → Option (List ℕ)
derived_in name ps part = if bytes_eq name (codes "@query-param")
    then option_and_then (text_in part.query_params) (string_param (codes "name") ps) else text_in part.derived name

-- r is the value of a derived component, or of a field
abbrev pub ValueGives : (derived : Bool) → HttpMessage → List ℕ → RawParameters → Result (List ℕ) BaseErrorKind → Type 0
ValueGives true m name ps r = r ≡ ok_or (option_and_then (derived_in name ps) (part_of m ps)) kinds.Absent
ValueGives false m name ps r = LinesGive ps (type_in m.types.now name) (lines_of m name ps) r

-- the message: r is the value of the component, or the rule that its identifier breaks
abbrev pub HttpGives : HttpMessage → List ℕ → RawParameters → Result (List ℕ) BaseErrorKind → Type 0
HttpGives m name ps r = MatchOption (fault_of name ps) (ValueGives (is_derived name) m name ps r) (λ k. r ≡ Err k)
