-- Names of bytes and of classes of them, and other short words, for readers and proofs.
use Rattle.std.proofs.Common.{◌≡◌, ℕ, List, ◌++◌, map, Bool, true, false, not, ◌&&◌, ◌||◌, ◌==◌, IsUtf8, [], codes}
use Rattle.std.{proofs.Common.if◌then◌else◌, specs.Int.is_in_range}
use Rattle.sfv_spec.specs.Base64.{IsBase64Text}
use Rattle.sfv_spec.specs.{Classes.is_string_byte, Grammar.{Spaces, IsKeyText, IsValueText}, Reach.WantsBareItem}
use Rattle.sfv_spec.specs.Strings.{is_escaped_in_string, IsStringPiece, is_plain_in_display, IsDisplayPiece}
use Rattle.sfv_spec.specs.{Texts.{IsJoining, Exactly, ◌⨾◌}, Values.{BareValue, boolean, RawParameters, RawMember, item}}
use Rattle.sfv_spec.specs.declared.{field_kind.FieldKind.FieldKind, version.Version.Version}

-- b'\t'
abbrev pub tab : ℕ
tab = 0x09

-- b' '
abbrev pub space : ℕ
space = 0x20

-- b'"'
abbrev pub double_quote : ℕ
double_quote = 0x22

-- b'%'
abbrev pub percent_sign : ℕ
percent_sign = 0x25

-- b'*'
abbrev pub asterisk : ℕ
asterisk = 0x2a

-- b'0'
abbrev pub digit_zero : ℕ
digit_zero = 0x30

-- b'9'
abbrev pub digit_nine : ℕ
digit_nine = 0x39

-- b':'
abbrev pub colon : ℕ
colon = 0x3a

-- b'='
abbrev pub equals_sign : ℕ
equals_sign = 0x3d

-- b'A'
abbrev pub upper_a : ℕ
upper_a = 0x41

-- b'Z'
abbrev pub upper_z : ℕ
upper_z = 0x5a

-- b'\\'
abbrev pub backslash : ℕ
backslash = 0x5c

-- b'a'
abbrev pub lower_a : ℕ
lower_a = 0x61

-- b'f'
abbrev pub lower_f : ℕ
lower_f = 0x66

-- b'z'
abbrev pub lower_z : ℕ
lower_z = 0x7a

-- b'('
abbrev pub left_parenthesis : ℕ
left_parenthesis = 0x28

-- b')'
abbrev pub right_parenthesis : ℕ
right_parenthesis = 0x29

-- b'+'
abbrev pub plus_sign : ℕ
plus_sign = 0x2b

-- b','
abbrev pub comma : ℕ
comma = 0x2c

-- b'-'
abbrev pub minus_sign : ℕ
minus_sign = 0x2d

-- b'.'
abbrev pub dot : ℕ
dot = 0x2e

-- b'/'
abbrev pub slash : ℕ
slash = 0x2f

-- b'1'
abbrev pub digit_one : ℕ
digit_one = 0x31

-- b';'
abbrev pub semicolon : ℕ
semicolon = 0x3b

-- b'?'
abbrev pub question_mark : ℕ
question_mark = 0x3f

-- b'@'
abbrev pub at_sign : ℕ
at_sign = 0x40

-- from low to high, both included
abbrev pub is_between : ℕ → ℕ → ℕ → Bool
is_between = is_in_range

-- DIGIT, lcalpha and ALPHA
abbrev pub is_digit : ℕ → Bool
is_digit = is_between digit_zero digit_nine

abbrev pub is_lower_letter : ℕ → Bool
is_lower_letter = is_between lower_a lower_z

-- SP, and a byte of OWS
abbrev pub is_space : ℕ → Bool
is_space c = c == space

abbrev pub is_space_or_tab : ℕ → Bool
is_space_or_tab c = c == space || c == tab

-- a byte that a String contains without an escape
abbrev pub is_plain_in_string : ℕ → Bool
is_plain_in_string c = is_string_byte c && not (is_escaped_in_string c)

abbrev pub IsStringContent : List ℕ → List ℕ → Type 0
IsStringContent s t = IsJoining IsStringPiece s t

-- the bytes, which may not be UTF-8
abbrev pub AreDisplayPieces : List ℕ → List ℕ → Type 0
AreDisplayPieces bytes t = IsJoining IsDisplayPiece bytes t

abbrev pub IsDisplayContent : List ℕ → List ℕ → Type 0
IsDisplayContent s t = AreDisplayPieces s t × IsUtf8 s

-- a minus sign, or nothing; and the sign of a Date
abbrev pub minus_text : Bool → List ℕ
minus_text negative = if negative then codes "-" else []

abbrev pub at_text : Bool → List ℕ
at_text dated = if dated then codes "@" else []

-- the item true with these parameters
abbrev pub true_with : RawParameters → RawMember
true_with parameters = item (record { bare = boolean true; parameters = parameters })

abbrev pub keys : {A : Type 0} → List (List ℕ × A) → List (List ℕ)
keys pairs = map (λ p. p.0) pairs

abbrev pub parameter_values : RawParameters → List BareValue
parameter_values parameters = map (λ p. p.1) parameters

-- a symbol of Base64
unfoldable pub is_symbol : ℕ → Bool
is_symbol c = is_between upper_a upper_z c || is_between lower_a lower_z c || is_between digit_zero digit_nine c
    || c == plus_sign || c == slash

-- the bytes that a quoted text writes for themselves: true is a Display String, false a String
abbrev pub plain_of : Bool → ℕ → Bool
plain_of true = is_plain_in_display
plain_of false = is_plain_in_string

-- one or more spaces between the items of an inner list
abbrev pub SomeSpaces : List ℕ → Type 0
SomeSpaces = Exactly (codes " ") ⨾ Spaces

-- one parameter with its key
abbrev pub IsParameterText : Version → List ℕ × BareValue → List ℕ → Type 0
IsParameterText version p = Exactly (codes ";") ⨾ Spaces ⨾ IsKeyText p.0 ⨾ IsValueText version p.1

-- t is `before` and then `rest`, and a bare item may follow `before`
pub record WantsBetween (version : Version) (kind : FieldKind) (t before rest : List ℕ) : Type 0 where
  pub text : t ≡ before ++ rest
  pub wanted : WantsBareItem version kind before

-- t is a prefix of some Base64 text
abbrev pub BeginsBase64 : List ℕ → Type 0
BeginsBase64 t = (more bytes : List ℕ) × IsBase64Text bytes (t ++ more)
