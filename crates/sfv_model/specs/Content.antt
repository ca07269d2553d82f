-- The content of a Byte Sequence from left to right, and the reader after the opening colon.
use Rattle.std.specs.Prelude.{◌≡◌, ◌++◌, ℕ, zero, suc, ◌+◌, ◌-◌, ◌*◌, ◌/◌, ◌%◌, ◌==◌, List, [], ◌∷◌, length, drop, Bool}
use Rattle.std.specs.Prelude.{not, ◌&&◌, if◌then◌else◌, Option, Some, None, Ok, Err, codes}
use Rattle.std.specs.List.{list_any}
use Rattle.sfv_spec.proofs.Marks.{digit_zero, digit_nine, colon, equals_sign, upper_a, upper_z, plus_sign, lower_a}
use Rattle.sfv_spec.proofs.Marks.{lower_z, is_between, is_symbol}
use Rattle.sfv_spec.specs.Texts.{RunOf, Exactly, ◌⨾◌}
use Rattle.sfv_spec.specs.Base64.{IsBase64Text}
use Rattle.sfv_spec.specs.declared.error_kind.ErrorKind.TheVariants.{UnterminatedByteSequence, InvalidByteSequence}
use Rattle.sfv_model.specs.Reader.{Fault, Answer, Reader, placed, by_rule}

-- the value of a symbol
unfoldable pub symbol_value : ℕ → ℕ
symbol_value c =
    if is_between upper_a upper_z c then c - upper_a
    else if is_between lower_a lower_z c then c - lower_a + 26
    else if is_between digit_zero digit_nine c then c - digit_zero + 52
    else if c == plus_sign then 62 else 63

-- how many padding bytes may follow `n` symbols
abbrev pub most_padding : ℕ → ℕ
most_padding n = if n % 4 == 2 then 2 else if n % 4 == 3 then 1 else 0

-- the number of padding bytes at the start, at most this many
unfoldable pub padding_in : ℕ → List ℕ → ℕ
padding_in zero t = 0
padding_in (suc k) [] = 0
padding_in (suc k) (c ∷ t) = if c == equals_sign then suc (padding_in k t) else 0

-- after `n` symbols: how many of the next bytes some Base64 text has there
unfoldable pub valid_from : ℕ → List ℕ → ℕ
valid_from n [] = 0
valid_from n (c ∷ t) = if is_symbol c then suc (valid_from (suc n) t) else padding_in (most_padding n) (c ∷ t)

-- the values of the symbols at the start
unfoldable pub values_in : List ℕ → List ℕ
values_in [] = []
values_in (c ∷ t) = if is_symbol c then symbol_value c ∷ values_in t else []

-- the whole bytes of a list of six-bit values
unfoldable pub bytes_from : List ℕ → List ℕ
bytes_from [] = []
bytes_from (a ∷ []) = []
bytes_from (a ∷ b ∷ []) = (a * 4 + b / 16) ∷ []
bytes_from (a ∷ b ∷ c ∷ []) = (a * 4 + b / 16) ∷ (b % 16 * 16 + c / 4) ∷ []
bytes_from (a ∷ b ∷ c ∷ d ∷ rest) = (a * 4 + b / 16) ∷ (b % 16 * 16 + c / 4) ∷ (c % 4 * 64 + d) ∷ bytes_from rest

-- the bytes of a content, if it is Base64
unfoldable pub bytes_of : List ℕ → Option (List ℕ)
bytes_of content =
    if valid_from 0 content == length content && not (length (values_in content) % 4 == 1)
    then Some (bytes_from (values_in content)) else None

-- the index of the fault in a content that is not Base64
unfoldable pub fault_place : List ℕ → ℕ
fault_place content =
    if valid_from 0 content == length content then valid_from 0 content - 1 else valid_from 0 content

-- ---- after the opening colon, with the closing one

-- the texts of a Byte Sequence after its opening colon
abbrev pub IsBytesEnd : List ℕ → List ℕ → Type 0
IsBytesEnd bytes t = (IsBase64Text bytes ⨾ Exactly (codes ":")) t

-- the byte that closes a Byte Sequence
abbrev pub is_colon : ℕ → Bool
is_colon c = c == colon

-- a text contains no colon
abbrev pub HasNoColon : List ℕ → Type 0
HasNoColon = RunOf (λ c. not (c == colon))

-- the bytes before the first colon
unfoldable pub content_in : List ℕ → List ℕ
content_in [] = []
content_in (c ∷ t) = if is_colon c then [] else c ∷ content_in t

-- The fault of a closed content that is not Base64: by a rule for a single symbol too many, and at the reach otherwise.
abbrev pub content_fault : List ℕ → List ℕ → Fault
content_fault content there = placed (not (valid_from 0 content == length content)) InvalidByteSequence there

-- the result for a content before its closing colon
abbrev pub closed_by : List ℕ → List ℕ → Option (List ℕ) → Answer (List ℕ)
closed_by t content (Some bytes) = Ok (bytes, drop (length content + 1) t)
closed_by t content None = Err (content_fault content (drop (fault_place content) t))

-- a Byte Sequence, or the fault of its content
unfoldable pub bytes_at : Reader (List ℕ)
bytes_at t = if list_any is_colon t then closed_by t (content_in t) (bytes_of (content_in t))
    else Err (by_rule UnterminatedByteSequence [])

-- ---- from an index of an input

-- the content from `start` to `end`, with a colon at `end`
pub record IsContentAt (input : List ℕ) (start end : ℕ) (content : List ℕ) : Type 0 where
  pub text : drop start input ≡ content ++ colon ∷ drop (end + 1) input
  pub no_colon : HasNoColon content
  pub counted : end ≡ start + length content

-- a Byte Sequence with these bytes, with its closing colon at `end`
pub record IsBytesAt (input : List ℕ) (start : ℕ) (bytes : List ℕ) (end : ℕ) : Type 0 where
  pub content : List ℕ
  pub closed : IsContentAt input start end content
  pub value : bytes_of content ≡ Some bytes

-- the content is closed, and its fault is at `index`
pub record IsInvalidAt (input : List ℕ) (start index : ℕ) : Type 0 where
  pub content : List ℕ
  pub end : ℕ
  pub closed : IsContentAt input start end content
  pub no_value : bytes_of content ≡ None
  pub here : index ≡ start + fault_place content
