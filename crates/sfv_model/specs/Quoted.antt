-- Readers of Strings and Display Strings after the opening quote, from left to right.
use Rattle.std.specs.Prelude.{◌≡◌, ℕ, zero, suc, ◌≤◌, ◌+◌, ◌*◌, Bool, true, false, List, [], ◌∷◌, ◌++◌, length, drop}
use Rattle.std.specs.Prelude.{Ok, Err, IsFalse, IsUtf8, ◌==◌, if◌then◌else◌, codes}
use Rattle.std.specs.List.{concat, AllZip}
use Rattle.std.specs.Str.{is_utf8}
use Rattle.std.specs.Str.Lossy.{utf8_valid_len}
use Rattle.sfv_spec.proofs.Marks.{double_quote, percent_sign, backslash, IsStringContent, IsDisplayContent}
use Rattle.sfv_spec.specs.Texts.{RunOf, Exactly, ◌⨾◌}
use Rattle.sfv_spec.specs.Classes.{is_string_byte, is_lower_hexadecimal}
use Rattle.sfv_spec.specs.Strings.{is_escaped_in_string, IsStringPiece, IsDisplayPiece}
use Rattle.std.specs.Char.{digit_value as hexadecimal_value}
use Rattle.sfv_spec.specs.declared.error_kind.ErrorKind.{ErrorKind}
use Rattle.sfv_spec.specs.declared.error_kind.ErrorKind.TheVariants.{InvalidStringCharacter, UnterminatedString}
use Rattle.sfv_spec.specs.declared.error_kind.ErrorKind.TheVariants.{UnterminatedEscapeSequence, InvalidEscapeSequence}
use Rattle.sfv_spec.specs.declared.error_kind.ErrorKind.TheVariants.{InvalidUtf8InDisplayString}
use Rattle.sfv_spec.specs.declared.error_kind.ErrorKind.TheVariants.{InvalidDisplayStringCharacter}
use Rattle.sfv_spec.specs.declared.error_kind.ErrorKind.TheVariants.{UnterminatedDisplayString}
use Rattle.sfv_model.specs.Reader.{Answer, Reader, at_reach, by_rule}

-- the texts of a String after its opening quote
abbrev pub IsStringEnd : List ℕ → List ℕ → Type 0
IsStringEnd s t = (IsStringContent s ⨾ Exactly (codes "\"")) t

-- the texts of a Display String after its opening quote
abbrev pub IsDisplayEnd : List ℕ → List ℕ → Type 0
IsDisplayEnd s t = (IsDisplayContent s ⨾ Exactly (codes "\"")) t

-- the result with these bytes before its bytes
abbrev pub after_bytes : List ℕ → Answer (List ℕ) → Answer (List ℕ)
after_bytes bytes (Ok x) = Ok (bytes ++ x.0, x.1)
after_bytes bytes (Err e) = Err e

-- ---- a String, outside an escape and after a backslash

-- the bytes up to the closing quote; `true` after a backslash
unfoldable pub string_from : Bool → Reader (List ℕ)
string_from false [] = Err (at_reach UnterminatedString [])
string_from false (c ∷ r) =
    if c == double_quote then Ok ([], r)
    else if c == backslash then string_from true r
    else if is_string_byte c then after_bytes (c ∷ []) (string_from false r)
    else Err (at_reach InvalidStringCharacter (c ∷ r))
string_from true [] = Err (at_reach UnterminatedEscapeSequence [])
string_from true (c ∷ r) =
    if is_escaped_in_string c then after_bytes (c ∷ []) (string_from false r)
    else Err (at_reach InvalidEscapeSequence (c ∷ r))

-- a String after its opening quote, with the closing one
abbrev pub string_at : Reader (List ℕ)
string_at = string_from false

-- ---- a Display String, outside an escape, after a percent sign, and after its first digit

-- the place in a Display String before the next byte
pub data Place : Type 0 where
  outside percent : Place
  digit : ℕ → Place

-- the bytes up to the closing quote, without a check of UTF-8
unfoldable pub pieces_from : Place → Reader (List ℕ)
pieces_from outside [] = Err (by_rule UnterminatedDisplayString [])
pieces_from outside (c ∷ r) =
    if c == double_quote then Ok ([], r)
    else if c == percent_sign then pieces_from percent r
    else if is_string_byte c then after_bytes (c ∷ []) (pieces_from outside r)
    else Err (by_rule InvalidDisplayStringCharacter (c ∷ r))
pieces_from percent [] = Err (by_rule UnterminatedEscapeSequence [])
pieces_from percent (c ∷ r) =
    if is_lower_hexadecimal c then pieces_from (digit c) r
    else Err (by_rule InvalidEscapeSequence (c ∷ r))
pieces_from (digit h) [] = Err (by_rule UnterminatedEscapeSequence [])
pieces_from (digit h) (c ∷ r) =
    if is_lower_hexadecimal c
    then after_bytes ((16 * hexadecimal_value h + hexadecimal_value c) ∷ []) (pieces_from outside r)
    else Err (by_rule InvalidEscapeSequence (c ∷ r))

-- the text after `n` pieces
abbrev pub after_pieces : ℕ → List ℕ → List ℕ
after_pieces zero t = t
after_pieces (suc n) [] = []
after_pieces (suc n) (c ∷ r) = after_pieces n (if c == percent_sign then drop 2 r else r)

-- fails if the bytes are not UTF-8
abbrev pub checked : List ℕ → Answer (List ℕ) → Answer (List ℕ)
checked t (Ok x) = if is_utf8 x.0 then Ok x
    else Err (by_rule InvalidUtf8InDisplayString (after_pieces (utf8_valid_len x.0) t))
checked t (Err e) = Err e

-- a Display String after its opening quote, with the closing one
unfoldable pub display_at : Reader (List ℕ)
display_at t = checked t (pieces_from outside t)

-- ---- where the pieces end without a closing quote: `left` follows them, and the fault is at `there`

-- the pieces of a String end with this fault
abbrev pub StringStops : ErrorKind → List ℕ → List ℕ → Type 0
StringStops UnterminatedString left there = (left ≡ []) × (there ≡ [])
StringStops UnterminatedEscapeSequence left there = (left ≡ backslash ∷ []) × (there ≡ [])
StringStops InvalidEscapeSequence left there = (wrong : ℕ) × (more : List ℕ) × (left ≡ backslash ∷ wrong ∷ more)
    × (there ≡ wrong ∷ more) × IsFalse (is_escaped_in_string wrong)
StringStops InvalidStringCharacter left there = (wrong : ℕ) × (more : List ℕ) × (left ≡ wrong ∷ more)
    × (there ≡ wrong ∷ more) × IsFalse (is_string_byte wrong)
StringStops _ left there = ⊥

-- the pieces of a Display String end with this fault
abbrev pub DisplayStops : ErrorKind → List ℕ → List ℕ → Type 0
DisplayStops UnterminatedDisplayString left there = (left ≡ []) × (there ≡ [])
DisplayStops UnterminatedEscapeSequence left there = (digits : List ℕ) × (left ≡ percent_sign ∷ digits) × (there ≡ [])
    × RunOf is_lower_hexadecimal digits × (length digits ≤ 1)
DisplayStops InvalidEscapeSequence left there = (digits : List ℕ) × (wrong : ℕ) × (more : List ℕ)
    × (left ≡ percent_sign ∷ (digits ++ wrong ∷ more)) × (there ≡ wrong ∷ more) × RunOf is_lower_hexadecimal digits
    × (length digits ≤ 1) × IsFalse (is_lower_hexadecimal wrong)
DisplayStops InvalidDisplayStringCharacter left there = (wrong : ℕ) × (more : List ℕ) × (left ≡ wrong ∷ more)
    × (there ≡ wrong ∷ more) × IsFalse (is_string_byte wrong)
DisplayStops _ left there = ⊥

-- `t` is pieces, one for each byte, and the rest `left` after them.
pub record Traced (P : ℕ → List ℕ → Type 0) (t : List ℕ) (Ends : List ℕ → List ℕ → Type 0) : Type 0 where
  pub bytes : List ℕ
  pub pieces : List (List ℕ)
  pub left : List ℕ
  pub text : t ≡ concat pieces ++ left
  pub content : AllZip P bytes pieces
  pub ends : Ends bytes left

-- the faults of a String with the inside `t`
abbrev pub IsStringFault : List ℕ → ErrorKind → List ℕ → Type 0
IsStringFault t kind there = Traced IsStringPiece t (λ bytes left. StringStops kind left there)

-- the faults of a Display String with the inside `t`; all except invalid UTF-8 end the pieces
abbrev pub IsDisplayFault : List ℕ → ErrorKind → List ℕ → Type 0
IsDisplayFault t InvalidUtf8InDisplayString there =
    Traced IsDisplayPiece t (λ bytes left. (rest : List ℕ) × (left ≡ double_quote ∷ rest) × (¬ IsUtf8 bytes)
    × (there ≡ after_pieces (utf8_valid_len bytes) t))
IsDisplayFault t kind there = Traced IsDisplayPiece t (λ bytes left. DisplayStops kind left there)
