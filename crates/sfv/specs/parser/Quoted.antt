-- The inside of strings and display strings, after the opening quote. The flag is true for a display string.
use Rattle.std.specs.Prelude.{◌*◌, ◌+◌, ◌≡◌, ⊤, ◌↔◌, ℕ, ◌<◌, Bool, true, false, not, ◌==◌, List, [], ◌∷◌, ◌++◌, length}
use Rattle.std.specs.Prelude.{◌⊎◌, Result, Ok, Err, IsOk, IsTrue, string_bytes}
use Rattle.std.specs.declared.alloc.Global.{Global}
use Rattle.std.specs.declared.vec.Vec.{Vec}
use Rattle.std.specs.declared.string.String as std_string
use Rattle.std.specs.declared.borrow.CowStr.{CowStr}
use Rattle.sfv_spec.proofs.Marks.{percent_sign, backslash, double_quote, colon, plain_of}
use Rattle.sfv_spec.specs.Texts.{RunOf}
use Rattle.sfv_spec.specs.Classes.{is_lower_hexadecimal}
use Rattle.std.specs.Char.{digit_value as hexadecimal_value}
use Rattle.sfv_base.specs.declared.error.Error.{Error}
use Rattle.sfv_spec.specs.declared.error_kind.ErrorKind.{ErrorKind}
use Rattle.sfv_spec.specs.declared.error_kind.ErrorKind.TheVariants.{UnterminatedString, InvalidStringCharacter}
use Rattle.sfv_spec.specs.declared.error_kind.ErrorKind.TheVariants.{UnterminatedDisplayString}
use Rattle.sfv_spec.specs.declared.error_kind.ErrorKind.TheVariants.{InvalidDisplayStringCharacter}
use Rattle.sfv_values.specs.TokenText.{TokenRef}
use Rattle.sfv_values.specs.declared.bare.GenericBareItem.{GenericBareItem}
use Rattle.sfv_values.specs.declared.bare.GenericBareItem.TheVariants as bare
use Rattle.sfv_values.specs.declared.bare.StringFromInput.{StringFromInput}
use Rattle.sfv_values.specs.BareItems.{is_borrowed_string, is_borrowed_text}
use Rattle.sfv_model.specs.Reader.{Answer, Reader, byte}
use Rattle.sfv_model.specs.Content.{bytes_at}
use Rattle.sfv_model.specs.Quoted.{after_bytes, string_from, outside, percent, digit, pieces_from}
use Rattle.sfv.specs.declared.parser.cursor.Cursor.{Cursor}
use Rattle.sfv.specs.declared.parser.quoted.QuotedBytes.{QuotedBytes}
use Rattle.sfv.specs.declared.parser.quoted.QuotedBytes.TheVariants as quoted
use Rattle.sfv.specs.parser.Cursor.{kept, input, rest, IsFaultOf, NextIs}

-- the byte that opens an escape
abbrev pub mark_of : Bool → ℕ
mark_of true = percent_sign
mark_of false = backslash

-- the kind of error at a wrong byte (`true`), or at the end of the input
abbrev pub end_error_of : Bool → Bool → ErrorKind
end_error_of true true = InvalidDisplayStringCharacter
end_error_of true false = UnterminatedDisplayString
end_error_of false true = InvalidStringCharacter
end_error_of false false = UnterminatedString

-- the reader of the bytes up to the closing quote, outside an escape
abbrev pub inside : Bool → Reader (List ℕ)
inside true = pieces_from outside
inside false = string_from false

-- the reader of the bytes up to the closing quote, after the byte that opens an escape
abbrev pub after_mark : Bool → Reader (List ℕ)
after_mark true = pieces_from percent
after_mark false = string_from true

-- the bytes of a parsed string or display string
abbrev pub quoted_bytes : QuotedBytes → List ℕ
quoted_bytes (quoted.Plain s) = s.now
quoted_bytes (quoted.Unescaped v) = v.items

-- the parsed bytes are borrowed from the input, because they contain no escape
abbrev pub is_plain : QuotedBytes → Bool
is_plain (quoted.Plain s) = true
is_plain (quoted.Unescaped v) = false

-- the consumed bytes contain no escape
abbrev pub HasNoMark : Bool → Cursor → Cursor → Type 0
HasNoMark display before after = (s : List ℕ) × (rest before ≡ s ++ rest after)
    × RunOf (λ c. not (c == mark_of display)) s

-- after bytes that denote themselves, an escape begins
abbrev pub HasEscape : Bool → List ℕ → Type 0
HasEscape display t = (s : List ℕ) × (r : List ℕ) × (t ≡ s ++ r) × RunOf (plain_of display) s
    × NextIs (byte (mark_of display)) true r

-- the bytes of a string or display string up to its opening quote
abbrev pub opening : Bool → List ℕ
opening true = percent_sign ∷ double_quote ∷ []
opening false = double_quote ∷ []

-- a string or display string with an escape begins here, or a well-formed byte sequence
abbrev pub MayAllocate : List ℕ → Type 0
MayAllocate t = ((display : Bool) × (r : List ℕ) × (t ≡ opening display ++ r) × HasEscape display r)
    ⊎ ((r : List ℕ) × (t ≡ colon ∷ r) × IsOk (bytes_at r))

-- after the opening, `t` contains no escape before the rest `left`
abbrev pub HasNoMarkUpTo : Bool → List ℕ → List ℕ → Type 0
HasNoMarkUpTo display t left =
    (s : List ℕ) × (t ≡ opening display ++ (s ++ left)) × RunOf (λ c. not (c == mark_of display)) s

-- after the opening, the consumed bytes contain no escape
abbrev pub HasNoMarkInside : Bool → Cursor → Cursor → Type 0
HasNoMarkInside display before after = HasNoMarkUpTo display (rest before) (rest after)

-- A parsed string or display string is borrowed from the input if and only if it has no escape. Its text is from the
-- start of `t` up to the rest `left`.
abbrev pub IsBorrowedUpTo : GenericBareItem StringFromInput (Vec ℕ Global) TokenRef (CowStr Global) → List ℕ → List ℕ
    → Type 0
IsBorrowedUpTo (bare.String text) t left = IsTrue (is_borrowed_string text) ↔ HasNoMarkUpTo false t left
IsBorrowedUpTo (bare.DisplayString text) t left = IsTrue (is_borrowed_text text) ↔ HasNoMarkUpTo true t left
IsBorrowedUpTo item t left = ⊤

-- the same for a bare item that was just consumed
abbrev pub IsBorrowedUnlessEscaped : GenericBareItem StringFromInput (Vec ℕ Global) TokenRef (CowStr Global) → Cursor
    → Cursor → Type 0
IsBorrowedUnlessEscaped item before after = IsBorrowedUpTo item (rest before) (rest after)

-- the rest of an escape after its mark was consumed, and it denotes this byte; or the error is the reader's fault
abbrev pub ReadsEscape : Bool → Cursor → Cursor → Result ℕ Error → Type 0
ReadsEscape display before after (Ok c) =
    (after_mark display (rest before) ≡ after_bytes (c ∷ []) (inside display (rest after)))
    × (length (rest after) < length (rest before)) × (kept after ≡ kept before)
ReadsEscape display before after (Err e) = IsFaultOf (input before) e (after_mark display (rest before))

-- the next two bytes are the digits of an escape that denotes this byte
abbrev pub IsNextEscape : List ℕ → ℕ → Type 0
IsNextEscape t byte = (high : ℕ) × (low : ℕ) × (r : List ℕ) × (t ≡ high ∷ low ∷ r) × IsTrue (is_lower_hexadecimal high)
    × IsTrue (is_lower_hexadecimal low) × (byte ≡ 16 * hexadecimal_value high + hexadecimal_value low)

-- A digit of an escape of a display string was consumed, and has this value. Otherwise the error is the reader's fault,
-- for the first digit and for the second.
abbrev pub ReadsDigit : Cursor → Cursor → Result ℕ Error → Type 0
ReadsDigit before after (Ok value) =
    ((c : ℕ) × (rest before ≡ c ∷ rest after) × IsTrue (is_lower_hexadecimal c) × (value ≡ hexadecimal_value c))
    × (value < 16) × (kept after ≡ kept before)
ReadsDigit before after (Err e) =
    IsFaultOf (input before) e (pieces_from percent (rest before))
    × ((high : ℕ) → IsFaultOf (input before) e (pieces_from (digit high) (rest before)))

-- The reader returns this text and this rest, or its fault is the error.
abbrev pub GivesDisplayText : List ℕ → Result (std_string.String Global) Error → List ℕ → Answer (List ℕ) → Type 0
GivesDisplayText input (Ok text) rest answer = answer ≡ Ok (string_bytes text, rest)
GivesDisplayText input (Err e) rest answer = IsFaultOf input e answer
