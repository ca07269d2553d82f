-- Readers of bare items.
use Rattle.std.specs.Prelude.{ℕ, ◌+◌, ◌-◌, ◌*◌, ◌^◌, Bool, true, false, ◌||◌, List, ◌∷◌, length, Option, Some, None}
use Rattle.std.specs.Prelude.{nat_lt, ◌==◌, if◌then◌else◌}
use Rattle.sfv_spec.proofs.Marks.{double_quote, percent_sign, digit_zero, colon, minus_sign, dot, digit_one}
use Rattle.sfv_spec.proofs.Marks.{question_mark, at_sign, is_digit}
use Rattle.sfv_spec.specs.Classes.{is_token_start, is_token_inner}
use Rattle.sfv_spec.specs.Numbers.{place_value, signed}
use Rattle.sfv_spec.specs.Values.{BareValue, integer, decimal, string, token, byte_sequence, boolean, date}
use Rattle.sfv_spec.specs.Values.{display_string}
use Rattle.sfv_spec.specs.declared.version.Version.{Version}
use Rattle.sfv_spec.specs.declared.version.Version.TheVariants.{Rfc8941, Rfc9651}
use Rattle.sfv_spec.specs.declared.error_kind.ErrorKind.TheVariants.{ExpectedDigit, TooManyDigits}
use Rattle.sfv_spec.specs.declared.error_kind.ErrorKind.TheVariants.{TooManyDigitsBeforeDecimalPoint}
use Rattle.sfv_spec.specs.declared.error_kind.ErrorKind.TheVariants.{TooManyDigitsAfterDecimalPoint}
use Rattle.sfv_spec.specs.declared.error_kind.ErrorKind.TheVariants.{TrailingDecimalPoint, Rfc8941Date, NonIntegerDate}
use Rattle.sfv_spec.specs.declared.error_kind.ErrorKind.TheVariants.{Rfc8941DisplayString, ExpectedQuote}
use Rattle.sfv_spec.specs.declared.error_kind.ErrorKind.TheVariants.{ExpectedBoolean, ExpectedStartOfBareItem}
use Rattle.sfv_model.specs.Reader.{Reader, give, fail, ruled, ◌>>=◌, branch, ahead, back, up_to, span, byte}
use Rattle.sfv_model.specs.Content.{bytes_at}
use Rattle.sfv_model.specs.Quoted.{string_at, display_at}

-- `true` for a minus sign, `false` for none
unfoldable pub sign_at : Reader Bool
sign_at = branch (byte minus_sign) (λ _. give true) (give false)

-- a fourth digit after the point: at the reach, and in a Date by a rule
unfoldable pub long_at : Bool → Reader (Option BareValue)
long_at dated = if dated then ruled TooManyDigitsAfterDecimalPoint else fail TooManyDigitsAfterDecimalPoint

-- the Decimal of these digits, or `None` without a digit after the point
unfoldable pub decimal_at : Bool → Bool → List ℕ → List ℕ → Reader (Option BareValue)
decimal_at dated negative whole fraction =
    if length fraction == 0 then give None else
    ahead is_digit (long_at dated)
    (give (Some (decimal (signed negative (place_value whole * 1000
    + place_value fraction * 10 ^ (3 - length fraction))))))

-- the digits after the point
unfoldable pub fraction_at : Bool → Bool → List ℕ → Reader (Option BareValue)
fraction_at dated negative whole = up_to is_digit 3 >>= λ fraction. decimal_at dated negative whole fraction

-- the point and the digits after it
unfoldable pub point_at : Bool → Bool → List ℕ → Reader BareValue
point_at dated negative whole = back TrailingDecimalPoint
    (branch (byte dot) (λ _. fraction_at dated negative whole) (give None))

-- the rest of a number after its first digits, at most fifteen
unfoldable pub whole_at : Bool → Bool → List ℕ → Reader BareValue
whole_at dated negative whole =
    if length whole == 0 then fail ExpectedDigit else
    ahead is_digit (fail TooManyDigits)
    (ahead (byte dot)
    (if nat_lt 12 (length whole) then fail TooManyDigitsBeforeDecimalPoint else point_at dated negative whole)
    (give (integer (signed negative (place_value whole)))))

-- a number: a bare item, or the seconds of a Date
unfoldable pub number_at : Bool → Reader BareValue
number_at dated = sign_at >>= λ negative. up_to is_digit 15 >>= λ whole. whole_at dated negative whole

-- a Boolean after its question mark
unfoldable pub boolean_at : Reader BareValue
boolean_at = branch (byte digit_zero) (λ _. give (boolean false))
    (branch (byte digit_one) (λ _. give (boolean true)) (fail ExpectedBoolean))

-- a Token; otherwise no bare item begins here
unfoldable pub token_at : Reader BareValue
token_at = branch is_token_start (λ c. span is_token_inner >>= λ cs. give (token (c ∷ cs)))
    (fail ExpectedStartOfBareItem)

-- the Date of an Integer, and none of a Decimal
abbrev pub as_date : BareValue → Option BareValue
as_date (integer z) = Some (date z)
as_date _ = None

-- a Date, which RFC 8941 lacks
unfoldable pub date_at : Version → Reader BareValue
date_at Rfc8941 = fail Rfc8941Date
date_at Rfc9651 = back NonIntegerDate
    (branch (byte at_sign) (λ _. number_at true >>= λ v. give (as_date v)) (give None))

-- a Display String, which RFC 8941 lacks
unfoldable pub quoted_at : Version → Reader BareValue
quoted_at Rfc8941 = fail Rfc8941DisplayString
quoted_at Rfc9651 = branch (byte percent_sign)
    (λ _. branch (byte double_quote) (λ _. display_at >>= λ s. give (display_string s)) (fail ExpectedQuote))
    (fail ExpectedStartOfBareItem)

-- a number begins with a digit or a minus sign
abbrev pub is_number_start : ℕ → Bool
is_number_start b = is_digit b || (b == minus_sign)

-- a bare item; its first byte decides the kind
unfoldable pub bare_at : Version → Reader BareValue
bare_at version =
    branch (byte question_mark) (λ _. boolean_at)
    (branch (byte double_quote) (λ _. string_at >>= λ s. give (string s))
    (branch (byte colon) (λ _. bytes_at >>= λ s. give (byte_sequence s))
    (ahead (byte at_sign) (date_at version)
    (ahead (byte percent_sign) (quoted_at version)
    (ahead is_number_start (number_at false)
    token_at)))))
