-- The text of each kind of error.
use Rattle.std.specs.Prelude.{ℕ, List, codes}
use Rattle.sfv_spec.specs.declared.error_kind.ErrorKind.{ErrorKind}
use Rattle.sfv_spec.specs.declared.error_kind.ErrorKind.TheVariants.{OutOfMemory, OutOfRange, Empty, InvalidCharacter}
use Rattle.sfv_spec.specs.declared.error_kind.ErrorKind.TheVariants.{TrailingCharactersAfterMember, TrailingComma}
use Rattle.sfv_spec.specs.declared.error_kind.ErrorKind.TheVariants.{TrailingCharactersAfterParsedValue}
use Rattle.sfv_spec.specs.declared.error_kind.ErrorKind.TheVariants.{ExpectedInnerListDelimiter, UnterminatedInnerList}
use Rattle.sfv_spec.specs.declared.error_kind.ErrorKind.TheVariants.{ExpectedStartOfBareItem, ExpectedBoolean}
use Rattle.sfv_spec.specs.declared.error_kind.ErrorKind.TheVariants.{InvalidStringCharacter, UnterminatedString}
use Rattle.sfv_spec.specs.declared.error_kind.ErrorKind.TheVariants.{UnterminatedEscapeSequence, InvalidEscapeSequence}
use Rattle.sfv_spec.specs.declared.error_kind.ErrorKind.TheVariants.{UnterminatedByteSequence, InvalidByteSequence}
use Rattle.sfv_spec.specs.declared.error_kind.ErrorKind.TheVariants.{ExpectedDigit, TooManyDigits}
use Rattle.sfv_spec.specs.declared.error_kind.ErrorKind.TheVariants.{TooManyDigitsBeforeDecimalPoint}
use Rattle.sfv_spec.specs.declared.error_kind.ErrorKind.TheVariants.{TooManyDigitsAfterDecimalPoint}
use Rattle.sfv_spec.specs.declared.error_kind.ErrorKind.TheVariants.{TrailingDecimalPoint, Rfc8941Date, NonIntegerDate}
use Rattle.sfv_spec.specs.declared.error_kind.ErrorKind.TheVariants.{Rfc8941DisplayString, ExpectedQuote}
use Rattle.sfv_spec.specs.declared.error_kind.ErrorKind.TheVariants.{InvalidUtf8InDisplayString}
use Rattle.sfv_spec.specs.declared.error_kind.ErrorKind.TheVariants.{InvalidDisplayStringCharacter}
use Rattle.sfv_spec.specs.declared.error_kind.ErrorKind.TheVariants.{UnterminatedDisplayString, ExpectedStartOfKey}

-- the printed text of a kind of error
abbrev pub message_of : ErrorKind → List ℕ
message_of OutOfMemory = codes "out of memory"
message_of OutOfRange = codes "out of range"
message_of Empty = codes "cannot be empty"
message_of InvalidCharacter = codes "invalid character"
message_of TrailingCharactersAfterMember = codes "trailing characters after member"
message_of TrailingComma = codes "trailing comma"
message_of TrailingCharactersAfterParsedValue = codes "trailing characters after parsed value"
message_of ExpectedInnerListDelimiter = codes "expected inner list delimiter (' ' or ')')"
message_of UnterminatedInnerList = codes "unterminated inner list"
message_of ExpectedStartOfBareItem = codes "expected start of bare item"
message_of ExpectedBoolean = codes "expected boolean ('0' or '1')"
message_of InvalidStringCharacter = codes "invalid string character"
message_of UnterminatedString = codes "unterminated string"
message_of UnterminatedEscapeSequence = codes "unterminated escape sequence"
message_of InvalidEscapeSequence = codes "invalid escape sequence"
message_of UnterminatedByteSequence = codes "unterminated byte sequence"
message_of InvalidByteSequence = codes "invalid byte sequence"
message_of ExpectedDigit = codes "expected digit"
message_of TooManyDigits = codes "too many digits"
message_of TooManyDigitsBeforeDecimalPoint = codes "too many digits before decimal point"
message_of TooManyDigitsAfterDecimalPoint = codes "too many digits after decimal point"
message_of TrailingDecimalPoint = codes "trailing decimal point"
message_of Rfc8941Date = codes "RFC 8941 does not support dates"
message_of NonIntegerDate = codes "date must be an integer number of seconds"
message_of Rfc8941DisplayString = codes "RFC 8941 does not support display strings"
message_of ExpectedQuote = codes "expected '\"'"
message_of InvalidUtf8InDisplayString = codes "invalid UTF-8 in display string"
message_of InvalidDisplayStringCharacter = codes "invalid display string character"
message_of UnterminatedDisplayString = codes "unterminated display string"
message_of ExpectedStartOfKey = codes "expected start of key ('a'-'z' or '*')"
