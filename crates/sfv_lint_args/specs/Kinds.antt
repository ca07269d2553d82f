-- The names of the kinds of errors.
use Rattle.std.specs.Prelude.{ℕ, List, codes}
use Rattle.sfv_spec.specs.declared.error_kind.ErrorKind.{ErrorKind}
use Rattle.sfv_spec.specs.declared.error_kind.ErrorKind.TheVariants as kinds

-- the name of a kind of error
abbrev pub kind_name : ErrorKind → List ℕ
kind_name kinds.OutOfMemory = codes "OutOfMemory"
kind_name kinds.OutOfRange = codes "OutOfRange"
kind_name kinds.Empty = codes "Empty"
kind_name kinds.InvalidCharacter = codes "InvalidCharacter"
kind_name kinds.TrailingCharactersAfterMember = codes "TrailingCharactersAfterMember"
kind_name kinds.TrailingComma = codes "TrailingComma"
kind_name kinds.TrailingCharactersAfterParsedValue = codes "TrailingCharactersAfterParsedValue"
kind_name kinds.ExpectedInnerListDelimiter = codes "ExpectedInnerListDelimiter"
kind_name kinds.UnterminatedInnerList = codes "UnterminatedInnerList"
kind_name kinds.ExpectedStartOfBareItem = codes "ExpectedStartOfBareItem"
kind_name kinds.ExpectedBoolean = codes "ExpectedBoolean"
kind_name kinds.InvalidStringCharacter = codes "InvalidStringCharacter"
kind_name kinds.UnterminatedString = codes "UnterminatedString"
kind_name kinds.UnterminatedEscapeSequence = codes "UnterminatedEscapeSequence"
kind_name kinds.InvalidEscapeSequence = codes "InvalidEscapeSequence"
kind_name kinds.UnterminatedByteSequence = codes "UnterminatedByteSequence"
kind_name kinds.InvalidByteSequence = codes "InvalidByteSequence"
kind_name kinds.ExpectedDigit = codes "ExpectedDigit"
kind_name kinds.TooManyDigits = codes "TooManyDigits"
kind_name kinds.TooManyDigitsBeforeDecimalPoint = codes "TooManyDigitsBeforeDecimalPoint"
kind_name kinds.TooManyDigitsAfterDecimalPoint = codes "TooManyDigitsAfterDecimalPoint"
kind_name kinds.TrailingDecimalPoint = codes "TrailingDecimalPoint"
kind_name kinds.Rfc8941Date = codes "Rfc8941Date"
kind_name kinds.NonIntegerDate = codes "NonIntegerDate"
kind_name kinds.Rfc8941DisplayString = codes "Rfc8941DisplayString"
kind_name kinds.ExpectedQuote = codes "ExpectedQuote"
kind_name kinds.InvalidUtf8InDisplayString = codes "InvalidUtf8InDisplayString"
kind_name kinds.InvalidDisplayStringCharacter = codes "InvalidDisplayStringCharacter"
kind_name kinds.UnterminatedDisplayString = codes "UnterminatedDisplayString"
kind_name kinds.ExpectedStartOfKey = codes "ExpectedStartOfKey"
