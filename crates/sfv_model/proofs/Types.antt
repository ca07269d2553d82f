-- The types of field, the versions and the kinds of syntax errors by short names, for proofs.
use Rattle.sfv_spec.specs.declared.error_kind.ErrorKind.TheVariants as errors
use Rattle.sfv_spec.specs.declared.field_kind.FieldKind.TheVariants as fields
use Rattle.sfv_spec.specs.declared.version.Version.TheVariants as versions
pub use Rattle.sfv_spec.specs.declared.error_kind.ErrorKind.{ErrorKind}
pub use Rattle.sfv_spec.specs.declared.field_kind.FieldKind.{FieldKind}
pub use Rattle.sfv_spec.specs.declared.version.Version.{Version}
pub use fields.{Item as item_field, List as list_field, Dictionary as dictionary_field}
pub use versions.{Rfc8941, Rfc9651}
pub use errors.{TrailingCharactersAfterMember, TrailingComma, TrailingCharactersAfterParsedValue}
pub use errors.{ExpectedInnerListDelimiter, UnterminatedInnerList, ExpectedStartOfKey, ExpectedStartOfBareItem}
pub use errors.{ExpectedBoolean, ExpectedDigit, TooManyDigits, TooManyDigitsBeforeDecimalPoint}
pub use errors.{TooManyDigitsAfterDecimalPoint, TrailingDecimalPoint, NonIntegerDate, Rfc8941Date}
pub use errors.{InvalidStringCharacter, UnterminatedString, UnterminatedEscapeSequence, InvalidEscapeSequence}
pub use errors.{UnterminatedByteSequence, InvalidByteSequence, Rfc8941DisplayString, ExpectedQuote}
pub use errors.{InvalidUtf8InDisplayString, InvalidDisplayStringCharacter, UnterminatedDisplayString}
