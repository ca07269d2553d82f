-- The field Sec-CH-UA-Mobile, which is an item.
use Rattle.std.specs.Prelude.{◌≡◌, ◌≢◌, ℕ, List, Bool}
use Rattle.sfv.specs.Values.{boolean, RawItem}
use Rattle.sfv.specs.Types.{item_field, Rfc9651}
use Rattle.sfv.specs.Parsers.{IsParseError}
use Rattle.sfv.specs.Memory.{NeedsMemory}
use Rattle.sfv.specs.Statements.{IsParsedAs}
use Rattle.sfv_first_field.specs.declared.mobile_hint.HintError.{HintError}
use Rattle.sfv_first_field.specs.declared.mobile_hint.HintError.TheVariants as errors

-- the text parses to an item with this Boolean
abbrev pub IsMobileHint : List ℕ → Bool → Type 0
IsMobileHint t mobile = (item : RawItem) × IsParsedAs Rfc9651 item_field t item × (item.bare ≡ boolean mobile)

-- the error of the parser, which is out of memory only if the text may need memory; or the text parses to an item that
-- is not a Boolean
abbrev pub IsHintError : List ℕ → HintError → Type 0
IsHintError t (errors.Parse e) = IsParseError Rfc9651 item_field t e × NeedsMemory item_field t e
IsHintError t errors.WrongType =
    (item : RawItem) × IsParsedAs Rfc9651 item_field t item × ((mobile : Bool) → item.bare ≢ boolean mobile)
