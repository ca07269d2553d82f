-- The check of one field.
use Rattle.std.specs.Prelude.{◌≡◌, ℕ, List, Option, Result, option_map, string_bytes, IfOk, IfErr}
use Rattle.std.specs.declared.alloc.Global.{Global}
use Rattle.std.specs.declared.string.String.{String}
use Rattle.sfv.specs.Values.{RawField}
use Rattle.sfv.specs.Types.{FieldKind, item_field, list_field, dictionary_field, Version, Rfc9651, Error}
use Rattle.sfv.specs.Trees.{item_tree, list_tree, dictionary_tree}
use Rattle.sfv.specs.Statements.{IsParsedAs, IsSerializedAs}
use Rattle.sfv.specs.Parsers.{IsParseError}
use Rattle.sfv_lint_report.specs.declared.check.FieldValue.{FieldValue}
use Rattle.sfv_lint_report.specs.declared.check.FieldValue.TheVariants as values
use Rattle.sfv_lint_report.specs.declared.check.Accepted.{Accepted}

-- the type of a parsed field
abbrev pub kind_of : FieldValue → FieldKind
kind_of (values.Item item) = item_field
kind_of (values.List list) = list_field
kind_of (values.Dictionary dictionary) = dictionary_field

-- its ordered value
abbrev pub tree_of : (value : FieldValue) → RawField (kind_of value)
tree_of (values.Item item) = item_tree item
tree_of (values.List list) = list_tree list.items
tree_of (values.Dictionary dictionary) = dictionary_tree dictionary.entries

-- the canonical text of the value is this text, if it has a member
abbrev pub IsCanonical : FieldValue → Option (List ℕ) → Type 0
IsCanonical (values.Item item) text = IsSerializedAs Rfc9651 item_field (item_tree item) text
IsCanonical (values.List list) text = IsSerializedAs Rfc9651 list_field (list_tree list.items) text
IsCanonical (values.Dictionary dictionary) text =
    IsSerializedAs Rfc9651 dictionary_field (dictionary_tree dictionary.entries) text

-- the text parses to this value under the version, and this is the canonical text of the value, if it has a member
pub record IsAccepted (version : Version) (kind : FieldKind) (t : List ℕ) (accepted : Accepted) : Type 0 where
  pub same_kind : kind_of accepted.value ≡ kind
  pub parsed : IsParsedAs version (kind_of accepted.value) t (tree_of accepted.value)
  pub canonical : IsCanonical accepted.value (option_map string_bytes accepted.text)

-- the outcome of a check: the value with its canonical text, or the error of `Parser::parse`
pub record IsOutcome (version : Version) (kind : FieldKind) (t : List ℕ) (outcome : Result Accepted Error) : Type 0 where
  pub accepted : IfOk outcome (IsAccepted version kind t)
  pub rejected : IfErr outcome (IsParseError version kind t)
