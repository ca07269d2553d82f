-- The options of a command line, from the matches of `clap`.
use Rattle.std.specs.Prelude.{◌≡◌, ◌&&◌, not, ℕ, List, Bool, true, false, Option, Some, None, codes, if◌then◌else◌}
use Rattle.std.specs.Str.{bytes_eq}
use Rattle.sfv_spec.specs.declared.field_kind.FieldKind.{FieldKind}
use Rattle.sfv_spec.specs.declared.field_kind.FieldKind.TheVariants as kinds
use Rattle.sfv_spec.specs.declared.version.Version.{Version}
use Rattle.sfv_spec.specs.declared.version.Version.TheVariants.{Rfc8941, Rfc9651}
use Rattle.sfv_lint_args.specs.declared.options.ColorChoice.{ColorChoice}
use Rattle.sfv_lint_args.specs.declared.options.ColorChoice.TheVariants as choices

-- the field type of the argument of `--type`
abbrev pub kind_of_word : Option (List ℕ) → Option FieldKind
kind_of_word None = None
kind_of_word (Some word) =
    if bytes_eq word (codes "item") then Some kinds.Item
    else if bytes_eq word (codes "list") then Some kinds.List
    else if bytes_eq word (codes "dict") then Some kinds.Dictionary
    else None

-- the version of the argument of `--version`: RFC 8941 for `8941`, otherwise RFC 9651
abbrev pub version_of_word : Option (List ℕ) → Version
version_of_word None = Rfc9651
version_of_word (Some word) = if bytes_eq word (codes "8941") then Rfc8941 else Rfc9651

-- when the output has colors, by the argument of `--color`
abbrev pub color_of_word : Option (List ℕ) → ColorChoice
color_of_word None = choices.Auto
color_of_word (Some word) =
    if bytes_eq word (codes "always") then choices.Always
    else if bytes_eq word (codes "never") then choices.Never
    else choices.Auto

-- the output has colors: always, never, or at a terminal if `NO_COLOR` is unset or empty
abbrev pub has_colors : ColorChoice → Bool → Bool → Bool
has_colors choices.Auto is_terminal no_color = is_terminal && not no_color
has_colors choices.Always is_terminal no_color = true
has_colors choices.Never is_terminal no_color = false

-- the flag is not set without an argument, and set by one
pub record IsFlag (text : Option (List ℕ)) (flag : Bool) : Type 0 where
  pub absent : text ≡ None → flag ≡ false
  pub present : text ≡ Some (codes "true") → flag ≡ true
