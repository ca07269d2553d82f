-- Lists and dictionaries, and a comma after their last member.
use Rattle.std.specs.Prelude.{◌≡◌, ℕ, List, ◌++◌, length, codes, ⊤}
use Rattle.sfv_spec.specs.Values.{RawField, HasMember}
use Rattle.sfv_spec.specs.Grammar.{IsFieldText, OptionalWhitespace}
use Rattle.sfv_spec.specs.declared.field_kind.FieldKind.{FieldKind}
use Rattle.sfv_spec.specs.declared.field_kind.FieldKind.TheVariants.{Item as item_field, List as list_field}
use Rattle.sfv_spec.specs.declared.field_kind.FieldKind.TheVariants.{Dictionary as dictionary_field}
use Rattle.sfv_spec.specs.declared.version.Version.{Version}

-- a list or a dictionary
abbrev pub HasManyMembers : FieldKind → Type 0
HasManyMembers item_field = ⊥
HasManyMembers list_field = ⊤
HasManyMembers dictionary_field = ⊤

-- an accepted list or dictionary with a member, then a comma, OWS, and the end: the fault is at the comma
pub record IsTrailingComma (version : Version) (kind : FieldKind) (t : List ℕ) (index : ℕ) : Type 0 where
  pub many : HasManyMembers kind
  pub before : List ℕ
  pub whitespace : List ℕ
  pub raw : RawField kind
  pub text : t ≡ before ++ codes "," ++ whitespace
  pub blank : OptionalWhitespace whitespace
  pub accepted : IsFieldText version kind raw before
  pub member : HasMember kind raw
  pub here : index ≡ length before
