-- A member of a list that is written alone.
use Rattle.std.specs.Prelude.{[], ◌∷◌}
use Rattle.sfv_spec.specs.Values.{RawMember}
use Rattle.sfv_spec.specs.declared.field_kind.FieldKind.TheVariants.{List as list_field}
use Rattle.sfv_spec.specs.declared.version.Version.{Version}
use Rattle.sfv_spec.specs.Canonical.{member_text}
use Rattle.sfv_spec.specs.Statements.{IsParsedAs}

-- the text of this member parses, under the version, to the list with this one member
abbrev pub IsReadBackAlone : Version → RawMember → Type 0
IsReadBackAlone version member = IsParsedAs version list_field (member_text member) (member ∷ [])
