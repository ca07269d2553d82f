-- Writing a field into a header map.
use Rattle.std.specs.Prelude.{◌≡◌, ⊤, ℕ, List}
use Rattle.http_header.specs.HeaderMap.{Entries, insert, remove, RefusesInsert}
use Rattle.http_header.specs.FieldValue.{FieldValue, plain_value}
use Rattle.sfv.specs.Field.{Version, FieldKind, RawField, HasMember, canonical}
use Rattle.sfv.specs.Values.{bare_values}
use Rattle.sfv.specs.Versions.{NamesFirstUnfit}
use Rattle.sfv.specs.Types.serialize_errors
use Rattle.sfv_headers.specs.declared.write_error.WriteError.{WriteError}
use Rattle.sfv_headers.specs.declared.write_error.WriteError.TheVariants as errors

-- One line with the canonical text replaces all lines of the name. A list or a dictionary without members removes them.
pub record IsWritten (kind : FieldKind) (old new : Entries FieldValue) (name : List ℕ) (value : RawField kind) : Type 0 where
  pub line : HasMember kind value → new ≡ insert old name (plain_value (canonical kind value))
  pub removed : ¬ HasMember kind value → new ≡ remove old name

-- the first value that the version lacks; or the map lacks the name and is full; or memory ran out, for a value with a
-- member
abbrev pub IsWriteError : Version → (kind : FieldKind) → Entries FieldValue → List ℕ → RawField kind → WriteError → Type 0
IsWriteError version kind headers name value (errors.Unsupported b) =
    NamesFirstUnfit version (bare_values kind value) (serialize_errors.Unsupported b)
IsWriteError version kind headers name value errors.MaxSizeReached = RefusesInsert headers name
IsWriteError version kind headers name value errors.OutOfMemory = HasMember kind value

-- memory ran out, or the map lacks the name and has no room for it
abbrev pub IsMapFault : Entries FieldValue → List ℕ → WriteError → Type 0
IsMapFault headers name errors.OutOfMemory = ⊤
IsMapFault headers name errors.MaxSizeReached = RefusesInsert headers name
IsMapFault headers name (errors.Unsupported kind) = ⊥
