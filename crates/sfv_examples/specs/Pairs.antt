-- The text of two members, and the errors of writing them.
use Rattle.std.specs.Prelude.{◌≡◌, ◌⊎◌, ℕ, List, [], ◌∷◌, ◌++◌, codes}
use Rattle.sfv.specs.BareItems.{ref_value}
use Rattle.sfv_examples.specs.Uses.{LentBareItem}
use Rattle.sfv.specs.Values.{BareValue, AllFit}
use Rattle.sfv.specs.Types.{Version, SerializeError}
use Rattle.sfv.specs.Canonical.{bare_text}
use Rattle.sfv.specs.Versions.{NamesFirstUnfit}
use Rattle.sfv.specs.Types.serialize_errors as errors

-- the text of a list with these two members
abbrev pub two_members : BareValue → BareValue → List ℕ
two_members first second = bare_text first ++ codes ", " ++ bare_text second

-- the same for two bare items
abbrev pub both_text : LentBareItem → LentBareItem → List ℕ
both_text first second = two_members (ref_value first) (ref_value second)

-- The error of writing two values in order: out of memory if the version has the first, or the kind of the first value
-- that it lacks.
abbrev pub IsPairError : Version → BareValue → BareValue → SerializeError → Type 0
IsPairError version first second error =
    ((error ≡ errors.OutOfMemory) × AllFit version (first ∷ []))
    ⊎ NamesFirstUnfit version (first ∷ second ∷ []) error

-- the same for two bare items
abbrev pub IsBothError : Version → LentBareItem → LentBareItem → SerializeError → Type 0
IsBothError version first second = IsPairError version (ref_value first) (ref_value second)
