-- The error of a field that does not parse.
use Rattle.std.specs.Prelude.{ℕ, Option, Some, None}
use Rattle.sfv_signatures.specs.declared.base_error.BaseErrorKind.{BaseErrorKind}
use Rattle.sfv_signatures.specs.declared.base_error.BaseErrorKind.TheVariants as kinds

-- with an index, the field does not parse; without one, memory ran out
abbrev pub parse_fault : Option ℕ → BaseErrorKind
parse_fault (Some index) = kinds.Unparsed
parse_fault None = kinds.OutOfMemory
