-- An error of parsing: a syntax error, or the error of a visitor.
use Rattle.std.specs.Prelude.{ℕ, List, Option, Some, None}
use Rattle.sfv_base.specs.declared.error.ParseError.{ParseError}
use Rattle.sfv_base.specs.declared.error.ParseError.TheVariants.{Syntax, Visitor}
use Rattle.sfv_base.specs.Errors.{index_of, error_text}

-- the index of a syntax error; an error of a visitor has none
abbrev pub parse_index : {E : Type 0} → ParseError E → Option ℕ
parse_index (Syntax e) = index_of e
parse_index (Visitor _) = None

-- the printed text of an error; `output` is the printed text of a visitor's error
abbrev pub parse_output : {E : Type 0} → (E → Option (List ℕ)) → ParseError E → Option (List ℕ)
parse_output output (Syntax e) = Some (error_text e)
parse_output output (Visitor e) = output e
