-- The texts for which the parser allocates memory.
use Rattle.std.specs.Prelude.{◌≡◌, ⊤, ℕ, List, ◌⊎◌, Bool, ◌||◌, ◌==◌, not, IsTrue, codes}
use Rattle.std.specs.List.{Contains}
use Rattle.sfv_spec.specs.Ascii.{byte}
use Rattle.sfv_spec.specs.Classes.{is_token_start, is_one_of}
use Rattle.sfv_spec.specs.declared.field_kind.FieldKind.{FieldKind}
use Rattle.sfv_spec.specs.declared.field_kind.FieldKind.TheVariants.{Item as item_field}
use Rattle.sfv_base.specs.declared.error.Error.{Error}
use Rattle.sfv_spec.specs.declared.error_kind.ErrorKind.TheVariants.{OutOfMemory}
use Rattle.sfv_base.specs.declared.error.ParseError.{ParseError}
use Rattle.sfv_base.specs.declared.error.ParseError.TheVariants as parse_errors
use Rattle.sfv_base.specs.Errors.{kind_of, out_of_memory}

-- the text contains a backslash, a percent sign or a colon
abbrev pub HoldsMark : List ℕ → Type 0
HoldsMark t = Contains t (byte "\\") ⊎ (Contains t (byte "%") ⊎ Contains t (byte ":"))

-- The byte may need memory. A field without such a byte needs none: an item is a number, a boolean or a date without
-- parameters; a list or a dictionary is empty.
abbrev pub may_need_memory : FieldKind → ℕ → Bool
may_need_memory item_field c = is_token_start c || is_one_of (codes "\"\\%:;") c
may_need_memory kind c = not (c == byte " ")

-- a syntax error is out of memory only if the text contains a backslash, a percent sign or a colon
abbrev pub NeedsMark : {E : Type 0} → List ℕ → ParseError E → Type 0
NeedsMark t (parse_errors.Syntax e) = e ≡ out_of_memory → HoldsMark t
NeedsMark t (parse_errors.Visitor fault) = ⊤

-- the error is out of memory only if the text contains a byte that may need memory in this type of field
abbrev pub NeedsMemory : FieldKind → List ℕ → Error → Type 0
NeedsMemory kind t e = e ≡ out_of_memory → (c : ℕ) × Contains t c × IsTrue (may_need_memory kind c)

-- the error is out of memory, and the text contains a backslash, a percent sign or a colon
abbrev pub IsRefusal : List ℕ → Error → Type 0
IsRefusal t e = (kind_of e ≡ OutOfMemory) × HoldsMark t
