-- The errors of the constructors of keys, tokens and strings.
use Rattle.std.specs.Prelude.{◌≡◌, ℕ, List, [], Bool, Some, None, ◌⊎◌}
use Rattle.sfv_spec.specs.Classes.{first_outside, is_string_byte, is_key_start, is_key_inner, is_token_start}
use Rattle.sfv_spec.specs.Classes.{is_token_inner}
use Rattle.sfv_base.specs.declared.error.Error.{Error}
use Rattle.sfv_spec.specs.declared.error_kind.ErrorKind.TheVariants.{Empty, InvalidCharacter}
use Rattle.sfv_base.specs.Errors.{error_of}

-- the error is an invalid character at the first byte outside its class
abbrev pub IsOutside : (ℕ → Bool) → (ℕ → Bool) → List ℕ → Error → Type 0
IsOutside start inner t e = (i : ℕ) × (first_outside start inner t ≡ Some i) × (e ≡ error_of InvalidCharacter (Some i))

-- the text is empty, and the error says this
abbrev pub IsEmpty : List ℕ → Error → Type 0
IsEmpty t e = (t ≡ []) × (e ≡ error_of Empty None)

-- the reason why a text is not a key (section 3.1.2)
abbrev pub IsInvalidKey : List ℕ → Error → Type 0
IsInvalidKey t e = IsEmpty t e ⊎ IsOutside is_key_start is_key_inner t e

-- the reason why a text is not a token (section 3.3.4)
abbrev pub IsInvalidToken : List ℕ → Error → Type 0
IsInvalidToken t e = IsEmpty t e ⊎ IsOutside is_token_start is_token_inner t e

-- the reason why a text is not a string (section 3.3.3)
abbrev pub IsInvalidString : List ℕ → Error → Type 0
IsInvalidString t e = IsOutside is_string_byte is_string_byte t e
