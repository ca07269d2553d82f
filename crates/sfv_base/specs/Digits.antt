-- The digits of an escape in a display string.
use Rattle.std.specs.Prelude.{ℕ, Option, Some, None, if◌then◌else◌}
use Rattle.sfv_spec.specs.Classes.{is_lower_hexadecimal}
use Rattle.std.specs.Char.{digit_value as hexadecimal_value}

-- the value of a byte as a digit, if it is one (RFC 9651, section 3.3.8)
abbrev pub digit_value : ℕ → Option ℕ
digit_value c = if is_lower_hexadecimal c then Some (hexadecimal_value c) else None

-- the value of a byte as a digit, and 0 for any other byte
abbrev pub digit_row : ℕ → ℕ
digit_row c = if is_lower_hexadecimal c then hexadecimal_value c else 0
