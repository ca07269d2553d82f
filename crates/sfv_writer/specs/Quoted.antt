-- The written text between the quotes of strings and display strings. The flag is true for a display string.
use Rattle.std.specs.Prelude.{ℕ, Bool, true, false, List}
use Rattle.sfv_spec.specs.Classes.{is_string_byte}
use Rattle.sfv_spec.specs.Values.{is_byte}
use Rattle.sfv_spec.specs.Canonical.{string_piece, display_piece}

-- a byte that the value may contain
abbrev pub held_of : Bool → ℕ → Bool
held_of true = is_byte
held_of false = is_string_byte

-- the written text of a byte
abbrev pub piece_of : Bool → ℕ → List ℕ
piece_of true = display_piece
piece_of false = string_piece
