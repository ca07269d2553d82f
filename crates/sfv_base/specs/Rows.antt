-- The tables of classes: for each byte, the sum of the classes that contain it.
use Rattle.std.specs.Prelude.{ℕ, ◌+◌, Bool, if◌then◌else◌}
use Rattle.std.specs.List.{count_by, range_with_len}
use Rattle.sfv_spec.specs.Classes.{is_string_byte, is_token_start, is_token_inner, is_key_start, is_key_inner}
use Rattle.sfv_spec.specs.Classes.{is_lower_hexadecimal}
use Rattle.sfv_spec.specs.Strings.{is_plain_in_display}
use Rattle.sfv_spec.proofs.Marks.{is_plain_in_string, is_symbol}

-- `n` for a byte of the class, and 0 for any other byte
abbrev pub weight : ℕ → Bool → ℕ
weight n b = if b then n else 0

-- the sum of the classes that contain the byte (RFC 9651, sections 3.1.2, 3.3.3, 3.3.4 and 3.3.8)
abbrev pub class_sum : ℕ → ℕ
class_sum c =
    weight 1 (is_string_byte c) + weight 2 (is_token_start c) + weight 4 (is_token_inner c) + weight 8 (is_key_start c)
    + weight 16 (is_key_inner c) + weight 32 (is_lower_hexadecimal c)

-- the same for the bytes that a string and a display string contain without an escape, and the symbols of Base64
abbrev pub run_class_sum : ℕ → ℕ
run_class_sum c = weight 1 (is_plain_in_string c) + weight 2 (is_plain_in_display c) + weight 4 (is_symbol c)

-- the number of bytes of a class
abbrev pub class_size : (ℕ → Bool) → ℕ
class_size class = count_by class (range_with_len 0 256)
