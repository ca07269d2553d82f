-- The six-bit values of bytes, in three steps, and the offsets that lead from values to symbols.
use Rattle.std.specs.Prelude.{ℕ, ◌+◌, ◌-◌, ◌*◌, ◌/◌, ◌%◌, ◌==◌, List, [], ◌∷◌, slice_index, nat_lt, if◌then◌else◌}
use Rattle.std.specs.Prelude.{IsTrue}
use Rattle.std.specs.List.{list_all, range_with_len}
use Rattle.sfv_spec.specs.Base64.{symbol}

-- the four six-bit values of each three bytes
unfoldable pub six_bits : List ℕ → List ℕ
six_bits [] = []
six_bits (a ∷ []) = []
six_bits (a ∷ b ∷ []) = []
six_bits (a ∷ b ∷ c ∷ rest) = (a / 4) ∷ (a % 4 * 16 + b / 16) ∷ (b % 16 * 4 + c / 64) ∷ (c % 64) ∷ six_bits rest

-- the first and the second, and the second and the third of each three bytes, as numbers of two bytes
unfoldable pub byte_pairs : List ℕ → List ℕ
byte_pairs [] = []
byte_pairs (a ∷ []) = []
byte_pairs (a ∷ b ∷ []) = []
byte_pairs (a ∷ b ∷ c ∷ rest) = (b + 256 * a) ∷ (c + 256 * b) ∷ byte_pairs rest

-- the two six-bit values in each number of two bytes, the first one in the low byte
unfoldable pub value_pairs : List ℕ → List ℕ
value_pairs [] = []
value_pairs (x ∷ []) = []
value_pairs (x ∷ y ∷ rest) = (x / 1024 % 64 + x / 16 % 64 * 256) ∷ (y / 64 % 64 + y % 64 * 256) ∷ value_pairs rest

-- the index of the offset of a value
abbrev pub offset_index : ℕ → ℕ
offset_index v = if nat_lt v 26 then 13 else v - 51

-- each value and its offset make its symbol, modulo 256
abbrev pub AreOffsets : List ℕ → Type 0
AreOffsets offsets =
    IsTrue (list_all (λ v. (v + slice_index offsets (offset_index v)) % 256 == symbol v) (range_with_len 0 64))
