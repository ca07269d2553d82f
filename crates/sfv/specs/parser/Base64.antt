-- Runs of Base64 symbols and of padding, the bytes of symbols, and the offsets that lead from symbols to values.
use Rattle.std.specs.Prelude.{◌≡◌, ℕ, ◌+◌, ◌*◌, ◌/◌, ◌%◌, ◌≤◌, ◌⊎◌, List, [], ◌∷◌, length, take, drop, replicate, map}
use Rattle.std.specs.Prelude.{◌==◌, slice_index, if◌then◌else◌, IsTrue}
use Rattle.std.specs.List.{list_all}
use Rattle.sfv_spec.proofs.Marks.{equals_sign, is_symbol, slash}
use Rattle.sfv_spec.specs.Base64.{symbols}
use Rattle.sfv_spec.specs.Texts.{RunOf}
use Rattle.sfv_model.specs.Reader.{Apart, byte}
use Rattle.sfv_model.specs.Content.{bytes_from, symbol_value}

-- `n` is the length of the longest run of symbols at the start of `t`
pub record IsSymbolRun (t : List ℕ) (n : ℕ) : Type 0 where
  pub within : n ≤ length t
  pub each : RunOf is_symbol (take n t)
  pub ends : Apart is_symbol (drop n t)

-- `n` is the number of padding bytes at the start of `t`, at most `most`
pub record IsPaddingRun (t : List ℕ) (most n : ℕ) : Type 0 where
  pub within : n ≤ length t
  pub room : n ≤ most
  pub each : take n t ≡ replicate n equals_sign
  pub ends : (n ≡ most) ⊎ Apart (byte equals_sign) (drop n t)

-- the bytes that these symbols encode
abbrev pub decoded_symbols : List ℕ → List ℕ
decoded_symbols cs = bytes_from (map symbol_value cs)

-- the number of each group of four six-bit values, the first value highest
unfoldable pub group_numbers : List ℕ → List ℕ
group_numbers [] = []
group_numbers (a ∷ []) = []
group_numbers (a ∷ b ∷ []) = []
group_numbers (a ∷ b ∷ c ∷ []) = []
group_numbers (a ∷ b ∷ c ∷ d ∷ rest) = ((a * 64 + b) * 4096 + (c * 64 + d)) ∷ group_numbers rest

-- the three lowest bytes of each number, the highest first
unfoldable pub bytes_of_groups : List ℕ → List ℕ
bytes_of_groups [] = []
bytes_of_groups (n ∷ rest) = (n / 65536 % 256) ∷ (n / 256 % 256) ∷ (n % 256) ∷ bytes_of_groups rest

-- the index of the offset of a symbol
abbrev pub offset_index : ℕ → ℕ
offset_index c = if c == slash then 1 else c / 16

-- each symbol and its offset make its value, modulo 256
abbrev pub AreOffsets : List ℕ → Type 0
AreOffsets offsets = IsTrue (list_all (λ c. (c + slice_index offsets (offset_index c)) % 256 == symbol_value c) symbols)
