-- Bytes in Base32 (RFC 4648, section 6).
use Rattle.std.specs.Prelude.{ℕ, ◌+◌, ◌-◌, ◌*◌, ◌/◌, ◌%◌, List, [], ◌∷◌, ◌++◌, codes, replicate, slice_index, take}
use Rattle.sfv.specs.Ascii.{byte}

-- the 32 symbols, in the order of their values from 0
abbrev pub symbols : List ℕ
symbols = codes "ABCDEFGHIJKLMNOPQRSTUVWXYZ234567"

-- the symbol of this value
abbrev pub symbol : ℕ → ℕ
symbol value = slice_index symbols value

-- the eight symbols of five bytes, with five bits each
abbrev pub group_symbols : ℕ → ℕ → ℕ → ℕ → ℕ → List ℕ
group_symbols a b c d e =
    symbol (a / 8) ∷ symbol (a % 8 * 4 + b / 64) ∷ symbol (b / 2 % 32) ∷ symbol (b % 2 * 16 + c / 16)
    ∷ symbol (c % 16 * 2 + d / 128) ∷ symbol (d / 4 % 32) ∷ symbol (d % 4 * 8 + e / 32) ∷ symbol (e % 32) ∷ []

-- the first of eight symbols, as many as `count`, and padding in the place of the others
abbrev pub padded : ℕ → List ℕ → List ℕ
padded count group = take count group ++ replicate (8 - count) (byte "=")

-- The text of bytes: eight symbols for each group of five bytes. If the last group has fewer bytes, zeros follow them,
-- and padding takes the place of the symbols that have no bit of a byte.
unfoldable pub base32_text : List ℕ → List ℕ
base32_text [] = []
base32_text (a ∷ []) = padded 2 (group_symbols a 0 0 0 0)
base32_text (a ∷ b ∷ []) = padded 4 (group_symbols a b 0 0 0)
base32_text (a ∷ b ∷ c ∷ []) = padded 5 (group_symbols a b c 0 0)
base32_text (a ∷ b ∷ c ∷ d ∷ []) = padded 7 (group_symbols a b c d 0)
base32_text (a ∷ b ∷ c ∷ d ∷ e ∷ rest) = group_symbols a b c d e ++ base32_text rest
