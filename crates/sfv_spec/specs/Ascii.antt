-- The byte of an ASCII character.
use Rattle.std.specs.Prelude.{ℕ, codes, slice_index}
use Prim.Native.String.{String}

-- the byte of a text of one ASCII character, as `b'*'` in Rust
abbrev pub byte : String → ℕ
byte character = slice_index (codes character) 0
