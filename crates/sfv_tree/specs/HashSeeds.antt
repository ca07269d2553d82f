-- The seeds of the maps' hash.
use Rattle.std.specs.Prelude.{◌≡◌, ℕ, List}
use Rattle.std.specs.Int.{from_le_bytes, w64}
use Rattle.std.specs.Hash as fed
use Rattle.std.specs.Hash.FoldHasher as folding
use Rattle.std.specs.List.{fold}
use Rattle.sfv_tree.specs.declared.hash_seed.HashSeed.{HashSeed}

-- the library's seed, a public constant
abbrev pub library_seed : HashSeed
library_seed = record { initial = folding.initial }

-- the seed of a number; the hasher takes it before each key
abbrev pub seed_of : ℕ → HashSeed
seed_of number = record { initial = fold folding.write folding.initial (fed.u64 number) }

-- the seed of the eight bytes that a source wrote, as a little-endian number
abbrev pub IsSeedFrom : (List ℕ → Type 0) → HashSeed → Type 0
IsSeedFrom writes seed = (bytes : List ℕ) × writes bytes × (seed ≡ seed_of (from_le_bytes w64 bytes))
