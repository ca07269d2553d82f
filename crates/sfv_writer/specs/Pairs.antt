-- Borrowed parameters, in private contracts.
use Rattle.std.specs.Prelude.{ℕ, List, map}
use Rattle.std.specs.Borrow.{Bor}
use Rattle.sfv_spec.specs.Values.{BareValue, RawParameters}
use Rattle.sfv_values.specs.BareItems.{bare_value}
use Rattle.sfv_tree.specs.Trees.{OwnedBareItem, pairs_tree}

-- the pairs of borrowed parameters
abbrev pub lent_pairs : List (Bor (List ℕ) × Bor OwnedBareItem) → RawParameters
lent_pairs pairs = pairs_tree (map (λ p. (p.0.now, p.1.now)) pairs)

-- their values
abbrev pub pair_values : List (Bor (List ℕ) × Bor OwnedBareItem) → List BareValue
pair_values pairs = map (λ p. bare_value p.1.now) pairs
