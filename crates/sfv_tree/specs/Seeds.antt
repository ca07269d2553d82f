-- The hash seed of a value's maps.
use Rattle.std.specs.Prelude.{◌≡◌, ℕ, List, [], ◌∷◌, map, All}
use Rattle.indexmap.specs.IndexMap.{IndexMap, hasher_of}
use Rattle.sfv_tree.specs.declared.hash_seed.HashSeed.{HashSeed}
use Rattle.sfv_tree.specs.declared.parsed.Item.{Item}
use Rattle.sfv_tree.specs.declared.parsed.InnerList.{InnerList}
use Rattle.sfv_tree.specs.declared.parsed.ListEntry.{ListEntry}
use Rattle.sfv_tree.specs.declared.parsed.ListEntry.TheVariants as entries

-- the parameters of the item hash under this seed
abbrev pub ItemHasSeed : HashSeed → Item → Type 0
ItemHasSeed seed i = hasher_of i.params ≡ seed

-- the parameters of the inner list and of each item hash under this seed
abbrev pub InnerListHasSeed : HashSeed → InnerList → Type 0
InnerListHasSeed seed l = (hasher_of l.params ≡ seed) × All (ItemHasSeed seed) l.items.items

-- the parameters of the member, and of its items, hash under this seed
abbrev pub MemberHasSeed : HashSeed → ListEntry → Type 0
MemberHasSeed seed (entries.Item i) = ItemHasSeed seed i
MemberHasSeed seed (entries.InnerList l) = InnerListHasSeed seed l

-- the parameters of all members hash under this seed
abbrev pub ListHasSeed : HashSeed → List ListEntry → Type 0
ListHasSeed seed members = All (MemberHasSeed seed) members

-- the dictionary and the parameters of all members hash under this seed
abbrev pub DictionaryHasSeed : HashSeed → IndexMap (List ℕ) ListEntry HashSeed → Type 0
DictionaryHasSeed seed d = (hasher_of d ≡ seed) × All (λ p. MemberHasSeed seed p.1) d.entries

-- the seeds of the maps of a member: of its own parameters, and of those of its items in order
abbrev pub member_seeds : ListEntry → List HashSeed
member_seeds (entries.Item i) = hasher_of i.params ∷ []
member_seeds (entries.InnerList l) = hasher_of l.params ∷ map (λ i. hasher_of i.params) l.items.items
