-- The values of parameters, items, inner lists, lists and dictionaries.
use Rattle.std.specs.Prelude.{◌≡◌, ℕ, List, [], false, map, Option, option_map, option_copied}
use Rattle.std.specs.Borrow.{Bor}
use Rattle.std.specs.declared.alloc.Global.{Global}
use Rattle.std.specs.declared.vec.Vec.{Vec}
use Rattle.std.specs.declared.string.String.{String}
use Rattle.sfv_spec.specs.Values.{RawParameters, RawItem, RawInnerList, RawMember, item, inner_list}
use Rattle.sfv_values.specs.declared.bare.GenericBareItem.{GenericBareItem}
use Rattle.sfv_values.specs.BareItems.{bare_value, holds_bytes}
use Rattle.sfv_tree.specs.declared.parsed.Item.{Item}
use Rattle.sfv_tree.specs.declared.parsed.InnerList.{InnerList}
use Rattle.sfv_tree.specs.declared.parsed.ListEntry.{ListEntry}
use Rattle.sfv_tree.specs.declared.parsed.ListEntry.TheVariants as entries

-- `BareItem`; antt has no name for an alias
abbrev pub OwnedBareItem : Type 0
OwnedBareItem = GenericBareItem (List ℕ) (Vec ℕ Global) (List ℕ) (String Global)

-- the pairs of parameters, in order
abbrev pub pairs_tree : List (List ℕ × OwnedBareItem) → RawParameters
pairs_tree pairs = map (λ p. (p.0, bare_value p.1)) pairs

-- the value of what a look-up by key returned, if it found one
abbrev pub found : {A B : Type 0} → (A → B) → Option (Bor A) → Option B
found tree result = option_map tree (option_copied result)

-- the value of an item
abbrev pub item_tree : Item → RawItem
item_tree i = record { bare = bare_value i.bare_item; parameters = pairs_tree i.params.entries }

-- the value of an inner list
abbrev pub inner_list_tree : InnerList → RawInnerList
inner_list_tree l = record { items = map item_tree l.items.items; parameters = pairs_tree l.params.entries }

-- the value of a member of a list or a dictionary
abbrev pub member_tree : ListEntry → RawMember
member_tree (entries.Item i) = item (item_tree i)
member_tree (entries.InnerList l) = inner_list (inner_list_tree l)

-- A copy of this value needs no memory. An item has no text, no bytes and no parameters; an inner list has no items and
-- no parameters.
abbrev pub NeedsNoMemory : RawMember → Type 0
NeedsNoMemory (item i) = (holds_bytes i.bare ≡ false) × (i.parameters ≡ [])
NeedsNoMemory (inner_list l) = (l.items ≡ []) × (l.parameters ≡ [])

-- the value of the members of a list, in order
abbrev pub list_tree : List ListEntry → List RawMember
list_tree members = map member_tree members

-- the pairs of a dictionary, in order
abbrev pub dictionary_tree : List (List ℕ × ListEntry) → List (List ℕ × RawMember)
dictionary_tree entries = map (λ p. (p.0, member_tree p.1)) entries
