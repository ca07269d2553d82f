-- Short words for the values of trees and their parts.
use Rattle.std.proofs.Common.{ℕ, List, map}
use Rattle.sfv_spec.specs.Values.{BareValue, RawItem, RawInnerList, RawMember}
use Rattle.sfv_values.specs.BareItems.{bare_value}
use Rattle.sfv_tree.specs.Trees.{OwnedBareItem, pairs_tree, item_tree, member_tree}
use Rattle.sfv_tree.specs.declared.parsed.{Item.Item, ListEntry.ListEntry}

-- the pair of a key and its value, and of a key and its member
abbrev pub pair_tree : List ℕ × OwnedBareItem → List ℕ × BareValue
pair_tree p = (p.0, bare_value p.1)

abbrev pub entry_tree : List ℕ × ListEntry → List ℕ × RawMember
entry_tree p = (p.0, member_tree p.1)

-- the item with this value and these parameters; the inner list with these items and these parameters
abbrev pub item_with : OwnedBareItem → List (List ℕ × OwnedBareItem) → RawItem
item_with value params = record { bare = bare_value value; parameters = pairs_tree params }

abbrev pub inner_list_with : List Item → List (List ℕ × OwnedBareItem) → RawInnerList
inner_list_with items params = record { items = map item_tree items; parameters = pairs_tree params }
