-- The steps of the builders of owned trees.
use Rattle.std.specs.Prelude.{◌≡◌, ◌⊎◌, ⊤, MatchOption, ℕ, List, [], ◌∷◌, ◌++◌, Bool, true, false, ◌&&◌, ◌||◌, Option}
use Rattle.std.specs.Prelude.{Some, None, is_none, option_map, bytes_eq}
use Rattle.std.specs.Map.{lookup}
use Rattle.indexmap.specs.IndexMap.{hasher_of, insert_entry}
use Rattle.sfv_spec.specs.Values.{BareValue, RawItem, RawInnerList, RawMember, item, inner_list}
use Rattle.sfv_spec.specs.Events.{TreeEvent, entry, keyed_entry, begins_item, begins_inner_list, bare_item, parameter}
use Rattle.sfv_spec.specs.Events.{parameters_end, inner_list_end}
use Rattle.sfv_values.specs.BareItems.{is_text}
use Rattle.sfv_tree.specs.Trees.{item_tree, inner_list_tree, member_tree, list_tree, dictionary_tree}
use Rattle.sfv_tree.specs.Seeds.{ItemHasSeed, InnerListHasSeed, MemberHasSeed}
use Rattle.sfv_tree.specs.declared.hash_seed.HashSeed.{HashSeed}
use Rattle.sfv_tree.specs.declared.parsed.ListEntry.{ListEntry}
use Rattle.sfv_tree.specs.declared.parsed.ListEntry.TheVariants as entries
use Rattle.sfv_tree.specs.declared.visitor.item_builder.ItemBuilder.{ItemBuilder}
use Rattle.sfv_tree.specs.declared.visitor.list_builder.ListBuilder.{ListBuilder}
use Rattle.sfv_tree.specs.declared.visitor.member.Member.{Member}
use Rattle.sfv_tree.specs.declared.visitor.member.Member.TheVariants as members
use Rattle.sfv_tree.specs.declared.visitor.member.Place.TheVariants as places
use Rattle.sfv_tree.specs.declared.visitor.dictionary_builder.DictionaryBuilder.{DictionaryBuilder}

-- the item with one more parameter: an existing key keeps its place and gets the new value, and a new key goes last
abbrev pub enters : RawItem → List ℕ → BareValue → RawItem
enters i key value = record { bare = i.bare; parameters = insert_entry bytes_eq i.parameters key value }

-- the state within a member, with its parsed part
pub data MemberState : Type 0 where
  -- the member has begun; an item or an inner list follows
  begun : MemberState
  -- an item has begun; its bare item follows
  item_head : MemberState
  -- an item with its parameters so far
  item_parameters : RawItem → MemberState
  -- an inner list with the items so far; an item or the end of the items follows
  inner_items : RawInnerList → MemberState
  -- an inner list with the items so far, and one more item has begun; its bare item follows
  inner_head : RawInnerList → MemberState
  -- an inner list with the items so far, and the current item with its parameters so far
  inner_parameters : RawInnerList → RawItem → MemberState
  -- an inner list with all its items, and its parameters so far
  list_parameters : RawInnerList → MemberState
  -- the whole member
  ended : RawMember → MemberState

-- an item without parameters
abbrev pub plain_item : BareValue → RawItem
plain_item value = record { bare = value; parameters = [] }

-- the state after an event; every other event changes nothing
abbrev pub member_step : MemberState → TreeEvent → MemberState
member_step begun begins_item = item_head
member_step begun begins_inner_list = inner_items (record { items = []; parameters = [] })
member_step item_head (bare_item value) = item_parameters (record { bare = value; parameters = [] })
member_step (item_parameters i) (parameter key value) = item_parameters (enters i key value)
member_step (item_parameters i) parameters_end = ended (item i)
member_step (inner_items l) begins_item = inner_head l
member_step (inner_items l) inner_list_end = list_parameters l
member_step (inner_head l) (bare_item value) = inner_parameters l (record { bare = value; parameters = [] })
member_step (inner_parameters l i) (parameter key value) = inner_parameters l (enters i key value)
member_step (inner_parameters l i) parameters_end =
    inner_items (record { items = l.items ++ i ∷ []; parameters = l.parameters })
member_step (list_parameters l) (parameter key value) =
    list_parameters (record { items = l.items; parameters = insert_entry bytes_eq l.parameters key value })
member_step (list_parameters l) parameters_end = ended (inner_list l)
member_step p e = p

-- The event allocates here: borrowed text, which is copied; a parameter, with its key; and the end of an inner
-- list's item, which goes into the list. A byte sequence or owned text is moved (`is_moved`). An event out of
-- sequence does not allocate.
abbrev pub takes_memory : MemberState → TreeEvent → Bool
takes_memory item_head (bare_item value) = is_text value
takes_memory (item_parameters i) (parameter key value) = true
takes_memory (inner_head l) (bare_item value) = is_text value
takes_memory (inner_parameters l i) (parameter key value) = true
takes_memory (inner_parameters l i) parameters_end = true
takes_memory (list_parameters l) (parameter key value) = true
takes_memory p e = false

-- the state of a member, with its tree so far
abbrev pub member_state : Member → MemberState
member_state members.Begun = begun
member_state members.ItemHead = item_head
member_state (members.Items l places.Items) = inner_items (inner_list_tree l)
member_state (members.Items l places.ItemHead) = inner_head (inner_list_tree l)
member_state (members.Items l (places.ItemParams i)) = inner_parameters (inner_list_tree l) (item_tree i)
member_state (members.Entry (entries.Item i)) = item_parameters (item_tree i)
member_state (members.Entry (entries.InnerList l)) = list_parameters (inner_list_tree l)

-- the member has a parsed part, which may be complete
abbrev pub IsEntry : Member → Type 0
IsEntry p = (m : ListEntry) × (p ≡ members.Entry m)

-- the state after an event, which ends the member or not
abbrev pub step_state : Bool → Member → MemberState
step_state false p = member_state p
step_state true (members.Entry m) = ended (member_tree m)
step_state true p = member_state p

-- the state of an item's builder
abbrev pub item_state : ItemBuilder → MemberState
item_state b = elim b.item [ None ↦ member_state b.member | Some m ↦ ended (member_tree m) ]

-- the parameters in the member so far hash under this seed
abbrev pub HasSeedSoFar : HashSeed → Member → Type 0
HasSeedSoFar seed (members.Items l (places.ItemParams i)) = InnerListHasSeed seed l × ItemHasSeed seed i
HasSeedSoFar seed (members.Items l p) = InnerListHasSeed seed l
HasSeedSoFar seed (members.Entry m) = MemberHasSeed seed m
HasSeedSoFar seed p = ⊤

-- the builder adds maps under this seed, and those that it has hash under it
abbrev pub IsItemUnder : HashSeed → ItemBuilder → Type 0
IsItemUnder seed b = (b.seed ≡ seed) × MatchOption b.item (HasSeedSoFar seed b.member) (MemberHasSeed seed)

-- the complete members of a state
abbrev pub complete : {A B : Type 0} → A × B → A
complete s = s.0

-- The state of a list's builder is the complete members, and the current member, if there is one. A member that has
-- ended is appended to the list.
abbrev pub settle : List RawMember → MemberState → List RawMember × Option MemberState
settle ms (ended m) = (ms ++ m ∷ [], None)
settle ms p = (ms, Some p)

-- the state after an event; every other event changes nothing
abbrev pub list_step : List RawMember × Option MemberState → TreeEvent → List RawMember × Option MemberState
list_step (ms, Some p) e = settle ms (member_step p e)
list_step (ms, None) entry = (ms, Some begun)
list_step s e = s

-- The event allocates here: within the member, or because the member ends (none is current then) and goes into the list. So a list requests
-- memory at text to copy, at a parameter, and at the end of the parameters of an item, an inner item or an inner list.
abbrev pub list_takes_memory : List RawMember × Option MemberState → TreeEvent → Bool
list_takes_memory (ms, Some p) e = takes_memory p e || is_none (list_step (ms, Some p) e).1
list_takes_memory s e = false

-- the state of a builder, with the list so far
abbrev pub list_state : ListBuilder → List RawMember × Option MemberState
list_state b = (list_tree b.list.items, option_map member_state b.member)

-- the builder adds maps under this seed, and the current member hashes under it
abbrev pub ListAddsUnder : HashSeed → ListBuilder → Type 0
ListAddsUnder seed b = (b.seed ≡ seed) × MatchOption b.member ⊤ (HasSeedSoFar seed)

-- `after` adds maps under each seed that `s` does. The list is unchanged, or one member under that seed is added last.
abbrev pub ListAdds : ListBuilder → ListBuilder → Type 0
ListAdds s after = (seed : HashSeed) → ListAddsUnder seed s → ListAddsUnder seed after × ((after.list.items ≡ s.list.items)
    ⊎ ((m : ListEntry) × (after.list.items ≡ s.list.items ++ m ∷ []) × MemberHasSeed seed m))

-- the state of a dictionary's builder: the complete members, and the current member, if there is one, with their keys
abbrev pub DictionaryState : Type 0
DictionaryState = List (List ℕ × RawMember) × Option (List ℕ × MemberState)

-- A member that has ended is inserted: an existing key keeps its place and gets the new member; a new key goes last.
abbrev pub settle_pair : List (List ℕ × RawMember) → List ℕ → MemberState → DictionaryState
settle_pair ms key (ended m) = (insert_entry bytes_eq ms key m, None)
settle_pair ms key p = (ms, Some (key, p))

-- the state after an event; every other event changes nothing
abbrev pub dictionary_step : DictionaryState → TreeEvent → DictionaryState
dictionary_step (ms, Some (key, p)) e = settle_pair ms key (member_step p e)
dictionary_step (ms, None) (keyed_entry key) = (ms, Some (key, begun))
dictionary_step s e = s

-- The event allocates here: a key is copied; within the member; or because the member ends and has a new key. So a
-- dictionary requests memory at a key, at text to copy, at a parameter, at the end of the parameters of an inner item,
-- and, for a new key, at the end of the parameters of a member.
abbrev pub dictionary_takes_memory : DictionaryState → TreeEvent → Bool
dictionary_takes_memory (ms, Some (key, p)) e = takes_memory p e
    || (is_none (dictionary_step (ms, Some (key, p)) e).1 && is_none (lookup (bytes_eq key) ms))
dictionary_takes_memory (ms, None) (keyed_entry key) = true
dictionary_takes_memory s e = false

-- the state of a builder, with the dictionary so far
abbrev pub dictionary_state : DictionaryBuilder → DictionaryState
dictionary_state b = (dictionary_tree b.dictionary.entries, option_map (λ m. (m.0, member_state m.1)) b.member)

-- the dictionary hashes under this seed, and so does the current member
abbrev pub DictionaryAddsUnder : HashSeed → DictionaryBuilder → Type 0
DictionaryAddsUnder seed b = (hasher_of b.dictionary ≡ seed) × MatchOption b.member ⊤ (λ p. HasSeedSoFar seed p.1)

-- `after` adds maps under each seed that `s` does. The dictionary is unchanged, or one member under that seed is inserted.
abbrev pub DictionaryAdds : DictionaryBuilder → DictionaryBuilder → Type 0
DictionaryAdds s after = (seed : HashSeed) → DictionaryAddsUnder seed s → DictionaryAddsUnder seed after
    × ((after.dictionary.entries ≡ s.dictionary.entries) ⊎ ((key : List ℕ) × (m : ListEntry)
    × (after.dictionary.entries ≡ insert_entry bytes_eq s.dictionary.entries key m) × MemberHasSeed seed m))
