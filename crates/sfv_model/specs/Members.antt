-- Readers of inner lists, and of members of lists and dictionaries.
use Rattle.std.specs.Prelude.{ℕ, true, List, [], ◌∷◌, ◌++◌, flat_map, Option, Some, None}
use Rattle.sfv_spec.proofs.Marks.{equals_sign, left_parenthesis, right_parenthesis, is_space, true_with}
use Rattle.sfv_spec.specs.Values.{boolean, RawParameters, RawItem, RawMember, item, inner_list}
use Rattle.sfv_spec.specs.declared.version.Version.{Version}
use Rattle.sfv_spec.specs.Events.{TreeEvent, entry, keyed_entry, begins_item, begins_inner_list, bare_item}
use Rattle.sfv_spec.specs.Events.{inner_list_end, inner_item_events}
use Rattle.sfv_spec.specs.declared.error_kind.ErrorKind.TheVariants.{ExpectedInnerListDelimiter, UnterminatedInnerList}
use Rattle.sfv_model.specs.Reader.{Reader, give, fail, ◌>>=◌, branch, ahead, led, one_and_more, span, byte, any}
use Rattle.sfv_model.specs.Items.{key_at, parameters_at, item_at}

-- an item of an inner list
unfoldable pub inner_item_at : Version → Reader RawItem
inner_item_at version = led (begins_item ∷ []) (item_at version)

-- after an item of an inner list: spaces and `another`, or `closed` after the closing parenthesis
abbrev pub item_delimited : {A : Type 0} → Reader A → Reader A → Reader A
item_delimited closed another =
    branch is_space
    (λ _. span is_space >>= λ _. branch (byte right_parenthesis) (λ _. closed) another)
    (branch (byte right_parenthesis) (λ _. closed)
    (ahead any (fail ExpectedInnerListDelimiter) (fail UnterminatedInnerList)))

-- one more item, or none
unfoldable pub next_item_at : Version → Reader (Option RawItem)
next_item_at version = item_delimited (give None) (inner_item_at version >>= λ i. give (Some i))

-- the items of an inner list after its opening parenthesis, with the closing one
unfoldable pub inner_items_at : Version → Reader (List RawItem)
inner_items_at version =
    ahead any
    (span is_space >>= λ _. branch (byte right_parenthesis) (λ _. give [])
    (one_and_more inner_item_events (inner_item_at version) (next_item_at version)))
    (fail UnterminatedInnerList)

-- the inner list of these parts
abbrev pub inner_of : List RawItem → RawParameters → RawMember
inner_of is ps = inner_list (record { items = is; parameters = ps })

-- the events of items and their end
abbrev pub closed_events : List RawItem → List TreeEvent
closed_events is = flat_map inner_item_events is ++ inner_list_end ∷ []

-- an inner list after its opening parenthesis, with its parameters
unfoldable pub inner_at : Version → Reader RawMember
inner_at version = inner_items_at version >>= λ is. led (closed_events is)
    (parameters_at version >>= λ ps. give (inner_of is ps))

-- an inner list, or an item
unfoldable pub member_at : Version → Reader RawMember
member_at version = branch (byte left_parenthesis) (λ _. led (begins_inner_list ∷ []) (inner_at version))
    (led (begins_item ∷ []) (item_at version >>= λ i. give (item i)))

-- a list member, with its first event
unfoldable pub entry_at : Version → Reader RawMember
entry_at version = led (entry ∷ []) (member_at version)

-- the rest of a dictionary member after its key
unfoldable pub member_value_at : Version → Reader RawMember
member_value_at version =
    branch (byte equals_sign) (λ _. member_at version)
    (led (begins_item ∷ bare_item (boolean true) ∷ []) (parameters_at version >>= λ ps. give (true_with ps)))

-- a dictionary member with its key
unfoldable pub keyed_at : Version → Reader (List ℕ × RawMember)
keyed_at version = key_at >>= λ key. led (keyed_entry key ∷ []) (member_value_at version >>= λ m. give (key, m))
