-- Delimiters of items and of members, and the two kinds of member.
use Rattle.std.specs.Prelude.{true, false, Bool, ℕ, List, [], flat_map, ◌∷◌, ◌++◌}
use Rattle.sfv_spec.specs.Values.{RawMember, item, inner_list}
use Rattle.sfv_spec.specs.declared.field_kind.FieldKind.{FieldKind}
use Rattle.sfv_spec.specs.declared.field_kind.FieldKind.TheVariants.{List as list_field, Dictionary as dictionary_field}
use Rattle.sfv_spec.specs.declared.version.Version.{Version}
use Rattle.sfv_spec.specs.Events.{TreeEvent, item_events, inner_list_end, parameters_events, inner_item_events}
use Rattle.sfv_spec.specs.Events.{entry_events, keyed_events}
use Rattle.sfv_model.specs.Reader.{Reader, give, ahead, any, one_and_more}
use Rattle.sfv_model.specs.Members.{entry_at, keyed_at, item_delimited}
use Rattle.sfv_model.specs.Fields.{member_delimited, next_at}

-- after an item of an inner list: `true` if another item follows, `false` after the closing parenthesis
unfoldable pub item_delimiter_at : Reader Bool
item_delimiter_at = item_delimited (give false) (give true)

-- after a member: `true` if another member follows a comma, `false` at the end
unfoldable pub member_delimiter_at : Reader Bool
member_delimiter_at = member_delimited (give false) (give true)

-- the events of a member after its first event
abbrev pub after_begin : RawMember → List TreeEvent
after_begin (item i) = item_events i
after_begin (inner_list l) = flat_map inner_item_events l.items ++ inner_list_end ∷ parameters_events l.parameters

-- `true`: a dictionary member with its key; `false`: a list member
abbrev pub MemberValue : Bool → Type 0
MemberValue true = List ℕ × RawMember
MemberValue false = RawMember

-- the events of the member
abbrev pub member_parts : (keyed : Bool) → MemberValue keyed → List TreeEvent
member_parts true = keyed_events
member_parts false = entry_events

-- the reader of one member: with its key for a dictionary (`true`), without for a list (`false`)
abbrev pub one_member_at : (keyed : Bool) → Version → Reader (MemberValue keyed)
one_member_at true = keyed_at
one_member_at false = entry_at

-- the reader of the members up to the end of the text, after leading spaces
abbrev pub all_members_at : (keyed : Bool) → Version → Reader (List (MemberValue keyed))
all_members_at keyed version = ahead any
    (one_and_more (member_parts keyed) (one_member_at keyed version) (next_at (one_member_at keyed version))) (give [])

-- the type of field with such members
abbrev pub field_of : Bool → FieldKind
field_of true = dictionary_field
field_of false = list_field
