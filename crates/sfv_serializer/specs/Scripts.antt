-- The fields that lists of calls describe.
use Rattle.std.specs.Prelude.{◌++◌, ◌-◌, [], ℕ, Bool, true, false, not, List, length, map, filter, take, drop, codes}
use Rattle.std.specs.Prelude.{if◌then◌else◌}
use Rattle.std.specs.declared.string.String.{String}
use Rattle.sfv_spec.specs.Texts.{joined}
use Rattle.sfv_spec.specs.Values.{BareValue, RawItem, RawMember, RawField, item, inner_list, Fits}
use Rattle.sfv_spec.specs.declared.field_kind.FieldKind.{FieldKind}
use Rattle.sfv_spec.specs.declared.field_kind.FieldKind.TheVariants.{List as list_field, Dictionary as dictionary_field}
use Rattle.sfv_spec.specs.declared.version.Version.{Version}
use Rattle.sfv_spec.specs.Canonical.{member_text, dictionary_member_text}
use Rattle.sfv_values.specs.KeyText.{KeyRef}
use Rattle.sfv_values.specs.CheckedTexts.{text_of}
use Rattle.sfv_values.specs.BareItems.{ref_value}
use Rattle.sfv_writer.specs.Written.{IsReadBack, LacksRoom}
use Rattle.sfv_serializer.specs.declared.script.ParamCall.{ParamCall}
use Rattle.sfv_serializer.specs.declared.script.ItemCalls.{ItemCalls}
use Rattle.sfv_serializer.specs.declared.script.MemberCalls.{MemberCalls}
use Rattle.sfv_serializer.specs.declared.script.MemberCalls.TheVariants as calls

-- the key and the value of a call
abbrev pub param_of_call : ParamCall → List ℕ × BareValue
param_of_call c = (text_of c.key, ref_value c.value)

-- the item that these calls write
abbrev pub item_of_calls : ItemCalls → RawItem
item_of_calls c = record { bare = ref_value c.value; parameters = map param_of_call c.params.items }

-- the member of these calls; an inner list that is abandoned is one without parameters
abbrev pub member_of_calls : MemberCalls → RawMember
member_of_calls (calls.Item i) = item (item_of_calls i)
member_of_calls (calls.InnerList items params true) =
    inner_list (record { items = map item_of_calls items.items; parameters = [] })
member_of_calls (calls.InnerList items params false) =
    inner_list (record { items = map item_of_calls items.items; parameters = map param_of_call params.items })

-- the member of these calls, with its key
abbrev pub entry_of_calls : KeyRef × MemberCalls → List ℕ × RawMember
entry_of_calls m = (text_of m.0, member_of_calls m.1)

-- the calls write a member: it is no inner list that is abandoned
abbrev pub is_written : MemberCalls → Bool
is_written (calls.InnerList items params abandon) = not abandon
is_written c = true

-- the list that the calls describe, repeated keys included, without the abandoned inner lists
abbrev pub described_list : List MemberCalls → RawField list_field
described_list members = map member_of_calls (filter is_written members)

-- the dictionary that the calls describe, repeated keys included, without the abandoned inner lists
abbrev pub described_dictionary : List (KeyRef × MemberCalls) → RawField dictionary_field
described_dictionary members = map entry_of_calls (filter (λ m. is_written m.1) members)

-- For some call, `old` has no room for the members written before it and the text that the call appends. An abandoned
-- inner list appends its text without the last parenthesis.
abbrev pub LacksForCall : {Z A : Type 0} → String Z → (A → Bool) → (A → List ℕ) → List A → Type 0
LacksForCall old is_written text calls = (n : ℕ) × LacksRoom old (joined (codes ", ")
    (map text (filter is_written (take n calls))
    ++ map (λ c. if is_written c then text c else take (length (text c) - 1) (text c)) (take 1 (drop n calls))))

-- the same for the calls of a list
abbrev pub LacksForListCall : {Z : Type 0} → String Z → List MemberCalls → Type 0
LacksForListCall old calls = LacksForCall old is_written (λ c. member_text (member_of_calls c)) calls

-- the same for the calls of a dictionary
abbrev pub LacksForEntryCall : {Z : Type 0} → String Z → List (KeyRef × MemberCalls) → Type 0
LacksForEntryCall old calls =
    LacksForCall old (λ m. is_written m.1) (λ m. dictionary_member_text (entry_of_calls m)) calls

-- the text of the field parses back under each version that has all its values
abbrev pub IsReadBackWhereFit : (kind : FieldKind) → RawField kind → Type 0
IsReadBackWhereFit kind raw = (version : Version) → Fits version kind raw → IsReadBack version kind raw
