-- Definitions of the private contracts of scripts: the calls of a member, and what they write.
use Rattle.std.specs.Prelude.{◌++◌, [], ℕ, Bool, false, List, Option, Some, None, map, take, drop, codes, if◌then◌else◌}
use Rattle.std.specs.Prelude.{MatchBool, option_map, filter_map}
use Rattle.std.specs.declared.string.String.{String}
use Rattle.sfv_spec.specs.Texts.{joined}
use Rattle.sfv_spec.specs.declared.field_kind.FieldKind.{FieldKind}
use Rattle.sfv_spec.specs.declared.field_kind.FieldKind.TheVariants.{Item as item_field, List as list_field}
use Rattle.sfv_spec.specs.declared.field_kind.FieldKind.TheVariants.{Dictionary as dictionary_field}
use Rattle.sfv_spec.specs.Values.{RawParameters, RawItem, RawMember, RawField, item, inner_list}
use Rattle.sfv_spec.specs.Canonical.{item_text, parameters_text, member_text, dictionary_member_text}
use Rattle.sfv_values.specs.KeyText.{KeyRef}
use Rattle.sfv_values.specs.CheckedTexts.{text_of}
use Rattle.sfv_writer.specs.Written.{LacksRoom, with_separators, is_first_after}
use Rattle.sfv_serializer.specs.declared.sequence.SequenceSerializer.{SequenceSerializer}
use Rattle.sfv_serializer.specs.declared.sink.Sink.{Ghosts as Sink}
use Rattle.sfv_serializer.specs.Serializers.{KeepsSequence, HasAppended, HasAppendedNext}
use Rattle.sfv_serializer.specs.declared.script.ParamCall.{ParamCall}
use Rattle.sfv_serializer.specs.declared.script.ItemCalls.{ItemCalls}
use Rattle.sfv_serializer.specs.declared.script.MemberCalls.{MemberCalls}
use Rattle.sfv_serializer.specs.declared.script.MemberCalls.TheVariants as calls
use Rattle.sfv_serializer.specs.Scripts.{param_of_call, item_of_calls}

-- The calls of one member: an item or inner list that is finished, or an inner list that is abandoned after these
-- items.
pub data MemberSteps : Type 0 where
  written : RawMember → MemberSteps
  abandoned : List RawItem → MemberSteps

-- the calls of a field of this type: of its item; of its members; or of its members with their keys
abbrev pub StepsOf : FieldKind → Type 0
StepsOf item_field = RawItem
StepsOf list_field = List MemberSteps
StepsOf dictionary_field = List (List ℕ × MemberSteps)

-- the member that the calls write, or none if they abandon an inner list
abbrev pub written_member : MemberSteps → Option RawMember
written_member (written m) = Some m
written_member (abandoned items) = None

-- the field that the calls describe, repeated keys included, without the abandoned inner lists
abbrev pub described : (kind : FieldKind) → StepsOf kind → RawField kind
described item_field i = i
described list_field calls = filter_map written_member calls
described dictionary_field calls = filter_map (λ c. option_map (λ m. (c.0, m)) (written_member c.1)) calls

-- the member with all values of the calls; an abandoned inner list has no parameters
abbrev pub supplied_member : MemberSteps → RawMember
supplied_member (written m) = m
supplied_member (abandoned items) = inner_list (record { items = items; parameters = [] })

-- the field of all values of the calls: an abandoned inner list is included, without parameters
abbrev pub supplied : (kind : FieldKind) → StepsOf kind → RawField kind
supplied item_field i = i
supplied list_field calls = map supplied_member calls
supplied dictionary_field calls = map (λ c. (c.0, supplied_member c.1)) calls

-- the text of an inner list with this beginning, its items and its parameters
abbrev pub ended_text : List ℕ → List RawItem → RawParameters → List ℕ
ended_text opening items parameters =
    opening ++ joined (codes " ") (map item_text items) ++ codes ")" ++ parameters_text parameters

-- the calls of an inner list: abandoned after its items, or finished with its parameters
abbrev pub inner_list_calls : List ItemCalls → List ParamCall → Bool → MemberSteps
inner_list_calls items params abandon =
    if abandon then abandoned (map item_of_calls items)
    else written (inner_list (record { items = map item_of_calls items; parameters = map param_of_call params }))

-- the calls of a member
abbrev pub member_calls : MemberCalls → MemberSteps
member_calls (calls.Item i) = written (item (item_of_calls i))
member_calls (calls.InnerList items params abandon) = inner_list_calls items.items params.items abandon

-- the calls of the members of a list, in order
abbrev pub list_calls : List MemberCalls → StepsOf list_field
list_calls members = map member_calls members

-- the calls of the members of a dictionary, each with its key
abbrev pub dictionary_calls : List (KeyRef × MemberCalls) → StepsOf dictionary_field
dictionary_calls members = map (λ m. (text_of m.0, member_calls m.1)) members

-- the list that the calls describe, repeated keys included
abbrev pub list_described : List MemberCalls → RawField list_field
list_described members = described list_field (list_calls members)

-- the dictionary that the calls describe, repeated keys included
abbrev pub dictionary_described : List (KeyRef × MemberCalls) → RawField dictionary_field
dictionary_described members = described dictionary_field (dictionary_calls members)

-- the list of all values of the calls, abandoned inner lists included
abbrev pub supplied_list : List MemberCalls → RawField list_field
supplied_list members = supplied list_field (list_calls members)

-- the dictionary of all values of the calls, abandoned inner lists included
abbrev pub supplied_dictionary : List (KeyRef × MemberCalls) → RawField dictionary_field
supplied_dictionary members = supplied dictionary_field (dictionary_calls members)

-- the text that the calls of a list member append; an abandoned inner list is not closed
abbrev pub added_text : MemberSteps → List ℕ
added_text (written m) = member_text m
added_text (abandoned items) = codes "(" ++ joined (codes " ") (map item_text items)

-- the text that the calls of a dictionary member append; an abandoned inner list is not closed
abbrev pub added_text_of_pair : List ℕ × MemberSteps → List ℕ
added_text_of_pair (key, written m) = dictionary_member_text (key, m)
added_text_of_pair (key, abandoned items) = key ++ codes "=(" ++ joined (codes " ") (map item_text items)

-- the texts of the list members before call number `n`, and the text that this call appends
abbrev pub tried_list : List MemberCalls → ℕ → List (List ℕ)
tried_list members n =
    map member_text (list_described (take n members)) ++ map added_text (list_calls (take 1 (drop n members)))

-- the texts of the dictionary members before call number `n`, and the text that this call appends
abbrev pub tried_dictionary : List (KeyRef × MemberCalls) → ℕ → List (List ℕ)
tried_dictionary members n =
    map dictionary_member_text (dictionary_described (take n members))
    ++ map added_text_of_pair (dictionary_calls (take 1 (drop n members)))

-- a text has no room for the text of some call after the calls before it
abbrev pub LacksForTry : {Z : Type 0} → String Z → (ℕ → List (List ℕ)) → Type 0
LacksForTry old tried = (n : ℕ) × LacksRoom old (joined (codes ", ") (tried n))

-- the text that the calls append, after other members or as the first members of a list
abbrev pub list_text : Bool → StepsOf list_field → List ℕ
list_text is_first calls = with_separators is_first (codes ", ") (map member_text (described list_field calls))

-- the text that the calls append, after other members or as the first members of a dictionary
abbrev pub dictionary_text : Bool → StepsOf dictionary_field → List ℕ
dictionary_text is_first calls =
    with_separators is_first (codes ", ") (map dictionary_member_text (described dictionary_field calls))

module _ {W : Type 0} (w : Sink W) where
  -- an inner list was written after its beginning, or abandoned
  abbrev pub WritesInner : {K : Type 0} → SequenceSerializer W K → SequenceSerializer W K → List ℕ → List ℕ → List RawItem → RawParameters → Bool
      → Type 0
  WritesInner s t separator opening items parameters abandon = MatchBool abandon (KeepsSequence w s t)
      (HasAppendedNext w separator s t (ended_text opening items parameters) false)

  -- the calls of a list were performed: their text is appended
  abbrev pub WritesList : {K : Type 0} → SequenceSerializer W K → SequenceSerializer W K → StepsOf list_field → Type 0
  WritesList s t calls = HasAppended w s t (list_text s.is_first calls)
      (is_first_after s.is_first (described list_field calls))

  -- the calls of a dictionary were performed: their text is appended
  abbrev pub WritesDictionary : {K : Type 0} → SequenceSerializer W K → SequenceSerializer W K → StepsOf dictionary_field → Type 0
  WritesDictionary s t calls = HasAppended w s t (dictionary_text s.is_first calls)
      (is_first_after s.is_first (described dictionary_field calls))
