-- The results of the examples.
use Rattle.std.specs.Prelude.{◌≡◌, ◌⊎◌, ℕ, ℤ, ◌+◌, ◌<◌, ◌≤◌, List, [], ◌∷◌, ◌++◌, length, Option, Some, None, codes}
use Rattle.std.specs.Prelude.{⊤, map, false, Result, Ok, Err, MatchResult, IsTrue, ◌↔◌, ◌==◌, not, option_map}
use Rattle.std.specs.Prelude.{string_bytes}
use Rattle.std.specs.Borrow.{Bor}
use Rattle.std.specs.declared.alloc.Global.{Global}
use Rattle.std.specs.declared.string.String.{String}
use Rattle.std.specs.List.{repeat}
use Rattle.sfv.specs.Ascii.{byte}
use Rattle.sfv.specs.Texts.{RunOf}
use Rattle.sfv.specs.Values.{BareValue, integer, string, token, RawField, HasMember, RawParameters, RawItem, RawMember}
use Rattle.sfv.specs.Values.{item, inner_list, IsInRange, AllFit}
use Rattle.sfv.specs.Types.{FieldKind, item_field, list_field, dictionary_field, Rfc9651, Sink, ParseError, OutOfMemory}
use Rattle.sfv.specs.Types.{Error, ErrorKind, ItemFault, Version, SerializeError}
use Rattle.sfv.specs.Types.error_kinds.{OutOfRange}
use Rattle.sfv.specs.Types.serialize_errors as errors
use Rattle.sfv.specs.Texts.{◌⨾◌}
use Rattle.sfv.specs.Grammar.{Spaces, IsBareText, IsEnded, IsFieldText, IsAccepted, BeginsWithLongest}
use Rattle.sfv.specs.Ordered.{ordered, last_of}
use Rattle.sfv.specs.Statements.{IsParsedAs}
use Rattle.sfv.specs.KeyText.{KeyRef}
use Rattle.sfv.specs.CheckedTexts.{text_of}
use Rattle.sfv.specs.TokenText.{TokenRef}
use Rattle.sfv.specs.StringText.{StringRef}
use Rattle.sfv.specs.Canonical.{item_text, inner_list_text, dictionary_member_text}
use Rattle.sfv.specs.Serializers.{Parts, HasAppendedNext, LacksNext}
use Rattle.sfv.specs.BareItems.{bare_value, ref_value, input_value, read_text, is_borrowed_string}
use Rattle.sfv.specs.Trees.{OwnedBareItem}
use Rattle.sfv.specs.Events.{TreeEvent, keyed_entry}
use Rattle.sfv.specs.Types.parse_errors.{Syntax, Visitor}
use Rattle.sfv.specs.Parsers.{IsParseError}
use Rattle.sfv_examples.specs.declared.visiting.TooMany.{TooMany}
use Rattle.sfv.specs.Faults.{IsFaultAt}
use Rattle.sfv.specs.Errors.{out_of_memory, error_of}
use Rattle.sfv.specs.Versions.{NamesFirstUnfit, OnOutOfMemory}
use Rattle.sfv.specs.ProvidedVisitors.{ReadBareItem, IsWrongType}
use Rattle.sfv.specs.Types.bare_item_types as kinds
use Rattle.sfv.specs.Types.bare_items as bare_items
use Rattle.sfv.specs.Types.{GenericBareItem, StringFromInput}
use Rattle.sfv.specs.Messages.{message_of}

-- a caret at the index of the syntax error, and its message
pub record IsExplained (t text : List ℕ) : Type 0 where
  pub fault : ErrorKind
  pub index : ℕ
  pub located : IsFaultAt Rfc9651 list_field t fault index
  pub text_is : text ≡ repeat index (codes " ") ++ codes "^ " ++ message_of fault

-- if both lines have a member, the lines joined by a comma and a space have this value
abbrev pub IsOfOneLine : (kind : FieldKind) → List ℕ → List ℕ → RawField kind → Type 0
IsOfOneLine kind first second value = (a b : RawField kind) → IsFieldText Rfc9651 kind a first → HasMember kind a
    → IsFieldText Rfc9651 kind b second → HasMember kind b → IsParsedAs Rfc9651 kind (first ++ codes ", " ++ second) value

-- the error of `parse` for the first of two lines that is rejected, or out of memory
abbrev pub IsErrorOfLines : FieldKind → List ℕ → List ℕ → ParseError OutOfMemory → Type 0
IsErrorOfLines kind first second (Syntax e) = IsParseError Rfc9651 kind first e
    ⊎ (IsAccepted Rfc9651 kind first × IsParseError Rfc9651 kind second e)
IsErrorOfLines kind first second (Visitor fault) = IsAccepted Rfc9651 kind first

-- out of memory, as the parser's error or the visitor's
abbrev pub IsMemoryError : {E : Type 0} → (E → Type 0) → ParseError E → Type 0
IsMemoryError is_memory (Syntax e) = e ≡ out_of_memory
IsMemoryError is_memory (Visitor error) = is_memory error

-- the value of an integer, and the default for another kind
abbrev pub integer_or : ℤ → BareValue → ℤ
integer_or default (integer z) = z
integer_or default b = default

abbrev pub parameters_of : RawMember → RawParameters
parameters_of (item i) = i.parameters
parameters_of (inner_list l) = l.parameters

-- the last value of this parameter of a member; `None` without a member or a parameter
abbrev pub param_in : List ℕ → Option RawMember → Option BareValue
param_in key None = None
param_in key (Some m) = last_of key (parameters_of m)

-- each key adds a member; the limit is unchanged
abbrev pub counts : ℕ × ℕ → TreeEvent → ℕ × ℕ
counts (members, limit) (keyed_entry key) = (members + 1, limit)
counts place e = place

-- the text is a dictionary with `n` members, repeated keys included, and `n` is at most `limit`
pub record HasMembers (t : List ℕ) (limit n : ℕ) : Type 0 where
  pub raw : List (List ℕ × RawMember)
  pub accepted : IsFieldText Rfc9651 dictionary_field raw t
  pub count : n ≡ length raw
  pub within : n ≤ limit

-- A syntax error is the parser's. If the text is a dictionary, `TooMany` means that it has more members than `limit`.
abbrev pub IsCountError : List ℕ → ℕ → ParseError TooMany → Type 0
IsCountError t limit (Syntax e) = IsParseError Rfc9651 dictionary_field t e
IsCountError t limit (Visitor fault) = (raw : List (List ℕ × RawMember)) → IsFieldText Rfc9651 dictionary_field raw t
    → limit < length raw

-- an item with one parameter
abbrev pub item_of_one : BareValue → List ℕ → BareValue → RawItem
item_of_one value key param = record { bare = value; parameters = (key, param) ∷ [] }

-- two items, the first with a parameter
abbrev pub pair_of : BareValue → List ℕ → BareValue → BareValue → List RawItem
pair_of first key param second = item_of_one first key param ∷ record { bare = second; parameters = [] } ∷ []

-- `RefBareItem`; antt has no name for an alias
abbrev pub LentBareItem : Type 0
LentBareItem = GenericBareItem StringRef (Bor (List ℕ)) TokenRef (Bor (List ℕ))

-- the item with this value and this parameter
abbrev pub one_item : LentBareItem → KeyRef → LentBareItem → RawItem
one_item value key param = item_of_one (ref_value value) (text_of key) (ref_value param)

-- this text is appended to a list or a dictionary as its next member
abbrev pub AddsMember : {W K : Type 0} → Sink W → Parts W K → Parts W K → List ℕ → Type 0
AddsMember w s t text = HasAppendedNext w (codes ", ") s t text false

-- this text is appended to an inner list as its next item
abbrev pub AddsItem : {W K : Type 0} → Sink W → Parts W K → Parts W K → List ℕ → Type 0
AddsItem w s t text = HasAppendedNext w (codes " ") s t text false

-- the text of an empty inner list with this parameter
abbrev pub empty_text : KeyRef → LentBareItem → List ℕ
empty_text key param = inner_list_text (record { items = []; parameters = (text_of key, ref_value param) ∷ [] })

-- the text of a dictionary member that is an item with this parameter
abbrev pub named_text : KeyRef → LentBareItem → KeyRef → LentBareItem → List ℕ
named_text name value key param = dictionary_member_text (text_of name, item (one_item value key param))

-- The text of a dictionary member that is an inner list of two items. The first item has the parameter `param`, and
-- the inner list has the parameter `ending`.
abbrev pub named_pair_text : KeyRef → LentBareItem → KeyRef × LentBareItem → LentBareItem → KeyRef × LentBareItem
    → List ℕ
named_pair_text name first param second ending = dictionary_member_text (
  text_of name,
  inner_list (record {
    items = pair_of (ref_value first) (text_of param.0) (ref_value param.1) (ref_value second);
    parameters = (text_of ending.0, ref_value ending.1) ∷ [];
  }),
)

-- the text of the example dictionary
abbrev pub example_dictionary : List ℕ
example_dictionary = codes "member1=11;foo, member2=(abc;abc_param=?0 def);bar=\"val\", member3=12.346"

-- the text is appended
abbrev pub Adds : String Global → String Global → List ℕ → Type 0
Adds old new more = string_bytes new ≡ string_bytes old ++ more

-- the text is appended, or nothing is
abbrev pub AddsAtMost : String Global → String Global → List ℕ → Type 0
AddsAtMost old new more = (string_bytes new ≡ string_bytes old) ⊎ Adds old new more

-- the text of the item parses to this item
abbrev pub IsReadAsItself : RawItem → Type 0
IsReadAsItself raw = IsParsedAs Rfc9651 item_field (item_text raw) raw

-- an item with two parameters of one key
abbrev pub item_of_two : BareValue → List ℕ → BareValue → BareValue → RawItem
item_of_two value key first second = record { bare = value; parameters = (key, first) ∷ (key, second) ∷ [] }

-- the text of an item with two parameters of this key
abbrev pub pair_text : LentBareItem → KeyRef → LentBareItem → LentBareItem → List ℕ
pair_text value key first second =
    item_text (item_of_two (ref_value value) (text_of key) (ref_value first) (ref_value second))

-- On success, the version has all these values. Otherwise, memory ran out, or the error has the kind of the first value
-- that the version lacks.
abbrev pub ChecksEach : {T : Type 0} → Version → List LentBareItem → Result T SerializeError → Type 0
ChecksEach version items result = MatchResult result (λ _. AllFit version (map ref_value items))
    (λ error. (error ≡ errors.OutOfMemory) ⊎ NamesFirstUnfit version (map ref_value items) error)

-- if memory runs out, the capacity of a list or a dictionary doesn't hold this text as its next member
abbrev pub MemberLacksRoom : {W K T : Type 0} → Sink W → Parts W K → List ℕ → Result T SerializeError → Type 0
MemberLacksRoom w s text result = OnOutOfMemory result (LacksNext w (codes ", ") s text)

-- if memory runs out, the capacity of an inner list doesn't hold this text as its next item
abbrev pub ItemLacksRoom : {W K T : Type 0} → Sink W → Parts W K → List ℕ → Result T SerializeError → Type 0
ItemLacksRoom w s text result = OnOutOfMemory result (LacksNext w (codes " ") s text)

-- the text is an item with this bare item and any parameters
abbrev pub HasBareItem : List ℕ → BareValue → Type 0
HasBareItem t value = (raw : RawItem) × IsFieldText Rfc9651 item_field raw t × (value ≡ raw.bare)

-- a syntax error is the error of `parse`, and `holds` is true of a visitor's error
abbrev pub IsReadError : {E : Type 0} → (E → Type 0) → FieldKind → List ℕ → ParseError E → Type 0
IsReadError holds kind t (Syntax e) = IsParseError Rfc9651 kind t e
IsReadError holds kind t (Visitor fault) = holds fault

-- a bare item comes first in the text, and fails with this error
abbrev pub FailsAtFirst : {E : Type 0} → (ReadBareItem → E → Type 0) → List ℕ → E → Type 0
FailsAtFirst fails t fault =
    (read : ReadBareItem) × BeginsWithLongest Rfc9651 (input_value read) t × fails read fault

-- memory ran out, or the type rejects a bare item of this value with this error
abbrev pub IsExpectError : (ReadBareItem → ItemFault → Type 0) → BareValue → ParseError ItemFault → Type 0
IsExpectError fails value (Syntax e) = e ≡ out_of_memory
IsExpectError fails value (Visitor fault) =
    (read : ReadBareItem) × (input_value read ≡ value) × fails read fault

-- if the text is an item, the result has its bare item, or the type rejects that
abbrev pub ExpectsItem : {T : Type 0} → (T → BareValue) → (ReadBareItem → ItemFault → Type 0) → List ℕ
    → Result T (ParseError ItemFault) → Type 0
ExpectsItem holds fails t result = (raw : RawItem) → IsFieldText Rfc9651 item_field raw t
    → MatchResult result (λ item. holds item ≡ raw.bare) (IsExpectError fails raw.bare)

-- after spaces, a text of this bare value, and a bare item may end there; the bytes after that may be anything
abbrev pub BeginsWithComplete : BareValue → List ℕ → Type 0
BeginsWithComplete value = Spaces ⨾ IsBareText Rfc9651 value ⨾ IsEnded

-- if a complete bare item that the type cannot have comes first in the text, the type rejects it
abbrev pub RejectsOther : {T : Type 0} → (T → BareValue) → (ReadBareItem → ItemFault → Type 0) → List ℕ
    → Result T (ParseError ItemFault) → Type 0
RejectsOther {T} holds fails t result = (value : BareValue) → BeginsWithComplete value t
    → ((item : T) → ¬ (holds item ≡ value)) → MatchResult result (λ _. ⊥) (IsExpectError fails value)

-- memory ran out, or the value is no token
abbrev pub IsTokenError : BareValue → ParseError ItemFault → Type 0
IsTokenError value (Syntax e) = e ≡ out_of_memory
IsTokenError value (Visitor fault) = IsWrongType kinds.Token value fault

-- the token with this value, or such an error
abbrev pub GivesToken : BareValue → Result TokenRef (ParseError ItemFault) → Type 0
GivesToken value result = MatchResult result (λ name. token (text_of name) ≡ value) (IsTokenError value)

-- such an error, if the value is not a token
abbrev pub RefusesOther : BareValue → Result TokenRef (ParseError ItemFault) → Type 0
RefusesOther value result =
    ((name : List ℕ) → ¬ (token name ≡ value)) → MatchResult result (λ _. ⊥) (IsTokenError value)

-- the string comes first in the text, and is borrowed from it if and only if it has no escape there
abbrev pub IsLentString : StringFromInput → List ℕ → Type 0
IsLentString text t = (stands : BeginsWithLongest Rfc9651 (string (read_text text)) t)
    × (IsTrue (is_borrowed_string text) ↔ RunOf (λ c. not (c == byte "\\")) stands.front)

-- a syntax error is the error of `parse`; otherwise a bare item of another kind comes first in the text
abbrev pub IsStringError : List ℕ → ParseError ItemFault → Type 0
IsStringError t = IsReadError (FailsAtFirst (λ read. IsWrongType kinds.String (input_value read)) t) item_field t

-- the text is an item, and the function `f` returned this value for its bare item
abbrev pub IsReturnedFor : {F T : Type 0} → (F → ReadBareItem → Result T OutOfMemory → Type 0) → F → List ℕ → Option T
    → Type 0
IsReturnedFor {T = T} post f t out = (read : ReadBareItem) × HasBareItem t (input_value read) × (value : T)
    × post f read (Ok value) × (out ≡ Some value)

-- a syntax error is the error of `parse`; otherwise a bare item comes first in the text, and `f` failed for it
abbrev pub IsCallError : {F T : Type 0} → (F → ReadBareItem → Result T OutOfMemory → Type 0) → F → List ℕ
    → ParseError OutOfMemory → Type 0
IsCallError post f t = IsReadError (FailsAtFirst (λ read error. post f read (Err error)) t) item_field t

-- the number has more than fifteen digits, and the error is that it is out of range
abbrev pub IsOutOfRange : ℤ → Error → Type 0
IsOutOfRange z error = (error ≡ error_of OutOfRange None) × ¬ IsInRange z

-- a clone of the item may need memory: it is a byte sequence, a display string, or a string that is not borrowed
abbrev pub MayNeedMemory : ReadBareItem → Type 0
MayNeedMemory (bare_items.String text) = is_borrowed_string text ≡ false
MayNeedMemory (bare_items.ByteSequence bytes) = ⊤
MayNeedMemory (bare_items.DisplayString text) = ⊤
MayNeedMemory read = ⊥

-- the text parses to an item: its integer, or the default for another kind
abbrev pub HasIntegerOr : ℤ → List ℕ → ℤ → Type 0
HasIntegerOr default t z =
    (value : RawItem) × IsParsedAs Rfc9651 item_field t value × (z ≡ integer_or default value.bare)

-- the text is a dictionary; the last member with the key `member` has this last value of the parameter `param`
abbrev pub HasParam : List ℕ → KeyRef → KeyRef → Option OwnedBareItem → Type 0
HasParam t member param found = (raw : List (List ℕ × RawMember)) × IsFieldText Rfc9651 dictionary_field raw t
    × (option_map bare_value found ≡ param_in (text_of param) (last_of (text_of member) raw))

-- both texts are lists, and `list` has the members of both
abbrev pub IsListOfBoth : List ℕ → List ℕ → List RawMember → Type 0
IsListOfBoth first second list = (held : List RawMember) × (raw : List RawMember)
    × IsParsedAs Rfc9651 list_field first held × IsFieldText Rfc9651 list_field raw second
    × (list ≡ held ++ ordered list_field raw)

-- the same for dictionaries; a member of the second text replaces the member with the same key
abbrev pub IsDictionaryOfBoth : List ℕ → List ℕ → List (List ℕ × RawMember) → Type 0
IsDictionaryOfBoth first second dictionary = (held : List (List ℕ × RawMember)) × (raw : List (List ℕ × RawMember))
    × IsParsedAs Rfc9651 dictionary_field first held × IsFieldText Rfc9651 dictionary_field raw second
    × (dictionary ≡ ordered dictionary_field (held ++ raw))
