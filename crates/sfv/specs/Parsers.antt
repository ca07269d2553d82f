-- The input and the results of a parser.
use Rattle.std.specs.Prelude.{◌≡◌, ◌≤◌, ⊤, ℕ, true, List, [], ◌∷◌, ◌++◌, codes, length, map, take, drop, Some, Result}
use Rattle.std.specs.Prelude.{◌⊎◌, ◌↔◌, ◌==◌, ◌||◌, if◌then◌else◌, IfOk, IfErr, IsTrue, IsFalse, not}
use Rattle.std.specs.List.{FoldsTo}
use Rattle.sfv_spec.specs.Values.{RawField, boolean, RawItem, IsFieldValue}
use Rattle.sfv_spec.specs.declared.field_kind.FieldKind.{FieldKind}
use Rattle.sfv_spec.specs.declared.field_kind.FieldKind.TheVariants.{Item as item_field, List as list_field}
use Rattle.sfv_spec.specs.declared.field_kind.FieldKind.TheVariants.{Dictionary as dictionary_field}
use Rattle.sfv_spec.specs.declared.version.Version.{Version}
use Rattle.sfv_spec.specs.Ascii.{byte}
use Rattle.sfv_spec.specs.Texts.{Exactly, RunOf, ◌⨾◌, IsJoining, begins_with}
use Rattle.sfv_spec.specs.Classes.{is_key_inner}
use Rattle.sfv_spec.specs.Grammar.{Spaces, Comma, IsBareText, IsKeyText, IsMemberText}
use Rattle.sfv_spec.specs.Grammar.{IsDictionaryMemberText, IsFieldText, IsEnded, IsAccepted, BeginsWithLongest}
use Rattle.sfv_spec.specs.Grammar.{HasField}
use Rattle.sfv_spec.specs.Reach.{IsReach}
use Rattle.sfv_spec.specs.Statements.{IsParsedAs}
use Rattle.sfv_spec.specs.Events.{TreeEvent, entry, keyed_entry, begins_item, begins_inner_list, bare_item}
use Rattle.sfv_spec.specs.Events.{parameters_end, inner_list_end, item_events, events}
use Rattle.sfv_spec.specs.Faults.{IsFaultAt, IsWantedAt}
use Rattle.sfv_spec.specs.declared.error_kind.ErrorKind.{ErrorKind}
use Rattle.sfv_spec.specs.declared.error_kind.ErrorKind.TheVariants.{TrailingCharactersAfterParsedValue}
use Rattle.sfv_base.specs.declared.error.Error.{Error}
use Rattle.sfv_base.specs.declared.error.ParseError.{ParseError}
use Rattle.sfv_base.specs.declared.error.ParseError.TheVariants as parse_errors
use Rattle.sfv_base.specs.Errors.{error_of, out_of_memory}
use Rattle.sfv_values.specs.CheckedTexts.{text_of}
use Rattle.sfv_values.specs.BareItems.{input_value, is_borrowed_string, is_borrowed_text}
use Rattle.sfv_values.specs.declared.bare.GenericBareItem.TheVariants as bare
use Rattle.indexmap.specs.IndexMap.{IndexMap}
use Rattle.sfv_tree.specs.Seeds.{ItemHasSeed, ListHasSeed, DictionaryHasSeed}
use Rattle.sfv_tree.specs.Trees.{item_tree, list_tree, dictionary_tree}
use Rattle.sfv_tree.specs.declared.hash_seed.HashSeed.{HashSeed}
use Rattle.sfv_tree.specs.declared.parsed.Item.{Item}
use Rattle.sfv_tree.specs.declared.parsed.ListEntry.{ListEntry}
use Rattle.sfv_tree.specs.declared.visitor.Event.{Event}
use Rattle.sfv_tree.specs.declared.visitor.Event.TheVariants as event
use Rattle.sfv_tree.specs.declared.visitor.Visitor.{Ghosts as Visitor}
use Rattle.sfv_tree.specs.Events.{event_of}
use Rattle.sfv_tree.specs.ProvidedVisitors.{ReadBareItem}
use Rattle.sfv.specs.declared.parser.Parser.{Parser}
use Rattle.sfv.specs.Memory.{NeedsMark}

-- the input of a parser
abbrev pub input_of : Parser → List ℕ
input_of p = p.input.now

-- the version of a parser
abbrev pub version_of : Parser → Version
version_of p = p.version

-- The text is rejected, and `e` has the kind and the index of its fault. `rejected` and `within` follow from `located`
-- by the law `FaultRejects`, and are there for the reader.
pub record IsSyntaxError (version : Version) (kind : FieldKind) (t : List ℕ) (e : Error) : Type 0 where
  pub fault : ErrorKind
  pub index : ℕ
  pub error : e ≡ error_of fault (Some index)
  pub rejected : ¬ IsAccepted version kind t
  pub within : index ≤ length t
  pub located : IsFaultAt version kind t fault index

-- the text parses to a value whose maps all hash under this seed
abbrev pub IsBuiltUnder : HashSeed → Version → FieldKind → List ℕ → Type 0
IsBuiltUnder seed version item_field t =
    (i : Item) × ItemHasSeed seed i × IsParsedAs version item_field t (item_tree i)
IsBuiltUnder seed version list_field t =
    (members : List ListEntry) × ListHasSeed seed members × IsParsedAs version list_field t (list_tree members)
IsBuiltUnder seed version dictionary_field t = (d : IndexMap (List ℕ) ListEntry HashSeed)
    × DictionaryHasSeed seed d × IsParsedAs version dictionary_field t (dictionary_tree d.entries)

-- out of memory, or a syntax error of the text
abbrev pub IsParseError : Version → FieldKind → List ℕ → Error → Type 0
IsParseError version kind t e = (e ≡ out_of_memory) ⊎ IsSyntaxError version kind t e

-- `t` is the text of this bare item. A string is borrowed from it if and only if it contains no backslash; a display
-- string, if and only if it contains no percent sign but its first byte.
abbrev pub IsBorrowedIfPlain : ReadBareItem → List ℕ → Type 0
IsBorrowedIfPlain (bare.String text) t = IsTrue (is_borrowed_string text) ↔ RunOf (λ c. not (c == byte "\\")) t
IsBorrowedIfPlain (bare.DisplayString text) t =
    IsTrue (is_borrowed_text text) ↔ RunOf (λ c. not (c == byte "%")) (drop 1 t)
IsBorrowedIfPlain read t = ⊤

-- `t` is the text of this value, which is borrowed if and only if it has no escape there. True may have no text.
abbrev pub IsReadAs : Version → ReadBareItem → List ℕ → Type 0
IsReadAs version read t = (IsBareText version (input_value read) t ⊎ ((input_value read ≡ boolean true) × (t ≡ [])))
    × IsBorrowedIfPlain read t

-- a text without a double quote
abbrev pub HasNoQuote : List ℕ → Type 0
HasNoQuote = RunOf (λ c. not (c == byte "\""))

-- `t` is the text of the key and the value of this event; an event without them has no text
abbrev pub IsEventText : Version → Event → List ℕ → Type 0
IsEventText version (event.KeyedEntry key) t = t ≡ text_of key
IsEventText version (event.BareItem read) t = IsReadAs version read t
IsEventText version (event.Parameter key read) t = (Exactly (text_of key) ⨾ HasNoQuote ⨾ IsReadAs version read) t
IsEventText version e t = t ≡ []

-- The texts of these events are in `t`, in this order. No double quote is outside them.
abbrev pub AreReadFrom : Version → List Event → List ℕ → Type 0
AreReadFrom version [] t = HasNoQuote t
AreReadFrom version (e ∷ es) t = (gap at rest : List ℕ) × (t ≡ gap ++ at ++ rest) × HasNoQuote gap
    × IsEventText version e at × AreReadFrom version es rest

-- the text before one more member: *SP, and these members with OWS "," OWS after each
abbrev pub IsBeforeMember : Version → (kind : FieldKind) → RawField kind → List ℕ → Type 0
IsBeforeMember version item_field i t = ⊥
IsBeforeMember version list_field ms t = (Spaces ⨾ IsJoining (λ m. IsMemberText version m ⨾ Comma) ms) t
IsBeforeMember version dictionary_field ms t = (Spaces ⨾ IsJoining (λ m. IsDictionaryMemberText version m ⨾ Comma) ms) t

-- the first event of a value with this text: an inner list begins with a parenthesis, and an item does not
abbrev pub first_event : List ℕ → TreeEvent
first_event t = if begins_with (λ c. c == byte "(") t then begins_inner_list else begins_item

-- At the start of this text, a member begins with these events, whatever follows.
pub data BeginsMember : FieldKind → List TreeEvent → List ℕ → Type 0 where
  -- a list member: the text is not empty, and does not begin with SP or a tab
  list_member : {t : List ℕ} → IsTrue (begins_with (λ c. not (c == byte " " || c == byte "\t")) t)
      → BeginsMember list_field (entry ∷ first_event t ∷ []) t
  -- a dictionary member with a key that has ended, and no "=" after it: it is true
  dictionary_key : {t : List ℕ} (key : List ℕ)
      → (IsKeyText key ⨾ (λ more. IsFalse (begins_with (λ c. is_key_inner c || c == byte "=") more))) t
      → BeginsMember dictionary_field (keyed_entry key ∷ begins_item ∷ bare_item (boolean true) ∷ []) t
  -- a dictionary member with a key and "="
  dictionary_value : {t : List ℕ} (key more : List ℕ) → (IsKeyText key ⨾ Exactly (codes "=" ++ more)) t
      → BeginsMember dictionary_field (keyed_entry key ∷ first_event more ∷ []) t

-- `t` is a field with the events `es`; or it lacks only the `)` of the last inner list, and they come before its end.
abbrev pub HasEvents : Version → FieldKind → List TreeEvent → List ℕ → Type 0
HasEvents version kind es t = (raw : RawField kind) × ((IsFieldText version kind raw t × (events kind raw ≡ es))
    ⊎ (IsFieldText version kind raw (t ++ codes ")") × (events kind raw ≡ es ++ inner_list_end ∷ parameters_end ∷ [])))

-- `t` follows a text with the events `all`, and a bare item may end there. Before `t` come the events `es`: all of
-- them, or, if `t` begins with a semicolon, all but the last, which is the end of the parameters that `t` continues.
abbrev pub AreBefore : List TreeEvent → List TreeEvent → List ℕ → Type 0
AreBefore all es t = IsEnded t × (all ≡ es ++ (if begins_with (λ c. c == byte ";") t then parameters_end ∷ [] else []))

-- what a visitor in the state `from` does
module _ {S O E : Type 0} (v : Visitor S O E) (from : S) where
  -- The visitor may receive these events in this order.
  abbrev pub Takes : List TreeEvent → Type 0
  Takes es = (to : S) × FoldsTo v.takes from es to

  -- The visitor receives these events in order and returns this result.
  abbrev pub Returns : List TreeEvent → O → Type 0
  Returns es out = (last : S) × FoldsTo v.takes from es last × v.finishes last out

  -- The visitor receives these events as read, and then is in this state.
  abbrev pub Receives : List Event → S → Type 0
  Receives es to = FoldsTo (λ s e after. v.takes s (event_of e) after × v.takes_read s e after) from es to

-- what a visitor in the state `from` does with the input of this parser
module _ {S O E : Type 0} (v : Visitor S O E) (p : Parser) (from : S) where
  -- The visitor fails with this error on these events.
  pub data FailsOn (all : List TreeEvent) (may_finish : Type 0) (error : E) : Type 0 where
    -- at one of them, after exactly the events before it: it received these as read, from the first bytes of the input
    at_event : (es : List Event) (e : Event) (after : List TreeEvent) (s : S) → all ≡ map event_of es ++ event_of e ∷ after
        → (AreReadFrom (version_of p) (es ++ e ∷ []) ⨾ (λ rest. ⊤)) (input_of p) → Receives v from es s
        → v.fails s (event_of e) error → v.fails_read s e error → FailsOn all may_finish error
    -- if it may, in `finish`, after all of them
    at_end : (last : S) → may_finish → FoldsTo v.takes from all last → v.finish_fails last error
        → FailsOn all may_finish error

-- how the parser's call for this type of field ends, with this visitor in the state `from`
module _ {S O E : Type 0} (v : Visitor S O E) (p : Parser) (kind : FieldKind) (from : S) where
  -- The input is exactly one field, and the visitor returns this result for its events.
  abbrev pub IsAnswerBy : O → Type 0
  IsAnswerBy out = HasField (version_of p) kind (input_of p) (λ raw. Returns v from (events kind raw) out)

  -- The input is exactly one field. The visitor received its events as read from the input, and returned this result.
  abbrev pub ReceivesAsReadBy : O → Type 0
  ReceivesAsReadBy out = HasField (version_of p) kind (input_of p) (λ raw. (es : List Event)
      × (map event_of es ≡ events kind raw) × AreReadFrom (version_of p) es (input_of p)
      × (last : S) × Receives v from es last × v.finishes last out)

  -- A syntax error is one that `parse` returns. One for characters after a value comes after the visitor has finished,
  -- and only for an item: no fault of a list or a dictionary has this kind.
  abbrev pub IsSyntaxErrorBy : ParseError E → Type 0
  IsSyntaxErrorBy (parse_errors.Syntax e) = IsParseError (version_of p) kind (input_of p) e × ((n : ℕ)
      → e ≡ error_of TrailingCharactersAfterParsedValue (Some n) → (out : O)
      × HasField (version_of p) kind (take n (input_of p)) (λ raw. Returns v from (events kind raw) out))
  IsSyntaxErrorBy (parse_errors.Visitor error) = ⊤

  -- The visitor may receive these events. `whole`: if the text begins with a field, which may lack the `)` of its last
  -- inner list, its events before the rest. `expected`: so it is if the error names what is expected there. `begun`: if
  -- a member begins after other members, the events of those members and the first events of this one.
  pub record ReceivesUpTo : Type 0 where
    pub whole : (es first : List TreeEvent)
        → (HasEvents (version_of p) kind es ⨾ AreBefore es first) (input_of p) → Takes v from first
    pub expected : (es : List TreeEvent) (fault : ErrorKind) (n : ℕ)
        → IsWantedAt (version_of p) kind (input_of p) fault n
        → HasEvents (version_of p) kind es (take n (input_of p)) → Takes v from es
    pub begun : (raw : RawField kind) (first : List TreeEvent) → (IsBeforeMember (version_of p) kind raw
        ⨾ BeginsMember kind first) (input_of p) → Takes v from (events kind raw ++ first)

  -- A syntax error comes only if the visitor may receive these events.
  abbrev pub ReceivesBeforeErrorBy : ParseError E → Type 0
  ReceivesBeforeErrorBy (parse_errors.Syntax e) = (e ≡ out_of_memory) ⊎ ReceivesUpTo
  ReceivesBeforeErrorBy (parse_errors.Visitor error) = ⊤

  -- On an accepted text, the visitor fails on its field. On a rejected text, it fails on some field, and on a field
  -- whose text begins with the bytes before the reach. There, it fails in `finish` only on an item: the latter is these
  -- bytes. For example, for the rejected list `1;`, the definition allows an error at the integer 1. It also allows one
  -- at a later event such as the parameter `a=5`, because `1;a=5` begins with `1;`.
  abbrev pub IsVisitorErrorBy : ParseError E → Type 0
  IsVisitorErrorBy (parse_errors.Syntax e) = ⊤
  IsVisitorErrorBy (parse_errors.Visitor error) = ((raw : RawField kind)
      → IsFieldText (version_of p) kind raw (input_of p) → FailsOn v p from (events kind raw) ⊤ error)
      × (¬ IsAccepted (version_of p) kind (input_of p) → ((raw : RawField kind) × IsFieldValue kind raw
      × FailsOn v p from (events kind raw) (kind ≡ item_field) error)
      × ((n : ℕ) → IsReach (version_of p) kind (input_of p) n → (raw : RawField kind) × (more : List ℕ)
      × IsFieldText (version_of p) kind raw (take n (input_of p) ++ more)
      × FailsOn v p from (events kind raw) ((kind ≡ item_field) × (more ≡ [])) error))

  -- The clauses of `parse_.._with_visitor` for one visitor. They describe its result, the events as read, a syntax
  -- error and the events before it, its own error, and the texts for which memory is allocated.
  pub record ReadsBy (result : Result O (ParseError E)) : Type 0 where
    pub visited : IfOk result IsAnswerBy
    pub as_read : IfOk result ReceivesAsReadBy
    pub syntax : IfErr result IsSyntaxErrorBy
    pub before_error : IfErr result ReceivesBeforeErrorBy
    pub visitor : IfErr result IsVisitorErrorBy
    pub memory : IfErr result (NeedsMark (input_of p))

-- how the parser's call for an item ends, with this visitor in the state `from`
module _ {S O E : Type 0} (v : Visitor S O E) (p : Parser) (from : S) where
  -- An error of the visitor is one on an item with the first bare item of the text.
  abbrev pub ReceivesFirstBy : ParseError E → Type 0
  ReceivesFirstBy (parse_errors.Syntax e) = ⊤
  ReceivesFirstBy (parse_errors.Visitor error) = (raw : RawItem)
      × BeginsWithLongest (version_of p) raw.bare (input_of p) × FailsOn v p from (item_events raw) ⊤ error

  -- The clauses of the call for an item. In addition, the visitor fails only if a bare item comes first.
  pub record ReadsItemBy (result : Result O (ParseError E)) : Type 0 where
    pub all : ReadsBy v p item_field from result
    pub first : IfErr result ReceivesFirstBy
