-- Lemmas for callers. They lead from a value to the text, from a visitor's run to the field, and from a written text to
-- its parsed value. Callers cite them from here.
use Rattle.std.proofs.Common.{◌≡◌, ℕ, List, [], ◌∷◌, ◌++◌, true, cond, Result, Ok, Err, refl, sym, ◌∙◌, ap, subst, inl}
use Rattle.std.{proofs.Common.{inr, fold, bytes_eq, option_map, Some, None, IfOk, IfErr, MatchResult}, specs.Prelude.⊤}
use Rattle.std.specs.declared.{alloc.Global.Global, vec.Vec.Vec}
use Rattle.std.proofs.lemmas.{Option.same_Some, Result.{IfOk-weaker, IfErr-weaker}}
use Rattle.indexmap.specs.IndexMap.{IndexMap, insert_entry}
use Rattle.sfv_spec.proofs.{Collapse.{entered, collapse-distinct, collapse-push, last_of-push}, Marks.keys}
use Rattle.sfv_spec.proofs.{Repeats.no_repeats, Runs.runs_fold, Structure.one_field_lem, Valid.accepted_is_value_lem}
use Rattle.sfv_tree.specs.Builders.{list_state, list_step, dictionary_state, ListAdds, DictionaryAdds, dictionary_step}
use Rattle.sfv_tree.{specs.declared.visitor.Visitor.Ghosts as Visitor, proofs.Entered.insert_entry-entered}
use Rattle.sfv.specs.Field.{TreeEvent, events, RawMember, RawField, FieldKind, item_field, list_field, dictionary_field}
use Rattle.sfv.specs.Field.{Version, IsFieldText, last_of, ordered, ordered_member, IsParsedAs, IsValue, IsFaultAt}
use Rattle.sfv.specs.Field.{ErrorKind, index_of, kind_of, out_of_memory, list_tree, dictionary_tree, IsParseError}
use Rattle.sfv.specs.Field.{IsAnswerBy, IsSyntaxErrorBy}
use Rattle.sfv.specs.Parsers.{version_of, input_of, ReceivesAsReadBy, ReadsBy, ReadsItemBy}
use Rattle.sfv.specs.Types.{Error, HashSeed, ListEntry, ListBuilder, DictionaryBuilder, ParseError}
use Rattle.sfv.specs.{declared.parser.Parser.Parser, parser.Visits.ReturnsAfter}
use Rattle.sfv.proofs.Relations.{HasFirst, HasVisitorError, has_visitor_error}
use Rattle.sfv.proofs.{built.Dictionaries.built_dictionary_after, built.Lists.built_list_after, visits.First.has_first}
use Rattle.sfv_base.specs.declared.error.ParseError.TheVariants as parse_errors
-- The last pair of a key: `IsLast` splits the pairs there (`last_of-split`, `split-last_of`). `none-last_of`: the key
-- has no pair. `lookup-last_of`: without repeated keys, the last pair is the first. `last_of-over`: a function of each
-- value.
pub use Rattle.sfv_spec.proofs.Last.{IsLast, last_of-split, split-last_of, none-last_of, lookup-last_of, last_of-over}
-- the last pair of a key in the ordered value is the last pair in the text; a key without a pair has none
pub use Rattle.sfv_spec.proofs.Last.{last_of-ordered}
pub use Rattle.sfv_spec.proofs.Collapse.{last_of-collapse, last_of-absent}
-- if each of two lines has a member, their value is the value of the lines joined by a comma and a space
pub use Rattle.sfv.proofs.Lines.{list_in_lines, dictionary_in_lines}
-- the pairs of a dictionary or of parameters after an insertion
pub use Rattle.sfv_tree.proofs.Entered.{dictionary_tree-insert, pairs_tree-insert}
-- The result of an accessor of a bare item, as the content of its value. `integer_part` says it of `as_integer`,
-- whatever type owns the texts.
pub use Rattle.sfv_values.proofs.Parts.{decimal_part, integer_part, boolean_part, date_part, display_string_part}
-- an iterator over all parameters of a map writes the text of these parameters
pub use Rattle.sfv_writer.proofs.RoomOfIterators.{parameters_all}
-- A field without repeated keys (`IsOrdered`) is its own ordered value, and a field that is its own ordered value has
-- none. `ordered_again`: the ordered value is its own.
pub use Rattle.sfv_spec.proofs.Repeats.{IsOrdered}
pub use Rattle.sfv_spec.proofs.Distinct.{ordered_same, same_ordered, ordered_again}
-- the old member or value that an insertion returns is the last of its key
pub use Rattle.sfv_tree.proofs.Distinct.{entered_member, entered_value}
-- The canonical text of a field parses to its ordered value, and the text of a value to itself, under each version that
-- has its values. `serialized_is_value`: a serialized value is in its range and class, and its version has it.
pub use Rattle.sfv_writer.proofs.ReadBack.{read_back, value_read_back, serialized_is_value}
-- the first value that a version lacks, with more values after it, or values that the version has before it
pub use Rattle.sfv_writer.proofs.Checks.{names_front, names_after}
-- RFC 9651 has every value
pub use Rattle.sfv_spec.proofs.Fields.{all_fit_newer}
-- a value that RFC 8941 has, written canonically, parses back under both versions
pub use Rattle.sfv.proofs.LastRead.{read_back_either}
-- An abandoned inner list leaves the list's text and state unchanged (`taken_away`). `kept_as` and `more_as` carry the
-- state of a serializer over the end of a borrow. `written_after` joins texts, `no_less` two steps of a capacity.
pub use Rattle.sfv_serializer.proofs.Scripts.{taken_away, kept_as, more_as, written_after, no_less}
-- the text of a whole inner list after a key, from the texts of the calls that wrote it
pub use Rattle.sfv_serializer.proofs.Scripts.{named_list_ended}
-- the text after one more call
pub use Rattle.sfv_serializer.proofs.Steps.{more_after}
-- Room. `len_of`: the length of a text. No room after added text means no room for both (`room_after`), and no room for
-- a part means no room for the whole (`room_before`).
pub use Rattle.sfv_writer.proofs.Room.{len_of, room_after, room_before}
-- no room for some elements of an iterator means no room for all: for parameters of a map, and in general
pub use Rattle.sfv_writer.proofs.RoomOfIterators.{parameters_lack, front_lacks}
-- the elements that an iterator over a map or a slice has returned are the first ones
pub use Rattle.sfv_writer.proofs.Lent.{pairs_front, members_front, entries_front}
-- under RFC 9651, a call with an iterator fails only if memory runs out
pub use Rattle.sfv_writer.proofs.Elements.{newer_stops}
-- If each event is a step of a view, a visitor's run is a fold over the events (`runs_fold`). `keys_in_events`: the
-- keys in the events of a dictionary are its keys, repeated ones included. `entries_in_events`: a list has one entry a
-- member.
pub use Rattle.sfv_spec.proofs.Runs.{runs_fold, key_in, entry_in, keys_in_events, entries_in_events}
-- `last_kept`: if pairs of other keys change nothing and each pair of the key sets a value, the last pair gives the
-- final value. A fold over the events of a dictionary or of parameters goes member by member. `idle_within`: a state
-- that no event within a member changes is unchanged after such events.
pub use Rattle.sfv_spec.proofs.Kept.{last_kept, fold_members, fold_parameters, idle_within}
-- the events of a member are inside it
pub use Rattle.sfv_spec.proofs.Runs.{IsInside, member_inside}
-- `fold_entries`: a fold over the events of a list goes member by member. An idle state is unchanged after a whole
-- member, after the rest of an item after its bare item, and after the rest of an inner list after its start.
-- `last_read`: the final value comes from the last member of the key in the ordered dictionary. `on_ok`: a fact holds
-- on success.
pub use Rattle.sfv.proofs.LastRead.{on_ok, fold_entries, IsIdle, member_passed, item_passed, inner_list_passed}
pub use Rattle.sfv.proofs.LastRead.{last_read}
-- The state after parameters, if each step leads to the state of one parameter more (`parameters_kept`, `state_kept`).
-- A function of a key's last pair, after one more pair (`of_pushed`). `written_is_read`: the text of calls for an
-- ordered value parses back under both versions, if RFC 8941 has the value.
pub use Rattle.sfv.proofs.Fields.{of_pushed, state_kept, parameters_kept, written_is_read}
-- A part of the state after a list is a fold over the ordered list (`list_read`). After a dictionary, it comes from the
-- key's last member in the ordered dictionary (`member_looked`); `last_set` says it of pairs. `idle_by`: a state that
-- six kinds of events do not change is idle. `answer_read`: from the visitor's result to a clause on the parsed value.
-- RFC 8941 has every value except dates and display strings (`fits_unless`); both versions have its values
-- (`fits_either`).
pub use Rattle.sfv.proofs.Fields.{last_set, idle_by, list_read, member_looked, answer_read, fits_unless, fits_either}
-- The clauses of `parse_.._with_visitor` for given relations (`takes`, `fails`, ..), a version and a text. Lemmas on a
-- visitor are stated in these.
pub use Rattle.sfv.proofs.Relations.{Answers, FailsIn, HasSyntax, HasVisitorError, HasFirst, HasBorrowed, HasEventsRead}
-- the bare item of an accepted item is borrowed unless its text has an escape
pub use Rattle.sfv.proofs.visits.BorrowedBareItem.{first_as_read}
-- A relation holds for some visitor of the type. Every text is accepted or not (`accepted_or_not`). A visitor's error
-- on an item is one on some item (`item_failed`). It comes at some event, or at the end (`fails_somewhere`). The clause
-- `visitor` implies this relation (`has_visitor_error`, `fails_in`).
pub use Rattle.sfv.proofs.Relations.{WithSomeVisitor, accepted_or_not, item_failed, fails_somewhere}
pub use Rattle.sfv.proofs.Relations.{fails_in, has_visitor_error}
-- `ExpectItem`: its result is the bare item of the field. It fails at a bare item of another kind, whatever follows
-- (`expect_first`), or for memory, and nowhere else (`expect_only`). `expect_read`: the result is the bare item as
-- read.
pub use Rattle.sfv.proofs.Expected.{expect_answers, expect_fails, expect_first, expect_only, expect_read}
-- the bare item of an accepted item is the first in its text
pub use Rattle.sfv.proofs.visits.First.{begins_with_its}
-- The builder of an item returns the parsed value; its error is out of memory. All maps of the item hash under the
-- builder's seed (`item_seeded`).
pub use Rattle.sfv.proofs.built.Items.{built as item_built, built_fails as item_built_fails, item_seeded}
-- The builder of a list or dictionary returns the parsed value, if it held no member. Each member was passed to the
-- builder, or hashes under its seed (`list_adds`). If the passed members hash under the seed, all do (`list_seeded`).
pub use Rattle.sfv.proofs.built.Lists.{built_list as list_built, list_adds, list_seeded, no_list_held}
pub use Rattle.sfv.proofs.built.Dictionaries.{built_dictionary as dictionary_built, dictionary_adds, dictionary_seeded}
pub use Rattle.sfv.proofs.built.Dictionaries.{no_entry_held}
-- An iterator over all members of a list (`members_all`) or a dictionary (`entries_all`), or over all items of an inner
-- list (`items_all`), writes their text. `one_member`, `one_entry`, `one_inner_item` and `one_parameter`: the text of one
-- element.
pub use Rattle.sfv.proofs.Elements.{members_all, items_all, entries_all}
pub use Rattle.sfv.proofs.Elements.{one_member, one_entry, one_inner_item, one_parameter}
-- Under RFC 9651, the error of `serialize_for`, `append_member` and `append_inner_list` is out of memory.
pub use Rattle.sfv.proofs.Elements.{newer_error}
-- A list or a dictionary with a member comes from a text with a byte that may need memory (`member_needs`). Then any
-- error of a function that also writes the value meets `NeedsMemory` (`needed`).
pub use Rattle.sfv.proofs.Needed.{HasByte, member_needs, needed}
-- Canonical texts are printable ASCII: those of items, of inner lists, and of whole fields. `run_append`: two runs of a
-- class in order are one. `run_weaker`: a run of a class is one of a wider class.
pub use Rattle.sfv_spec.proofs.Printable.{item_printable, inner_list_printable, printable_texts_lem, run_append}
pub use Rattle.sfv_spec.proofs.Printable.{run_weaker}
-- two fields have the same canonical text if and only if they are equal
pub use Rattle.sfv_spec.proofs.Laws.{equal_texts_lem}
-- the text of a whole inner list without a key, from the texts of the calls that wrote it
pub use Rattle.sfv.proofs.Elements.{inner_list_ended}
-- a test of some element, and a fact of some element, through a function of each element
pub use Rattle.sfv.proofs.Elements.{list_any-map, Any-map, Any-from_map}
-- the pairs of a dictionary or of parameters after a removal, and their last pairs: of the removed key, and of another
pub use Rattle.sfv_tree.proofs.Removed.{member_removed, param_removed}
pub use Rattle.sfv_spec.proofs.Collapse.{last_of-without_same, last_of-without_other}

-- the member of a key in a parsed dictionary is the last member of the key in the text, with ordered parameters
pub member_read : (version : Version) (t : List ℕ) (value : List (List ℕ × RawMember)) (key : List ℕ)
    → (h : IsParsedAs version dictionary_field t value)
    → last_of key value ≡ option_map ordered_member (last_of key h.raw)
member_read version t value key h = ap (last_of key) h.holds ∙ last_of-ordered key h.raw

-- an inserted member is the last of its key, and members of other keys are unchanged
pub last_of-insert : {A : Type 0} (j : List ℕ) (ps : List (List ℕ × A)) (k : List ℕ) (v : A)
    → no_repeats (keys ps) ≡ true → last_of j (insert_entry bytes_eq ps k v)
    ≡ cond (bytes_eq j k) (Some v) (last_of j ps)
last_of-insert {A} j ps k v distinct =
    let same = collapse-distinct ps distinct in
    ap (last_of j) (insert_entry-entered ps k v ∙ ap (λ (qs : List (List ℕ × A)). entered qs k v) (sym same)
    ∙ sym (collapse-push ps k v)) ∙ last_of-collapse j (ps ++ (k, v) ∷ []) ∙ last_of-push j ps k v

-- an accepted text parses to its ordered value
pub parsed_as : (version : Version) (kind : FieldKind) (t : List ℕ) (raw : RawField kind)
    → IsFieldText version kind raw t → IsParsedAs version kind t (ordered kind raw)
parsed_as version kind t raw accepted = record {
  raw = raw;
  accepted = accepted;
  only = λ other k. one_field_lem version kind t other raw k accepted;
  holds = refl;
}

-- If the visitor's view goes by steps and it fails only in `finish`, its error is a function of the parsed value. A
-- syntax error is one of `parse`.
module _ {V S F X : Type 0} {finish_fails : V → F → Type 0} {from : V} (view : V → S) (step : S → TreeEvent → S) (look : S → X) (shown : F → X)
    (kind : FieldKind) (of : RawField kind → X) (start : S) (members : ¬ (kind ≡ item_field))
    (finished : (s : V) (fault : F) → finish_fails s fault → shown fault ≡ look (view s))
    (all : (raw : RawField kind) → look (fold step start (events kind raw)) ≡ of (ordered kind raw))
    (begun : view from ≡ start) where
  abbrev TakesStep : V → TreeEvent → V → Type 0
  TakesStep s e after = view after ≡ step (view s) e

  abbrev NeverAt : V → TreeEvent → F → Type 0
  NeverAt s e fault = ⊥

  last_found : (fault : F) (raw : RawField kind) → FailsIn TakesStep NeverAt finish_fails from (events kind raw) ⊤ fault
      → shown fault ≡ of (ordered kind raw)
  last_found fault raw (inl h) = absurd h.6
  last_found fault raw (inr h) = finished h.1 fault h.3 ∙ ap look (runs_fold view step (events kind raw) from h.1 h.2
      ∙ ap (λ (s : S). fold step s (events kind raw)) begun) ∙ all raw

  never_early : (fault : F) (raw : RawField kind)
      → FailsIn TakesStep NeverAt finish_fails from (events kind raw) (kind ≡ item_field) fault → ⊥
  never_early fault raw (inl h) = h.6
  never_early fault raw (inr h) = members h.0

  pub failure_read : {O : Type 0} (finishes : V → O → Type 0) (version : Version) (t : List ℕ) (r : Result O (ParseError F))
      → IfErr r (HasSyntax TakesStep finishes version kind t from)
      → IfErr r (HasVisitorError TakesStep NeverAt finish_fails version kind t from)
      → (P : ParseError F → Type 0) → ((e : Error) → IsParseError version kind t e → P (parse_errors.Syntax e))
      → ((fault : F) → (value : RawField kind) × IsParsedAs version kind t value × (shown fault ≡ of value)
      → P (parse_errors.Visitor fault)) → IfErr r P
  failure_read {O} finishes version t r h k P syntax visitor = cases r h k
    where
      cases : (r : Result O (ParseError F)) → IfErr r (HasSyntax TakesStep finishes version kind t from)
          → IfErr r (HasVisitorError TakesStep NeverAt finish_fails version kind t from) → IfErr r P
      cases (Ok out) h k = tt
      cases (Err (parse_errors.Syntax e)) h k = syntax e h.0
      cases (Err (parse_errors.Visitor fault)) h k = elim (accepted_or_not version kind t) [
        | inl a ↦ visitor fault (ordered kind a.0, parsed_as version kind t a.0 a.1, last_found fault a.0 (k.0 a.0 a.1))
        | inr n ↦ let some = (k.1 n).0 in absurd (never_early fault some.0 some.2)
      ]

-- a parsed value is a value: each part is in its range or class, and no key is repeated
pub read_is_value : (version : Version) (kind : FieldKind) (t : List ℕ) (value : RawField kind)
    → IsParsedAs version kind t value → IsValue kind value
read_is_value version kind t value h = subst (IsValue kind) (sym h.holds)
    (accepted_is_value_lem version kind t h.raw h.accepted).1

-- a text has one value
pub one_value : (version : Version) (kind : FieldKind) (t : List ℕ) (a b : RawField kind) → IsParsedAs version kind t a
    → IsParsedAs version kind t b → a ≡ b
one_value version kind t a b h k = h.holds ∙ ap (ordered kind) (k.only h.raw h.accepted) ∙ sym k.holds

-- the facts of `parse_list` and `parse_dictionary` one at a time, for a visitor that the type makes
module _ {S O E : Type 0} {v : Visitor S O E} {p : Parser} {kind : FieldKind} {Made : S → Type 0}
    (r : Result O (ParseError E)) where
  pub made_visited : WithSomeVisitor Made (ReadsBy v p kind) r → IfOk r (WithSomeVisitor Made (IsAnswerBy v p kind))
  made_visited h = IfOk-weaker r _ _ (λ out k. (h.0, h.1, k)) h.2.visited

  pub made_read : WithSomeVisitor Made (ReadsBy v p kind) r → IfOk r (WithSomeVisitor Made (ReceivesAsReadBy v p kind))
  made_read h = IfOk-weaker r _ _ (λ out k. (h.0, h.1, k)) h.2.as_read

  pub made_syntax : WithSomeVisitor Made (ReadsBy v p kind) r → IfErr r (WithSomeVisitor Made (IsSyntaxErrorBy v p kind))
  made_syntax h = IfErr-weaker r _ _ (λ e k. (h.0, h.1, k)) h.2.syntax

  pub made_visitor : WithSomeVisitor Made (ReadsBy v p kind) r → IfErr r (WithSomeVisitor Made
      (HasVisitorError v.takes v.fails v.finish_fails (version_of p) kind (input_of p)))
  made_visitor h = IfErr-weaker r _ _ (λ e k. (h.0, h.1, k)) (has_visitor_error v p kind h.0 r h.2.visitor)

-- the facts of `parse_item` one at a time
module _ {S O E : Type 0} {v : Visitor S O E} {p : Parser} {Made : S → Type 0} (r : Result O (ParseError E)) where
  pub made_item : WithSomeVisitor Made (ReadsItemBy v p) r → WithSomeVisitor Made (ReadsBy v p item_field) r
  made_item h = (h.0, h.1, h.2.all)

  pub made_first : WithSomeVisitor Made (ReadsItemBy v p) r
      → IfErr r (WithSomeVisitor Made (HasFirst v.takes v.fails v.finish_fails (version_of p) (input_of p)))
  made_first h = IfErr-weaker r _ _ (λ e k. (h.0, h.1, k)) (has_first v p h.0 r h.2.all.before_error h.2.first)

  -- the bare item of the field was received as parsed, borrowed unless it has escapes
  pub made_lent : WithSomeVisitor Made (ReadsItemBy v p) r
      → IfOk r (WithSomeVisitor Made (HasBorrowed v.takes v.takes_read v.finishes (version_of p) (input_of p)))
  made_lent h = IfOk-weaker r _ _ (λ out k. (
    h.0,
    h.1,
    first_as_read v.takes v.takes_read v.finishes (version_of p) (input_of p) h.0 out k,
  )) h.2.all.as_read

-- on accepted input, an error is out of memory
pub accepted_error : (version : Version) (kind : FieldKind) (t : List ℕ) (raw : RawField kind) (e : Error)
    → IsFieldText version kind raw t → IsParseError version kind t e → e ≡ out_of_memory
accepted_error version kind t raw e accepted (inl same) = same
accepted_error version kind t raw e accepted (inr h) = absurd (h.rejected (raw, accepted))

-- On an accepted text, a visitor returns its result for the events of the field, or memory runs out, or the visitor
-- fails on the field. So one that never fails returns a result unless memory runs out.
pub never_fails : {S O E : Type 0} (takes : S → TreeEvent → S → Type 0) (fails : S → TreeEvent → E → Type 0)
    (finishes : S → O → Type 0) (finish_fails : S → E → Type 0) (version : Version) (kind : FieldKind) (t : List ℕ)
    (from : S) (raw : RawField kind) (result : Result O (ParseError E)) → IsFieldText version kind raw t
    → IfOk result (Answers takes finishes version kind t from)
    → IfErr result (HasSyntax takes finishes version kind t from)
    → IfErr result (HasVisitorError takes fails finish_fails version kind t from)
    → (P : ParseError E → Type 0) → P (parse_errors.Syntax out_of_memory)
    → ((error : E) → FailsIn takes fails finish_fails from (events kind raw) ⊤ error → P (parse_errors.Visitor error))
    → MatchResult result (ReturnsAfter takes finishes from (events kind raw)) P
never_fails takes fails finishes finish_fails version kind t from raw (Ok out) accepted h k l P memory failed =
    subst (λ (raw : RawField kind). ReturnsAfter takes finishes from (events kind raw) out) (sym (h.only raw accepted))
    h.holds
never_fails takes fails finishes finish_fails version kind t from raw (Err (parse_errors.Syntax e)) accepted h k l P memory
    failed = subst (λ (e : Error). P (parse_errors.Syntax e)) (sym (accepted_error _ _ _ _ _ accepted k.0)) memory
never_fails takes fails finishes finish_fails version kind t from raw (Err (parse_errors.Visitor error)) accepted h k l P
    memory failed = failed error (l.0 raw accepted)

-- an error with an index is the syntax error of the text at this index
pub located_error : (version : Version) (kind : FieldKind) (t : List ℕ) (e : Error) (index : ℕ)
    → IsParseError version kind t e → index_of e ≡ Some index
    → (fault : ErrorKind) × (kind_of e ≡ fault) × IsFaultAt version kind t fault index
located_error version kind t e index (inl same) here =
    absurd (let none : index_of e ≡ None = ap index_of same in cc)
located_error version kind t e index (inr h) here =
    let place : h.index ≡ index = same_Some h.index index (sym (ap index_of h.error) ∙ here) in
    (h.fault, ap kind_of h.error, subst (IsFaultAt version kind t h.fault) place h.located)

-- a further line of a list: its members follow the members that the builder held
pub list_after : {E : Type 0} (version : Version) (t : List ℕ) (held : List RawMember) (from : ListBuilder)
    (r : Result (Vec ListEntry Global) E) → list_state from ≡ (held, None)
    → IfOk r (Answers (λ (s : ListBuilder) e after. (list_state after ≡ list_step (list_state s) e)
    × ListAdds s after) (λ s (list : Vec ListEntry Global). list ≡ s.list) version list_field t from)
    → IfOk r (λ list. (raw : List RawMember) × IsFieldText version list_field raw t
    × (list_tree list.items ≡ held ++ ordered list_field raw))
list_after version t held from r here = IfOk-weaker r _ _ (λ list h.
    let whole = built_list_after version t held from list here h in (whole.0, whole.1, whole.3))

-- a further line of a dictionary: the ordered value of the members that the builder held, and the members of the line
pub dictionary_after : {E : Type 0} (version : Version) (t : List ℕ) (held : List (List ℕ × RawMember))
    (from : DictionaryBuilder) (r : Result (IndexMap (List ℕ) ListEntry HashSeed) E) → ordered dictionary_field held ≡ held
    → dictionary_state from ≡ (held, None)
    → IfOk r (Answers (λ (s : DictionaryBuilder) e after. (dictionary_state after
    ≡ dictionary_step (dictionary_state s) e) × DictionaryAdds s after)
    (λ s (dictionary : IndexMap (List ℕ) ListEntry HashSeed). dictionary ≡ s.dictionary) version dictionary_field t from)
    → IfOk r (λ dictionary. (raw : List (List ℕ × RawMember)) × IsFieldText version dictionary_field raw t
    × (dictionary_tree dictionary.entries ≡ ordered dictionary_field (held ++ raw)))
dictionary_after version t held from r own here = IfOk-weaker r _ _ (λ dictionary h.
    let distinct = same_ordered dictionary_field held own in
    let whole = built_dictionary_after version t held from dictionary distinct.0 here h in
    (whole.0, whole.1, whole.4 distinct))
