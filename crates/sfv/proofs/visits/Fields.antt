-- What is visited of a whole field.
use Rattle.std.proofs.Common.{◌≡◌, ℕ, ◌≤◌, List, [], ◌∷◌, ◌++◌, length, take, drop, Option, Some, None, Result, Ok, Err}
use Rattle.std.proofs.Common.{refl, sym, ap, subst, ◌∙◌, append_assoc, inl, inr, take-append-drop, Bool, true, false}
use Rattle.std.{proofs.Common.{MatchOption, IfOk, IfErr, flat_map, ◌⊎◌, codes}, specs.List.FoldsTo}
use Rattle.std.{specs.Prelude.⊤, specs.declared.alloc.Global.Global, proofs.lemmas.List.append_cancel_right}
use Rattle.sfv_spec.specs.Events.{TreeEvent, events, item_events}
use Rattle.sfv_spec.specs.{Faults.IsWantedAt, Grammar.{IsFieldText, IsAccepted, HasField}, Reach.IsReach}
use Rattle.sfv_spec.{specs.Values.{RawField, RawItem, IsFieldValue}, proofs.Marks.is_space}
use Rattle.sfv_spec.proofs.{Structure.one_field_lem, Valid.accepted_is_value_lem, Versions.one_reach_lem}
use Rattle.sfv_model.specs.{Fields.{members_at, whole_field_at, ending, read_field}, Items.item_at, Judgements.Reached}
use Rattle.sfv_model.specs.{Reader.{Answer, Fault, and_then, bind, give, span, visited, ◌>>=◌}, Visits.VisitorFails}
use Rattle.sfv_model.proofs.{Theorems.{read_is_accepted, fault_is_placed}, TrailingBytes.read_before}
use Rattle.sfv_model.proofs.Types.{FieldKind, item_field, list_field, dictionary_field, Version, ErrorKind}
use Rattle.sfv_model.proofs.{Types.TrailingCharactersAfterParsedValue, complete.Combinators.bind_complete}
use Rattle.sfv_model.proofs.sound.{Combinators.{Somewhere, Begins}, Fields.{FieldGoes, Sound-field}}
use Rattle.sfv_model.proofs.visits.EventsExpected.{expected_events, delimited_events}
use Rattle.sfv_base.specs.Errors.{error_of, kind_of, index_of, out_of_memory}
use Rattle.sfv_base.specs.declared.error.{Error.Error, ParseError.ParseError, ParseError.TheVariants.{Syntax, Visitor}}
use Rattle.sfv_tree.specs.declared.visitor.Visitor.{Ghosts}
use Rattle.sfv.specs.Memory.{IsRefusal}
use Rattle.sfv.specs.Parsers.{version_of, input_of, IsParseError, Returns, IsAnswerBy, IsSyntaxErrorBy, HasEvents}
use Rattle.sfv.specs.Parsers.{AreBefore, Takes, ReceivesUpTo, ReceivesBeforeErrorBy}
use Rattle.sfv.specs.declared.parser.{Parser.Parser, cursor.Cursor.Cursor}
use Rattle.sfv.specs.parser.Cursor.{kept_input, located, IsErrorOf, located_whole}
use Rattle.sfv.specs.parser.Members.{MemberValue, member_parts, one_member_at, field_of}
use Rattle.sfv.specs.parser.Visits.{VisitsAnswer, IsOfVisitor, VisitsField, IsFinishedAt, IsAskedThere, ReturnsAfter}
use Rattle.sfv.{specs.parser.Visits.{TookAllOf, TookAll}, proofs.Parsed.{located_fault, parse_error}}
use Rattle.sfv.proofs.{reads.Delimiters.span_total, visits.Received.{visited_whole, visited_open_list, visited_begun}}
use Rattle.sfv.proofs.visits.{Taken.split_run, Whole.{spaced, field_error, ending_located}}

whole_is : (version : Version) (t s r : List ℕ) → span is_space t ≡ Ok (s, r)
    → whole_field_at version item_field t ≡ spaced version r
unfolding whole_field_at spaced
whole_is version t s r e = bind_complete (span is_space) _ t r s e

whole_some : (version : Version) (t s r q : List ℕ) (raw : RawItem) → span is_space t ≡ Ok (s, r)
    → item_at version r ≡ Ok (raw, q) → (w : List ℕ) × (whole_field_at version item_field t ≡ Ok (raw, w))
unfolding spaced give
whole_some version t s r q raw e k =
    let h = span_total _ _ in (h.1, whole_is _ _ _ _ e ∙ bind_complete _ _ _ _ _ k ∙ bind_complete _ _ _ _ _ h.2)

whole_fault : (version : Version) (t s r : List ℕ) (f : Fault) → span is_space t ≡ Ok (s, r) → item_at version r ≡ Err f
    → whole_field_at version item_field t ≡ Err f
unfolding spaced bind
whole_fault version t s r f e k = whole_is version t s r e ∙ ap (λ a. and_then a (λ i. span is_space >>= λ _. give i)) k

-- the spaces before and after an item hand out nothing
pub whole_visited : (version : Version) (t s r : List ℕ) → span is_space t ≡ Ok (s, r)
    → visited (events item_field) (whole_field_at version item_field t) ≡ visited item_events (item_at version r)
whole_visited version t s r e = on (item_at version r) refl
  where
    on : (a : Answer RawItem) → item_at version r ≡ a
        → visited (events item_field) (whole_field_at version item_field t) ≡ visited item_events a
    on (Ok x) k = ap (visited (events item_field)) (whole_some version t s r x.1 x.0 e k).1
    on (Err f) k = ap (visited (events item_field)) (whole_fault version t s r f e k)

-- a failure within the item
pub whole_failed : {S E : Type 0} (takes : S → TreeEvent → S → Type 0) (fails : S → TreeEvent
    → E → Type 0) (version : Version) (t s r : List ℕ) (from : S) (fault : E) → span is_space t ≡ Ok (s, r)
    → VisitorFails takes fails item_events (item_at version r) from fault
    → VisitorFails takes fails (events item_field) (whole_field_at version item_field t) from fault
whole_failed takes fails version t s r from fault e h = record {
  before = h.before;
  e = h.e;
  after = h.after;
  s = h.s;
  all = whole_visited version t s r e ∙ h.all;
  taken = h.taken;
  failed = h.failed;
}

pub same_value : {A : Type 0} (a : Answer A) (v w : A) (q r : List ℕ) → a ≡ Ok (v, q) → a ≡ Ok (w, r) → v ≡ w
same_value {A} a v w q r e h =
    let here : A × List ℕ = (v, q) in
    let there : A × List ℕ = (w, r) in
    let both : Result (A × List ℕ) Fault = Ok here in
    let same : both ≡ Ok there = sym e ∙ h in
    let parts : here ≡ there = cc in
    ap (λ (p : A × List ℕ). p.0) parts

-- what was read is no fault
no_fault : {A : Type 0} (a : Answer A) (v : A) (q : List ℕ) (k : ErrorKind) (r : List ℕ) → a ≡ Ok (v, q)
    → located a ≡ Err (k, r) → ⊥
no_fault (Ok x) v q k r e h = absurd cc
no_fault (Err f) v q k r e h = absurd cc

fault_of_whole : (version : Version) (kind : FieldKind) (t : List ℕ) (k : ErrorKind) (r : List ℕ)
    → located (whole_field_at version kind t) ≡ Err (k, r) → located_whole (read_field version kind t) ≡ Err (k, r)
unfolding read_field
fault_of_whole version kind t k r h = ending_located (events kind) (whole_field_at version kind t) k r h

-- an item whose reading fails is none
no_item : {S O : Type 0} (takes : S → TreeEvent → S → Type 0) (finishes : S
    → O → Type 0) (version : Version) (t s r q : List ℕ) (from : S) (i : List ℕ) (e : Error) (raw : RawItem)
    → span is_space t ≡ Ok (s, r) → IsErrorOf i e (item_at version r)
    → whole_field_at version item_field t ≡ Ok (raw, q)
    → MatchOption (index_of e) ⊤ (λ index. (item_field ≡ item_field) × (out : O)
    × ReturnsAfter takes finishes from (item_events raw) out)
no_item {S} {O} takes finishes version t s r q from i e raw skipped error whole = on (index_of e) error
  where
    never : (a : Answer RawItem) (k : ErrorKind) (rest : List ℕ) → item_at version r ≡ a → located a ≡ Err (k, rest) → ⊥
    never (Ok x) k rest h n = absurd cc
    never (Err f) k rest h n = let w = sym (whole_fault version t s r f skipped h) ∙ whole in absurd cc

    on : (o : Option ℕ) → MatchOption o (IsRefusal i e) (λ index. (located (item_at version r) ≡ Err (kind_of e, drop index i)) × (index ≤ length i))
        → MatchOption o ⊤ (λ index. (item_field ≡ item_field) × (out : O)
        × ReturnsAfter takes finishes from (item_events raw) out)
    on None h = tt
    on (Some n) h = absurd (never (item_at version r) _ _ refl h.0)

-- what stands after an item is looked at after the answer
pub finished_at : {S O : Type 0} (takes : S → TreeEvent → S → Type 0) (finishes : S
    → O → Type 0) (version : Version) (t s r q : List ℕ) (item : RawItem) (from to : S) (out : O) (e : Error)
    → span is_space t ≡ Ok (s, r) → item_at version r ≡ Ok (item, q) → FoldsTo takes from (item_events item) to
    → finishes to out → IsFinishedAt takes finishes version item_field t from e
finished_at {S} {O} takes finishes version t s r q item from to out e skipped read run finished raw w whole =
    on (index_of e)
  where
    on : (o : Option ℕ) → MatchOption o ⊤ (λ index. (item_field ≡ item_field) × (out : O)
        × ReturnsAfter takes finishes from (item_events raw) out)
    on None = tt
    on (Some n) =
        let there = whole_some version t s r q item skipped read in
        let same = same_value (whole_field_at version item_field t) item raw there.0 w there.1 whole in
        let taken = subst (λ (i : RawItem). FoldsTo takes from (item_events i) to) same run in
        (refl, out, (to, taken, finished))

-- all events of the item were taken, which are those of the field
took_item : {S : Type 0} (takes : S → TreeEvent → S → Type 0) (version : Version) (t s r : List ℕ) (from to : S) (e : Error)
    → span is_space t ≡ Ok (s, r) → TookAll takes item_events e (item_at version r) from to
    → TookAllOf takes version item_field t from e
took_item {S} takes version t s r from to e skipped h = on (index_of e) h
  where
    on : (o : Option ℕ) → MatchOption o ⊤ (λ index. FoldsTo takes from (visited item_events (item_at version r)) to)
        → MatchOption o ⊤ (λ index. (to : S) × FoldsTo takes from (visited (events item_field) (whole_field_at version item_field t)) to)
    on None m = tt
    on (Some n) m = (
      to,
      subst (λ (es : List TreeEvent). FoldsTo takes from es to) (sym (whole_visited version t s r skipped)) m,
    )

-- all events of an item that was read
pub took_whole : {S : Type 0} (takes : S → TreeEvent → S → Type 0) (version : Version) (t s r q : List ℕ) (item : RawItem)
    (from to : S) (e : Error) → span is_space t ≡ Ok (s, r) → item_at version r ≡ Ok (item, q)
    → FoldsTo takes from (item_events item) to → TookAllOf takes version item_field t from e
took_whole {S} takes version t s r q item from to e skipped read run =
    took_item takes version t s r from to e skipped (on (index_of e))
  where
    on : (o : Option ℕ) → MatchOption o ⊤ (λ index. FoldsTo takes from (visited item_events (item_at version r)) to)
    on None = tt
    on (Some n) = subst (λ (es : List TreeEvent). FoldsTo takes from es to) (sym (ap (visited item_events) read)) run

-- all events of a field that is at fault
took_field : {S : Type 0} (takes : S → TreeEvent → S → Type 0) (version : Version) (kind : FieldKind) (t : List ℕ)
    (from to : S) (e : Error) → TookAll takes (events kind) e (whole_field_at version kind t) from to
    → TookAllOf takes version kind t from e
took_field {S} takes version kind t from to e h = on (index_of e) h
  where
    on : (o : Option ℕ) → MatchOption o ⊤ (λ index. FoldsTo takes from (visited (events kind) (whole_field_at version kind t)) to)
        → MatchOption o ⊤ (λ index. (to : S) × FoldsTo takes from (visited (events kind) (whole_field_at version kind t)) to)
    on None m = tt
    on (Some n) m = (to, m)

-- an error within the item: a fault, or the visitor fails
pub item_fails : {S O E : Type 0} (takes : S → TreeEvent → S → Type 0) (fails : S → TreeEvent → E → Type 0)
    (finishes : S → O → Type 0) (finish_fails : S → E → Type 0) (version : Version) (k : Parser × Global)
    (s r : List ℕ) (from to : S) (after : Cursor) (error : ParseError E) → span is_space (kept_input k) ≡ Ok (s, r)
    → VisitsAnswer takes fails item_events k after from to (Err error) (item_at version r)
    → VisitsField takes fails finishes finish_fails version item_field (kept_input k) from (Err error)
item_fails takes fails finishes finish_fails version k s r from to after (Syntax e) skipped h = (
  field_error version (kept_input k) s r (kept_input k) e skipped h.0,
  λ raw q whole. no_item takes finishes version (kept_input k) s r q from (kept_input k) e raw skipped h.0 whole,
  took_item takes version (kept_input k) s r from to e skipped h.1,
)
item_fails takes fails finishes finish_fails version k s r from to after (Visitor f) skipped h =
    inl (whole_failed takes fails version (kept_input k) s r from f skipped h)

-- the visitor fails to answer after the item
pub finish_failed : {S O E : Type 0} (takes : S → TreeEvent → S → Type 0)
    (fails : S → TreeEvent → E → Type 0) (finishes : S → O → Type 0) (finish_fails : S → E → Type 0) (version : Version)
    (t s r q : List ℕ) (raw : RawItem) (from to : S) (error : ParseError E) → span is_space t ≡ Ok (s, r)
    → item_at version r ≡ Ok (raw, q) → FoldsTo takes from (item_events raw) to → IsOfVisitor (finish_fails to) error
    → VisitsField takes fails finishes finish_fails version item_field t from (Err error)
finish_failed takes fails finishes finish_fails version t s r q raw from to (Syntax e) skipped k run failed =
    absurd failed
finish_failed takes fails finishes finish_fails version t s r q raw from to (Visitor fault) skipped k run failed =
    let whole = whole_some version t s r q raw skipped k in
    inr (raw, whole.0, to, whole.1, run, failed, tt)

-- ---- members, up to the end

-- an error within the field: a fault, or the visitor fails
pub field_fails : {S O E : Type 0} (takes : S → TreeEvent → S → Type 0)
    (fails : S → TreeEvent → E → Type 0) (finishes : S → O → Type 0) (finish_fails : S → E → Type 0)
    (version : Version) (kind : FieldKind) (k : Parser × Global) (from to : S) (after : Cursor) (error : ParseError E)
    → VisitsAnswer takes fails (events kind) k after from to (Err error) (whole_field_at version kind (kept_input k))
    → VisitsField takes fails finishes finish_fails version kind (kept_input k) from (Err error)
field_fails {S} {O} takes fails finishes finish_fails version kind k from to after (Visitor f) h = inl h
field_fails {S} {O} takes fails finishes finish_fails version kind k from to after (Syntax e) h = (
  on (index_of e) h.0,
  λ raw q whole. never raw q whole (index_of e) h.0,
  took_field takes version kind (kept_input k) from to e h.1,
)
  where
    t : List ℕ
    t = kept_input k

    on : (o : Option ℕ) → MatchOption o (IsRefusal t e) (λ index. (located (whole_field_at version kind t) ≡ Err (kind_of e, drop index t))
        × (index ≤ length t)) → MatchOption o (IsRefusal t e) (λ index. (located_whole (read_field version kind t) ≡ Err (kind_of e, drop index t))
        × (index ≤ length t))
    on None m = m
    on (Some n) m = (fault_of_whole version kind t _ _ m.0, m.1)

    never : (raw : RawField kind) (q : List ℕ) → whole_field_at version kind t ≡ Ok (raw, q) → (o : Option ℕ)
        → MatchOption o (IsRefusal t e) (λ index. (located (whole_field_at version kind t)
        ≡ Err (kind_of e, drop index t)) × (index ≤ length t))
        → MatchOption o ⊤ (λ index. (kind ≡ item_field) × (out : O)
        × ReturnsAfter takes finishes from (events kind raw) out)
    never raw q whole None m = tt
    never raw q whole (Some n) m = absurd (no_fault (whole_field_at version kind t) raw q _ _ whole m.0)

-- the visitor fails to answer at the end
pub end_failed : {S O E : Type 0} (takes : S → TreeEvent → S → Type 0) (fails : S → TreeEvent → E → Type 0)
    (finishes : S → O → Type 0) (finish_fails : S → E → Type 0) (version : Version) (kind : FieldKind) (t q : List ℕ)
    (raw : RawField kind) (from to : S) (error : ParseError E) → whole_field_at version kind t ≡ Ok (raw, q)
    → IsAskedThere kind q → FoldsTo takes from (events kind raw) to → IsOfVisitor (finish_fails to) error
    → VisitsField takes fails finishes finish_fails version kind t from (Err error)
end_failed takes fails finishes finish_fails version kind t q raw from to (Syntax e) read asked run failed =
    absurd failed
end_failed takes fails finishes finish_fails version kind t q raw from to (Visitor fault) read asked run failed =
    inr (raw, q, to, read, run, failed, asked)

pub whole_read : (version : Version) (kind : FieldKind) (t q : List ℕ) (raw : RawField kind)
    → whole_field_at version kind t ≡ Ok (raw, q) → q ≡ [] → read_field version kind t ≡ Ok raw
unfolding read_field
whole_read version kind t q raw e end = ap (ending (events kind)) (e ∙ ap (λ (l : List ℕ). Ok (raw, l)) end)

-- the members of a field are what it is read as
pub members_fail : {S O E : Type 0} (takes : S → TreeEvent → S → Type 0)
    (fails : S → TreeEvent → E → Type 0) (finishes : S → O → Type 0) (finish_fails : S → E → Type 0)
    (keyed : Bool) (version : Version) (k : Parser × Global) (from to : S) (after : Cursor) (error : ParseError E)
    → VisitsAnswer takes fails (λ members. flat_map (member_parts keyed) members) k after from to (Err error)
    (members_at (member_parts keyed) (one_member_at keyed version) (kept_input k))
    → VisitsField takes fails finishes finish_fails version (field_of keyed) (kept_input k) from (Err error)
unfolding whole_field_at
members_fail takes fails finishes finish_fails true version k from to after error h =
    field_fails takes fails finishes finish_fails version dictionary_field k from to after error h
members_fail takes fails finishes finish_fails false version k from to after error h =
    field_fails takes fails finishes finish_fails version list_field k from to after error h

-- what the visitor answers at the end
pub members_finish : {S O E : Type 0} (takes : S → TreeEvent → S → Type 0) (fails : S → TreeEvent → E → Type 0)
    (finishes : S → O → Type 0) (finish_fails : S → E → Type 0) (keyed : Bool) (version : Version) (t q : List ℕ)
    (from to : S) (r : Result O (ParseError E)) (ms : List (MemberValue keyed)) → members_at (member_parts keyed)
    (one_member_at keyed version) t ≡ Ok (ms, q) → q ≡ [] → FoldsTo takes from (flat_map (member_parts keyed) ms) to
    → IfOk r (finishes to) → IfErr r (IsOfVisitor (finish_fails to))
    → VisitsField takes fails finishes finish_fails version (field_of keyed) t from r
unfolding whole_field_at
members_finish takes fails finishes finish_fails true version t q from to (Ok out) ms read end run answered failed =
    (ms, whole_read version dictionary_field t q ms read end, (to, run, answered))
members_finish takes fails finishes finish_fails false version t q from to (Ok out) ms read end run answered failed =
    (ms, whole_read version list_field t q ms read end, (to, run, answered))
members_finish takes fails finishes finish_fails true version t q from to (Err e) ms read end run answered failed =
    end_failed takes fails finishes finish_fails version dictionary_field t q ms from to e read end run failed
members_finish takes fails finishes finish_fails false version t q from to (Err e) ms read end run answered failed =
    end_failed takes fails finishes finish_fails version list_field t q ms from to e read end run failed

-- ---- what this says in the words of the definitions

ending_ok : {A : Type 0} (parts : A → List TreeEvent) (a : Answer A) (v : A) → ending parts a ≡ Ok v → a ≡ Ok (v, [])
ending_ok parts (Ok (w, [])) v e = let same : w ≡ v = cc in ap (λ (x : _). Ok (x, [])) same
ending_ok parts (Ok (w, c ∷ r)) v e = absurd cc
ending_ok parts (Err f) v e = absurd cc

pub whole_accepted : (version : Version) (kind : FieldKind) (t : List ℕ) (raw : RawField kind)
    → IsFieldText version kind raw t → whole_field_at version kind t ≡ Ok (raw, [])
unfolding read_field
whole_accepted version kind t raw h = ending_ok _ _ _ ((read_is_accepted version kind t raw).1 h)

-- what was read of a text is a value
pub whole_value : (version : Version) (kind : FieldKind) (t q : List ℕ) (raw : RawField kind)
    → whole_field_at version kind t ≡ Ok (raw, q) → IsFieldValue kind raw
whole_value version kind t q raw e =
    let h : Reached (IsFieldText version kind) (FieldGoes version kind) (Somewhere (FieldGoes version kind)) t (Ok (
      raw,
      q,
    )) = subst (λ (a : Answer (RawField kind)).
    Reached (IsFieldText version kind) (FieldGoes version kind) (Somewhere (FieldGoes version kind)) t a) e
    ((Sound-field version kind).sound t) in
    (accepted_is_value_lem version kind h.0 raw h.2).0

-- where a text is rejected, only an item's visitor was asked
pub asked_of_item : (kind : FieldKind) (q : List ℕ) → IsAskedThere kind q → (q ≡ [] → ⊥) → kind ≡ item_field
asked_of_item item_field q asked none = refl
asked_of_item list_field q asked none = absurd (none asked)
asked_of_item dictionary_field q asked none = absurd (none asked)

-- the fault that more stands after a field
abbrev after_field : (kind : FieldKind) → RawField kind → List ℕ → Fault
after_field kind raw rest = record {
  kind = TrailingCharactersAfterParsedValue;
  exact = true;
  rest = rest;
  events = events kind raw;
}

trailing_kind : (k : ErrorKind) → k ≡ TrailingCharactersAfterParsedValue → k ≡ TrailingCharactersAfterParsedValue
trailing_kind TrailingCharactersAfterParsedValue e = refl
trailing_kind _ e = absurd cc

front_is : (t front rest : List ℕ) (n : ℕ) → t ≡ front ++ rest → rest ≡ drop n t → front ≡ take n t
front_is t front rest n e d = append_cancel_right front (take n t) rest (sym e ∙ sym (take-append-drop n t)
    ∙ ap (λ (l : List ℕ). take n t ++ l) (sym d))

-- where more stands after a field, the field is the text up to the reach
pub text_before : (version : Version) (kind : FieldKind) (t q : List ℕ) (raw : RawField kind)
    → whole_field_at version kind t ≡ Ok (raw, q) → ¬ (q ≡ []) → (n : ℕ) → IsReach version kind t n
    → IsFieldText version kind raw (take n t)
unfolding read_field
text_before version kind t [] raw e more n reach = absurd (more refl)
text_before version kind t (c ∷ q) raw e more n reach =
    let fault : read_field version kind t ≡ Err (after_field kind raw (c ∷ q)) = ap (ending (events kind)) e in
    let before = read_before version kind t (after_field kind raw (c ∷ q)) fault refl in
    let place = (fault_is_placed version kind t (after_field kind raw (c ∷ q)) fault).exact refl in
    let here : c ∷ q ≡ drop n t =
    sym place.1 ∙ ap (λ (n : ℕ). drop n t) (one_reach_lem version kind t place.0 n place.2 reach) in
    let same : before.raw ≡ raw = same_value (whole_field_at version kind t) before.raw raw (c ∷ q) (c ∷ q) before.read e in
    subst (λ (raw : RawField kind). IsFieldText version kind raw (take n t)) same
    (subst (IsFieldText version kind before.raw) (front_is t before.front (c ∷ q) n before.text here) before.means)

-- what the parser's call for a whole field returns, as its clauses say
module _ {S O E : Type 0} (v : Ghosts S O E) (p : Parser) (kind : FieldKind) (from : S) where
  abbrev version : Version
  version = version_of p

  abbrev t : List ℕ
  t = input_of p

  abbrev Visits : Result O (ParseError E) → Type 0
  Visits r = VisitsField v.takes v.fails v.finishes v.finish_fails version kind t from r

  pub visits_answer : (r : Result O (ParseError E)) → Visits r → IfOk r (IsAnswerBy v p kind from)
  visits_answer (Ok out) h =
      let accepted = (read_is_accepted version kind t h.0).0 h.1 in
      record {
        raw = h.0;
        accepted = accepted;
        only = λ other k. one_field_lem version kind t other h.0 k accepted;
        holds = h.2;
      }
  visits_answer (Err e) h = tt

  in_front : (index : ℕ) → Visits (Err (Syntax (error_of TrailingCharactersAfterParsedValue (Some index))))
      → (out : O) × HasField version kind (take index t) (λ raw. Returns v from (events kind raw) out)
  in_front index h =
      let f = located_fault (read_field version kind t) _ _ h.0.0 in
      let before = read_before version kind t f.0 f.1 (trailing_kind f.0.kind f.2) in
      let accepted : IsFieldText version kind before.raw (take index t) = subst (IsFieldText version kind before.raw)
      (front_is t before.front f.0.rest index before.text f.3) before.means in
      let answered = h.1 before.raw f.0.rest before.read in (
        answered.1,
        record {
          raw = before.raw;
          accepted = accepted;
          only = λ other k. one_field_lem version kind (take index t) other before.raw k accepted;
          holds = answered.2;
        },
      )

  pub visits_syntax : (r : Result O (ParseError E)) → Visits r → IfErr r (IsSyntaxErrorBy v p kind from)
  visits_syntax (Ok out) h = tt
  visits_syntax (Err (Syntax e)) h = (
    parse_error version kind t e h.0,
    λ index same. in_front index (subst (λ (e : Error). Visits (Err (Syntax e))) same h),
  )
  visits_syntax (Err (Visitor f)) h = tt

  has_visited : (es first : List TreeEvent) (u q : List ℕ) → HasEvents version kind es u → AreBefore es first q
      → Begins (visited (events kind) (whole_field_at version kind (u ++ q))) first
  has_visited es first u q (raw, inl (h, same)) b =
      visited_whole version kind raw u q first h (subst (λ (es : List TreeEvent). AreBefore es first q) (sym same) b)
  has_visited es first u q (raw, inr (h, e)) b = (visited_open_list version kind raw u q es h e).0 first b

  has_expected : (es : List TreeEvent) (fault : ErrorKind) (n : ℕ) → IsWantedAt version kind t fault n
      → HasEvents version kind es (take n t) → Begins (visited (events kind) (whole_field_at version kind t)) es
  has_expected es fault n w (raw, inl (h, same)) = subst (Begins
      (visited (events kind) (whole_field_at version kind t))) same (expected_events version kind t fault n w raw h)
  has_expected es fault n w (raw, inr (h, e)) = elim (visited_open_list version kind raw (take n t) (drop n t) es h e).1 [
    | inl b ↦ subst (λ (l : List ℕ). Begins (visited (events kind) (whole_field_at version kind l)) es)
        (take-append-drop n t) b
    | inr longer ↦ delimited_events version kind t fault n w
        (subst (IsAccepted version kind) (append_assoc (take n t) (codes ";a") (codes ")")) longer) raw es h e
  ]

  pub visits_before : (r : Result O (ParseError E)) → Visits r → IfErr r (ReceivesBeforeErrorBy v p kind from)
  visits_before (Ok out) h = tt
  visits_before (Err (Visitor f)) h = tt
  visits_before (Err (Syntax e)) h = on (parse_error version kind t e h.0)
    where
      at_index : {n : ℕ} → (o : Option ℕ) → o ≡ Some n
          → MatchOption o ⊤ (λ index. (to : S) × FoldsTo v.takes from (visited (events kind) (whole_field_at version kind t)) to)
          → (to : S) × FoldsTo v.takes from (visited (events kind) (whole_field_at version kind t)) to
      at_index None same m = absurd cc
      at_index (Some n) same m = m

      on : IsParseError version kind t e → (e ≡ out_of_memory) ⊎ ReceivesUpTo v p kind from
      on (inl same) = inl same
      on (inr s) =
          let took = at_index (index_of e) (ap index_of s.error) h.2 in
          let seen : (u : List ℕ) (first : List TreeEvent) → t ≡ u
          → Begins (visited (events kind) (whole_field_at version kind u)) first → Takes v from first = λ u first same b.
          let run = split_run v.takes first b.0 from took.0
          (subst (λ (es : List TreeEvent). FoldsTo v.takes from es took.0)
          (ap (λ (l : List ℕ). visited (events kind) (whole_field_at version kind l)) same ∙ b.1) took.1) in
          (run.0, run.1) in
          inr (record {
            whole = λ es first h. seen (h.front ++ h.back) first h.text
                (has_visited es first h.front h.back h.first h.second);
            begun = λ raw first h. seen (h.front ++ h.back) (events kind raw ++ first) h.text
                (visited_begun version kind raw h.front h.back first h.first h.second);
            expected = λ es fault n w h. seen t es refl (has_expected es fault n w h);
          })
