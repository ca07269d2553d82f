-- Events that are read to their end are those of a field, and from each place there are events that end it.
use Rattle.std.proofs.Common.{◌≡◌, ℕ, List, [], ◌∷◌, ◌++◌, flat_map, refl, sym, ◌∙◌, ap, subst, append_assoc, true}
use Rattle.std.proofs.Common.{false, Option, Some, None, option_map, MatchOption, append-nil}
use Rattle.sfv.specs.Events.{TreeEvent, entry, keyed_entry, begins_item, begins_inner_list, bare_item, parameter}
use Rattle.sfv.specs.Events.{parameters_end, inner_list_end, parameters_events, item_events, inner_item_events}
use Rattle.sfv.specs.Events.{member_events, entry_events, keyed_events, events}
use Rattle.sfv.specs.Types.{FieldKind, item_field, list_field, dictionary_field}
use Rattle.sfv.specs.Values.{boolean, RawParameters, RawItem, RawInnerList, RawMember, item, inner_list, RawField}
use Rattle.sfv_c.specs.RowEvents.{ParseState, ended, list_members, dictionary_members, member, value, parameters, items}
use Rattle.sfv_c.specs.RowEvents.{IsValidEvent, after, added, beginning, Piece, followed_by, piece, text_only}
use Rattle.sfv_c.specs.Writing.{BeginsEvents}
use Rattle.sfv_c.proofs.{Stops.a_place, Valid.{AreValid, valid_field, valid_together}}

-- the events of an inner list after the one that begins it
abbrev inside : RawInnerList → List TreeEvent
inside l = flat_map inner_item_events l.items ++ inner_list_end ∷ parameters_events l.parameters

-- these are the events of what a place wants, to the end of the field
abbrev IsRest : ParseState → List TreeEvent → Type 0
IsRest ended es = es ≡ []
IsRest (list_members f) es = (ms : List RawMember) × (es ≡ flat_map entry_events ms)
IsRest (dictionary_members f) es = (ms : List (List ℕ × RawMember)) × (es ≡ flat_map keyed_events ms)
IsRest (member f p) es = (m : RawMember) × (rest : List TreeEvent) × (es ≡ member_events m ++ rest) × IsRest p rest
IsRest (value f p) es = (i : RawItem) × (rest : List TreeEvent) × (es ≡ item_events i ++ rest) × IsRest p rest
IsRest (parameters p) es =
    (ps : RawParameters) × (rest : List TreeEvent) × (es ≡ parameters_events ps ++ rest) × IsRest p rest
IsRest (items f p) es = (l : RawInnerList) × (rest : List TreeEvent) × (es ≡ inside l ++ rest) × IsRest p rest

-- these events may come here, to the end of a field
abbrev pub MayEnd : ParseState → List TreeEvent → Type 0
MayEnd p es = (x : Piece) × (added p es ≡ Some x)

none_left : (p : ParseState) → MayEnd p [] → IsRest p []
none_left ended h = refl
none_left (list_members f) h = ([], refl)
none_left (dictionary_members f) h = ([], refl)
none_left p h = let e = h.1 in absurd (cc)

regroup : (a b c d : List TreeEvent) → a ++ ((b ++ c) ++ d) ≡ ((a ++ b) ++ c) ++ d
regroup a b c d = simp append_assoc

one_more : (p : ParseState) (e : TreeEvent) (es : List TreeEvent) → MatchOption (after p e) ⊥ (λ q. IsRest q es)
    → IsRest p (e ∷ es)
one_more (list_members f) entry es h = (
  h.0 ∷ h.3.0,
  ap (λ (x : List TreeEvent). entry ∷ x) (h.2 ∙ ap (λ (x : List TreeEvent). member_events h.0 ++ x) h.3.1),
)
one_more (dictionary_members f) (keyed_entry key) es h = (
  (key, h.0) ∷ h.3.0,
  ap (λ (x : List TreeEvent). keyed_entry key ∷ x) (h.2 ∙ ap (λ (x : List TreeEvent). member_events h.0 ++ x) h.3.1),
)
one_more (member f p) begins_item es h = (item h.0, h.1, ap (λ (x : List TreeEvent). begins_item ∷ x) h.2, h.3)
one_more (member f p) begins_inner_list es h =
    (inner_list h.0, h.1, ap (λ (x : List TreeEvent). begins_inner_list ∷ x) h.2, h.3)
one_more (value f p) (bare_item v) es h =
    (record { bare = v; parameters = h.0 }, h.1, ap (λ (x : List TreeEvent). bare_item v ∷ x) h.2, h.3)
one_more (parameters p) (parameter key v) es h =
    ((key, v) ∷ h.0, h.1, ap (λ (x : List TreeEvent). parameter key v ∷ x) h.2, h.3)
one_more (parameters p) parameters_end es h = ([], es, refl, h)
one_more (items f p) begins_item es h =
    let l = h.3.0 in (
      record { items = h.0 ∷ l.items; parameters = l.parameters },
      h.3.1,
      ap (λ (x : List TreeEvent). begins_item ∷ x) (h.2 ∙ (ap (λ (x : List TreeEvent). item_events h.0 ++ x) h.3.2
          ∙ regroup (item_events h.0) (flat_map inner_item_events l.items)
          (inner_list_end ∷ parameters_events l.parameters) h.3.1)),
      h.3.3,
    )
one_more (items f p) inner_list_end es h = (
  record { items = []; parameters = h.0 },
  h.1,
  ap (λ (x : List TreeEvent). inner_list_end ∷ x) h.2,
  h.3,
)
one_more p e es h = absurd h

-- what may end after a piece, may end
pub inside_map : (a : Piece) (o : Option Piece) (x : Piece) → option_map (followed_by a) o ≡ Some x
    → (y : Piece) × (o ≡ Some y)
inside_map a None x h = absurd (cc)
inside_map a (Some y) x h = (y, refl)

read_on : (a : Piece) (es : List TreeEvent) → ((q : ParseState) → MayEnd q es → IsRest q es)
    → (o : Option ParseState) (x : Piece)
    → ◌≡◌ {A = Option Piece} (elim o [ None ↦ None | Some next ↦ option_map (followed_by a) (added next es) ]) (Some x)
    → MatchOption o ⊥ (λ q. IsRest q es)
read_on a es f None x h = cc
read_on a es f (Some q) x h = f q (inside_map a (added q es) x h)

is_rest : (p : ParseState) (es : List TreeEvent) → MayEnd p es → IsRest p es
is_rest p [] h = none_left p h
is_rest p (e ∷ es) h = one_more p e es (read_on (piece p e) es (λ q. is_rest q es) (after p e) h.0 h.1)

pub field_of_events : (kind : FieldKind) (es : List TreeEvent) → MayEnd (beginning kind) es
    → (raw : RawField kind) × (es ≡ events kind raw)
field_of_events item_field es h =
    let r = is_rest (value false ended) es h in
    (r.0, r.2 ∙ (ap (λ (x : List TreeEvent). item_events r.0 ++ x) r.3 ∙ append-nil (item_events r.0)))
field_of_events list_field es h = is_rest (list_members true) es h
field_of_events dictionary_field es h = is_rest (dictionary_members true) es h

-- valid events that end a field from here on
abbrev Completion : ParseState → Type 0
Completion p = (es : List TreeEvent) × AreValid es × MayEnd p es

before : (p q : ParseState) (e : TreeEvent) → IsValidEvent e → after p e ≡ Some q → Completion q → Completion p
before p q e v a c = (
  e ∷ c.0,
  (v, c.1),
  (followed_by (piece p e) c.2.0, a_place p q e c.0 a ∙ ap (option_map (followed_by (piece p e))) c.2.1),
)

completion : (p : ParseState) → Completion p
completion ended = ([], tt, (text_only [], refl))
completion (list_members f) = ([], tt, (text_only [], refl))
completion (dictionary_members f) = ([], tt, (text_only [], refl))
completion (parameters p) = before (parameters p) p parameters_end tt refl (completion p)
completion (value f p) = before (value f p) (parameters p) (bare_item (boolean true)) tt refl
    (before (parameters p) p parameters_end tt refl (completion p))
completion (member f p) = before (member f p) (items true p) begins_inner_list tt refl
    (before (items true p) (parameters p) inner_list_end tt refl
    (before (parameters p) p parameters_end tt refl (completion p)))
completion (items f p) = before (items f p) (parameters p) inner_list_end tt refl
    (before (parameters p) p parameters_end tt refl (completion p))

-- valid events that lead to a place begin those of a field
pub begin_field : (kind : FieldKind) (es : List TreeEvent) (p : ParseState) (a : Piece) → AreValid es
    → ((more : List TreeEvent) → added (beginning kind) (es ++ more) ≡ option_map (followed_by a) (added p more))
    → BeginsEvents kind es
begin_field kind es p a v read =
    let c = completion p in
    let f = field_of_events kind (es ++ c.0)
    (followed_by a c.2.0, read c.0 ∙ ap (option_map (followed_by a)) c.2.1) in
    record {
      raw = f.0;
      is_value = valid_field kind f.0 (subst AreValid f.1 (valid_together es c.0 v c.1));
      more = c.0;
      all = sym f.1;
    }
