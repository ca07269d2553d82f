-- The ends of parsing with a visitor, for its relations, a version and a text. Lemmas for callers are stated in these. A
-- clause says the same of a visitor and a parser.
use Rattle.std.proofs.Common.{◌≡◌, ℕ, List, [], ◌∷◌, ◌++◌, take, Some, Result, Ok, Err, refl, sym, subst, inl, inr}
use Rattle.std.proofs.Common.{arith, ◌⊎◌, IfErr, map, Contains}
use Rattle.std.{specs.List.FoldsTo, specs.Prelude.⊤, proofs.lemmas.List.Elements.Contains-append_right}
use Rattle.sfv_spec.specs.{Events.item_events, Grammar.{BeginsWithLongest, HasField}, Reach.IsReach}
use Rattle.sfv_spec.proofs.Valid.{accepted_is_value_lem}
use Rattle.sfv_model.{specs.Fields.read_field, specs.Reader.Fault, proofs.FirstBareItem.BeginsWithComplete}
use Rattle.sfv_model.proofs.{Theorems.read_is_accepted, Types.TrailingCharactersAfterParsedValue}
use Rattle.sfv_base.specs.{Errors.error_of, declared.error.ParseError.TheVariants.{Syntax, Visitor}}
use Rattle.sfv_tree.specs.{Events.event_of, ProvidedVisitors.ReadBareItem}
use Rattle.sfv_tree.specs.declared.visitor.{Event.Event, Visitor.Ghosts}
use Rattle.sfv.specs.Field.{RawField, RawItem, BareValue, RawParameters, IsFieldValue, FieldKind, item_field, Version}
use Rattle.sfv.specs.Field.{IsFieldText, IsAccepted, TreeEvent, bare_item, parameters_events, events, out_of_memory}
use Rattle.sfv.specs.Field.{input_value, IsParseError, IsVisitorErrorBy}
use Rattle.sfv.specs.Parsers.{version_of, input_of, IsBorrowedIfPlain, AreReadFrom, FailsOn, at_event, at_end}
use Rattle.sfv.specs.{Types.ParseError, declared.parser.Parser.Parser, parser.Visits.ReturnsAfter}
use Rattle.sfv_tree.specs.declared.visitor.Event.TheVariants as event

-- `P` holds of `x` and of some visitor as it is made
abbrev pub WithSomeVisitor : {S X : Type 0} → (S → Type 0) → (S → X → Type 0) → X → Type 0
WithSomeVisitor {S} is_made P x = (from : S) × is_made from × P from x

-- the result after the events of the only field of the text
abbrev pub Answers : {S O : Type 0} → (S → TreeEvent → S → Type 0) → (S → O → Type 0) → Version → FieldKind → List ℕ → S
    → O → Type 0
Answers takes finishes version kind t from out =
    HasField version kind t (λ raw. ReturnsAfter takes finishes from (events kind raw) out)

-- an error at one of these events, or, if the visitor may, in finish after all of them
abbrev pub FailsIn : {S E : Type 0} → (S → TreeEvent → S → Type 0) → (S → TreeEvent → E → Type 0) → (S → E → Type 0) → S
    → List TreeEvent → Type 0 → E → Type 0
FailsIn {S} takes fails finish_fails from es may_finish error = ((before : List TreeEvent) × (e : TreeEvent)
    × (after : List TreeEvent) × (s : S) × (es ≡ before ++ e ∷ after) × FoldsTo takes from before s × fails s e error)
    ⊎ (may_finish × (last : S) × FoldsTo takes from es last × finish_fails last error)

-- a syntax error is one of `parse`; one for characters after an item comes after the visitor has finished
abbrev pub HasSyntax : {S O E : Type 0} → (S → TreeEvent → S → Type 0) → (S → O → Type 0) → Version → FieldKind → List ℕ
    → S → ParseError E → Type 0
HasSyntax {S} {O} takes finishes version kind t from (Syntax e) = IsParseError version kind t e × ((n : ℕ)
    → e ≡ error_of TrailingCharactersAfterParsedValue (Some n)
    → (out : O) × Answers takes finishes version kind (take n t) from out)
HasSyntax takes finishes version kind t from (Visitor error) = ⊤

-- the visitor's own error
abbrev pub HasVisitorError : {S E : Type 0} → (S → TreeEvent → S → Type 0) → (S → TreeEvent → E → Type 0)
    → (S → E → Type 0) → Version → FieldKind → List ℕ → S → ParseError E → Type 0
HasVisitorError takes fails finish_fails version kind t from (Syntax e) = ⊤
HasVisitorError takes fails finish_fails version kind t from (Visitor error) = ((raw : RawField kind)
    → IsFieldText version kind raw t → FailsIn takes fails finish_fails from (events kind raw) ⊤ error)
    × (¬ IsAccepted version kind t → ((raw : RawField kind) × IsFieldValue kind raw
    × FailsIn takes fails finish_fails from (events kind raw) (kind ≡ item_field) error) × ((n : ℕ)
    → IsReach version kind t n → (raw : RawField kind) × (more : List ℕ) × IsFieldText version kind raw (take n t
    ++ more) × FailsIn takes fails finish_fails from (events kind raw) ((kind ≡ item_field) × (more ≡ [])) error))

-- the bare item that comes first
abbrev pub HasFirst : {S E : Type 0} → (S → TreeEvent → S → Type 0) → (S → TreeEvent → E → Type 0) → (S → E → Type 0)
    → Version → List ℕ → S → ParseError E → Type 0
HasFirst {S} takes fails finish_fails version t from (Syntax e) = (e ≡ out_of_memory) ⊎ ((value : BareValue)
    → BeginsWithComplete version value t → (s : S) × takes from (bare_item value) s)
HasFirst takes fails finish_fails version t from (Visitor error) = (raw : RawItem) × BeginsWithLongest version raw.bare t
    × ((value : BareValue) → BeginsWithComplete version value t → raw.bare ≡ value)
    × FailsIn takes fails finish_fails from (item_events raw) ⊤ error

-- the parsed bare item, and the result after the parameters
abbrev pub HasBorrowed : {S O : Type 0} → (S → TreeEvent → S → Type 0) → (S → Event → S → Type 0) → (S → O → Type 0)
    → Version → List ℕ → S → O → Type 0
HasBorrowed {S} takes takes_read finishes version t from out = (read : ReadBareItem) × (parameters : RawParameters)
    × IsFieldText version item_field (record { bare = input_value read; parameters = parameters }) t
    × (stands : BeginsWithLongest version (input_value read) t) × IsBorrowedIfPlain read stands.front × (s : S)
    × takes_read from (event.BareItem read) s × ReturnsAfter takes finishes s (parameters_events parameters) out

-- the events as read, and the result
abbrev pub HasEventsRead : {S O : Type 0} → (S → TreeEvent → S → Type 0) → (S → Event → S → Type 0) → (S → O → Type 0)
    → Version → FieldKind → List ℕ → S → O → Type 0
HasEventsRead {S} takes takes_read finishes version kind t from out = HasField version kind t (λ raw. (es : List Event)
    × (map event_of es ≡ events kind raw) × AreReadFrom version es t
    × (last : S) × FoldsTo (λ s e to. takes s (event_of e) to × takes_read s e to) from es last × finishes last out)

-- the events in the definitions
pub folded : {S : Type 0} (takes : S → TreeEvent → S → Type 0) (takes_read : S → Event → S → Type 0) (es : List Event)
    (from to : S) → FoldsTo (λ s e to. takes s (event_of e) to × takes_read s e to) from es to
    → FoldsTo takes from (map event_of es) to
folded takes takes_read [] from to h = h
folded takes takes_read (e ∷ es) from to h = (h.0, h.1.0, folded takes takes_read es h.0 to h.2)

-- the same for an error
pub fails_in : {S O E : Type 0} (v : Ghosts S O E) (p : Parser) (from : S) (all : List TreeEvent) (may_finish : Type 0)
    (error : E) → FailsOn v p from all may_finish error
    → FailsIn v.takes v.fails v.finish_fails from all may_finish error
fails_in v p from all may_finish error (at_event es e after s split text received failed failed_read) = inl (
  map event_of es,
  event_of e,
  after,
  s,
  split,
  folded v.takes v.takes_read es from s received,
  failed,
)
fails_in v p from all may_finish error (at_end last may run failed) = inr (may, last, run, failed)

-- the clause `visitor` for the relations of the visitor
pub has_visitor_error : {S O E : Type 0} (v : Ghosts S O E) (p : Parser) (kind : FieldKind) (from : S)
    (r : Result O (ParseError E)) → IfErr r (IsVisitorErrorBy v p kind from)
    → IfErr r (HasVisitorError v.takes v.fails v.finish_fails (version_of p) kind (input_of p) from)
has_visitor_error v p kind from (Ok out) h = tt
has_visitor_error v p kind from (Err (Syntax e)) h = tt
has_visitor_error v p kind from (Err (Visitor error)) h = (
  λ raw accepted. fails_in v p from (events kind raw) ⊤ error (h.0 raw accepted),
  λ rejected. let some = (h.1 rejected).0 in (
    (some.0, some.1, fails_in v p from (events kind some.0) (kind ≡ item_field) error some.2),
    λ n reach. let m = (h.1 rejected).1 n reach in
        (m.0, m.1, m.2, fails_in v p from (events kind m.0) ((kind ≡ item_field) × (m.1 ≡ [])) error m.3),
  ),
)

-- a text is accepted or it isn't: so a visitor's error on a dictionary or a list is one on an accepted text
pub accepted_or_not : (version : Version) (kind : FieldKind) (t : List ℕ)
    → IsAccepted version kind t ⊎ ¬ IsAccepted version kind t
accepted_or_not version kind t = decided (read_field version kind t) refl
  where
    decided : (r : Result (RawField kind) Fault) → read_field version kind t ≡ r
        → IsAccepted version kind t ⊎ ¬ IsAccepted version kind t
    decided (Ok raw) h = inl (raw, (read_is_accepted version kind t raw).0 h)
    decided (Err e) h = inr (λ a. let k = (read_is_accepted version kind t a.0).1 a.1 in absurd (cc))

-- a visitor's error on an item is one on some item, whether the text is accepted or not
pub item_failed : {S E : Type 0} (takes : S → TreeEvent → S → Type 0) (fails : S → TreeEvent → E → Type 0)
    (finish_fails : S → E → Type 0) (version : Version) (t : List ℕ) (from : S) (error : E)
    → HasVisitorError takes fails finish_fails version item_field t from (Visitor error)
    → (raw : RawItem) × IsFieldValue item_field raw × FailsIn takes fails finish_fails from (item_events raw) ⊤ error
item_failed takes fails finish_fails version t from error h = elim (accepted_or_not version item_field t) [
  | inl a ↦ (a.0, (accepted_is_value_lem version item_field t a.0 a.1).0, h.0 a.0 a.1)
  | inr n ↦ let some = (h.1 n).0 in (some.0, some.1, anyway some.0 some.2)
]
  where
    anyway : (raw : RawItem) → FailsIn takes fails finish_fails from (item_events raw) (item_field ≡ item_field) error
        → FailsIn takes fails finish_fails from (item_events raw) ⊤ error
    anyway raw (inl f) = inl f
    anyway raw (inr f) = inr (tt, f.1, f.2, f.3)

-- an error of a visitor comes at some event of the field, or at its end
pub fails_somewhere : {S E : Type 0} (takes : S → TreeEvent → S → Type 0) (fails : S → TreeEvent → E → Type 0)
    (finish_fails : S → E → Type 0) (from : S) (es : List TreeEvent) (may_finish : Type 0) (error : E)
    → FailsIn takes fails finish_fails from es may_finish error
    → ((e : TreeEvent) × Contains es e × (s : S) × fails s e error) ⊎ ((s : S) × finish_fails s error)
fails_somewhere takes fails finish_fails from es may_finish error (inl h) = inl (
  h.1,
  subst (λ (xs : List TreeEvent). Contains xs h.1) (sym h.4) (Contains-append_right h.0 (h.1 ∷ h.2) h.1
      (0, omega arith, refl)),
  h.3,
  h.6,
)
fails_somewhere takes fails finish_fails from es may_finish error (inr h) = inr (h.1, h.3)
