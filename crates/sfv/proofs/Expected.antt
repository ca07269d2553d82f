-- What a visitor that expects one bare item says of the field.
use Rattle.std.proofs.Common.{◌≡◌, List, [], ◌∷◌, ◌++◌, Option, Some, None, Result, Ok, Err, refl, sym, ap, subst, ◌∙◌}
use Rattle.std.proofs.Common.{inl, inr, ℕ, IfOk, MatchOption}
use Rattle.std.{specs.List.FoldsTo, specs.Prelude.⊤, proofs.lemmas.Option.same_Some}
use Rattle.sfv_spec.specs.{Events.item_events, Grammar.BeginsWithLongest}
use Rattle.sfv_model.proofs.FirstBareItem.{BeginsWithComplete}
use Rattle.sfv_base.specs.declared.error.{Error.Error, ParseError.ParseError, ParseError.TheVariants.{Syntax, Visitor}}
use Rattle.sfv_tree.specs.{Events.event_of, ProvidedVisitors.{ReadBareItem, OnRead, KeepTakes, KeepFails}}
use Rattle.sfv_tree.specs.declared.{expect_item.ExpectItem.ExpectItem, visitor.Event.Event, visitor.ItemFault.ItemFault}
use Rattle.sfv.specs.Field.{BareValue, RawItem, item_field, Version, IsFieldText, TreeEvent, bare_item}
use Rattle.sfv.specs.{Field.{parameters_events, out_of_memory, input_value}, Parsers.IsBorrowedIfPlain}
use Rattle.sfv.proofs.Relations.{WithSomeVisitor, Answers, FailsIn, HasVisitorError, HasFirst, HasBorrowed}
use Rattle.sfv.proofs.built.Seeded.{runs_weaker}
use Rattle.sfv_tree.specs.declared.visitor.ItemFault.TheVariants as faults
use Rattle.sfv_tree.specs.declared.visitor.Event.TheVariants as event

module _ {T : Type 0} (holds : T → BareValue) (is_of : T → ReadBareItem → Type 0)
    (fails : ReadBareItem → ItemFault → Type 0) where
  abbrev TakesRead : ExpectItem T → TreeEvent → ExpectItem T → Type 0
  TakesRead = OnRead (KeepTakes holds is_of)

  abbrev FailsRead : ExpectItem T → TreeEvent → ItemFault → Type 0
  FailsRead = OnRead (KeepFails fails)

  -- the same by the events
  abbrev Takes : ExpectItem T → TreeEvent → ExpectItem T → Type 0
  Takes s (bare_item value) after =
      MatchOption s.kept ((item : T) × (holds item ≡ value) × (after.kept ≡ Some item)) (λ _. after ≡ s)
  Takes s e after = after ≡ s

  abbrev Fails : ExpectItem T → TreeEvent → ItemFault → Type 0
  Fails s (bare_item value) fault =
      MatchOption s.kept ((read : ReadBareItem) × (input_value read ≡ value) × fails read fault) (λ _. ⊥)
  Fails s e fault = ⊥

  takes_event : (s : ExpectItem T) (read : Event) (after : ExpectItem T) → KeepTakes holds is_of s read after
      → Takes s (event_of read) after
  takes_event s (event.BareItem read) after h = on s.kept h
    where
      on : (o : Option T) → MatchOption o ((item : T) × (holds item ≡ input_value read) × is_of item read
          × (after.kept ≡ Some item)) (λ _. after ≡ s)
          → MatchOption o ((item : T) × (holds item ≡ input_value read) × (after.kept ≡ Some item)) (λ _. after ≡ s)
      on None h = (h.0, h.1, h.3)
      on (Some item) h = h
  takes_event s event.Entry after h = h
  takes_event s (event.KeyedEntry key) after h = h
  takes_event s event.Item after h = h
  takes_event s event.InnerList after h = h
  takes_event s (event.Parameter key value) after h = h
  takes_event s event.ParametersEnd after h = h
  takes_event s event.InnerListEnd after h = h

  takes_value : (s : ExpectItem T) (e : TreeEvent) (after : ExpectItem T) → TakesRead s e after → Takes s e after
  takes_value s e after h = subst (λ (e : TreeEvent). Takes s e after) h.1 (takes_event s h.0 after h.2)

  runs_value : (es : List TreeEvent) (from to : ExpectItem T) → FoldsTo TakesRead from es to → FoldsTo Takes from es to
  runs_value = runs_weaker TakesRead Takes takes_value

  fails_event : (s : ExpectItem T) (read : Event) (fault : ItemFault) → KeepFails fails s read fault
      → Fails s (event_of read) fault
  fails_event s (event.BareItem read) fault h = on s.kept h
    where
      on : (o : Option T) → MatchOption o (fails read fault) (λ _. ⊥)
          → MatchOption o ((other : ReadBareItem) × (input_value other ≡ input_value read) × fails other fault) (λ _. ⊥)
      on None h = (read, refl, h)
      on (Some item) h = h
  fails_event s event.Entry fault h = h
  fails_event s (event.KeyedEntry key) fault h = h
  fails_event s event.Item fault h = h
  fails_event s event.InnerList fault h = h
  fails_event s (event.Parameter key value) fault h = h
  fails_event s event.ParametersEnd fault h = h
  fails_event s event.InnerListEnd fault h = h

  fails_value : (s : ExpectItem T) (e : TreeEvent) (fault : ItemFault) → FailsRead s e fault → Fails s e fault
  fails_value s e fault h = subst (λ (e : TreeEvent). Fails s e fault) h.1 (fails_event s h.0 fault h.2)

  abbrev Finishes : ExpectItem T → T → Type 0
  Finishes s item = s.kept ≡ Some item

  abbrev FinishFails : ExpectItem T → ItemFault → Type 0
  FinishFails s fault = (s.kept ≡ None) × (fault ≡ faults.NoItem)

  -- the type rejects a bare item of this value
  abbrev Rejects : BareValue → ItemFault → Type 0
  Rejects value fault = (read : ReadBareItem) × (input_value read ≡ value) × fails read fault

  -- what is kept stays
  stays : (es : List TreeEvent) (item : T) (s last : ExpectItem T) → s.kept ≡ Some item → FoldsTo Takes s es last
      → last.kept ≡ Some item
  stays [] item s last here run = ap (λ (s : ExpectItem T). s.kept) (sym run) ∙ here
  stays (e ∷ es) item s last here run =
      let same : run.0 ≡ s = by e run.1 in
      stays es item run.0 last (ap (λ (s : ExpectItem T). s.kept) same ∙ here) run.2
    where
      by : (e : TreeEvent) → Takes s e run.0 → run.0 ≡ s
      by (bare_item value) h = subst (λ (o : Option T). MatchOption o ((item : T) × (holds item ≡ value)
          × (run.0.kept ≡ Some item)) (λ _. run.0 ≡ s)) here h
      by _ h = h

  -- the bare item of the field is kept
  kept : (raw : RawItem) (from last : ExpectItem T) → from.kept ≡ None → FoldsTo Takes from (item_events raw) last
      → (item : T) × (holds item ≡ raw.bare) × (last.kept ≡ Some item)
  kept raw from last none run =
      let first : (item : T) × (holds item ≡ raw.bare) × (run.0.kept ≡ Some item) = rw none at run.1 in
      (first.0, first.1, stays (parameters_events raw.parameters) first.0 run.0 last first.2 run.2)

  -- of an answer it is the field's
  answer_is : (version : Version) (t : List ℕ) (from : ExpectItem T) (out : T) → from.kept ≡ None
      → Answers TakesRead Finishes version item_field t from out
      → (raw : RawItem) × IsFieldText version item_field raw t × (holds out ≡ raw.bare)
  answer_is version t from out none h =
      let k = kept h.raw from h.holds.0 none (runs_value (item_events h.raw) from h.holds.0 h.holds.1) in
      let same : k.0 ≡ out = same_Some k.0 out (sym k.2 ∙ h.holds.2) in
      (h.raw, h.accepted, ap holds (sym same) ∙ k.1)

  -- it fails on a field exactly for the bare item
  failure_is : (raw : RawItem) (from : ExpectItem T) (fault : ItemFault) → from.kept ≡ None
      → FailsIn TakesRead FailsRead FinishFails from (item_events raw) ⊤ fault → Rejects raw.bare fault
  failure_is raw from fault none (inl h) = at h.0 h.4 (runs_value h.0 from h.3 h.5) (fails_value h.3 h.1 fault h.6)
    where
      never : (e : TreeEvent) {item : T} → h.3.kept ≡ Some item → Fails h.3 e fault → ⊥
      never (bare_item value) here failed = rw here at failed
      never _ here failed = failed

      at : (before : List TreeEvent) → item_events raw ≡ before ++ h.1 ∷ h.2 → FoldsTo Takes from before h.3
          → Fails h.3 h.1 fault → Rejects raw.bare fault
      at [] split taken failed =
          let e : h.1 ≡ bare_item raw.bare = cc in
          let here : h.3.kept ≡ None = ap (λ (s : ExpectItem T). s.kept) (sym taken) ∙ none in
          rw (e, here) at failed
      at (b ∷ before) split taken failed =
          let e : b ≡ bare_item raw.bare = cc in
          let first : (item : T) × (holds item ≡ raw.bare) × (taken.0.kept ≡ Some item) =
          rw (e, none) at taken.1 in
          let here = stays before first.0 taken.0 h.3 first.2 taken.2 in
          absurd (never h.1 here failed)
  failure_is raw from fault none (inr h) =
      let k = kept raw from h.1 none (runs_value (item_events raw) from h.1 h.2) in
      absurd (let e : Some k.0 ≡ None = sym k.2 ∙ h.3.0 in cc)

  -- as the contract of a reading with a visitor that was made has it
  abbrev Made : ExpectItem T → Type 0
  Made s = s.kept ≡ None

  pub expect_answers : (version : Version) (t : List ℕ) (r : Result T (ParseError ItemFault))
      → IfOk r (WithSomeVisitor Made (Answers TakesRead Finishes version item_field t))
      → IfOk r (λ item. (raw : RawItem) × IsFieldText version item_field raw t × (holds item ≡ raw.bare))
  expect_answers version t (Ok item) h = answer_is version t h.0 item h.1 h.2
  expect_answers version t (Err e) h = tt

  pub expect_fails : (version : Version) (t : List ℕ) (raw : RawItem) (fault : ItemFault)
      → IsFieldText version item_field raw t
      → WithSomeVisitor Made (HasVisitorError TakesRead FailsRead FinishFails version item_field t) (Visitor fault)
      → Rejects raw.bare fault
  expect_fails version t raw fault accepted h = failure_is raw h.0 fault h.1 (h.2.0 raw accepted)

  -- at a bare item that the type doesn't hold it fails, whatever stands after it, or out of memory
  pub expect_first : (version : Version) (t : List ℕ) (value : BareValue) → BeginsWithComplete version value t
      → ((item : T) → ¬ (holds item ≡ value))
      → ((e : Error) → WithSomeVisitor Made (HasFirst TakesRead FailsRead FinishFails version t) (Syntax e) → e ≡ out_of_memory)
      × ((fault : ItemFault) → WithSomeVisitor Made (HasFirst TakesRead FailsRead FinishFails version t) (Visitor fault)
      → Rejects value fault)
  expect_first version t value begins none = (
    λ e h. elim h.2 [
      | inl same ↦ same
      | inr k ↦
          let taken = k value begins in
          let first : (item : T) × (holds item ≡ value) × (taken.0.kept ≡ Some item) =
          rw h.1 at (takes_value h.0 (bare_item value) taken.0 taken.1) in
          absurd (none first.0 first.1)
    ],
    λ fault h.
        let k = h.2 in
        subst (λ (v : BareValue). Rejects v fault) (k.2 value begins) (failure_is k.0 h.0 fault h.1 k.3),
  )

  -- and it fails only so: at a bare item that stands first
  pub expect_only : (version : Version) (t : List ℕ) (fault : ItemFault)
      → WithSomeVisitor Made (HasFirst TakesRead FailsRead FinishFails version t) (Visitor fault)
      → (read : ReadBareItem) × BeginsWithLongest version (input_value read) t × fails read fault
  expect_only version t fault h =
      let k = h.2 in
      let rejected = failure_is k.0 h.0 fault h.1 k.3 in
      (rejected.0, subst (λ (v : BareValue). BeginsWithLongest version v t) (sym rejected.1) k.1, rejected.2)

-- what is kept is made of the bare item as it was read
pub expect_read : {T : Type 0} (holds : T → BareValue) (is_of : T → ReadBareItem → Type 0) (version : Version) (t : List ℕ)
    (r : Result T (ParseError ItemFault))
    → IfOk r (WithSomeVisitor (λ (s : ExpectItem T). s.kept ≡ None)
    (HasBorrowed (OnRead (KeepTakes holds is_of)) (KeepTakes holds is_of) (λ s item. s.kept ≡ Some item) version t))
    → IfOk r (λ item. (read : ReadBareItem) × is_of item read × (stands : BeginsWithLongest version (input_value read) t)
    × IsBorrowedIfPlain read stands.front)
expect_read {T} holds is_of version t (Ok out) h =
    let a = h.2 in
    let first : (item : T) × (holds item ≡ input_value a.0) × is_of item a.0 × (a.5.kept ≡ Some item) = rw h.1 at a.6 in
    let run = runs_value holds is_of (λ _ _. ⊥) (parameters_events a.1) a.5 a.7.0 a.7.1 in
    let last = stays holds is_of (λ _ _. ⊥) (parameters_events a.1) first.0 a.5 a.7.0 first.3 run in
    let same : first.0 ≡ out = same_Some first.0 out (sym last ∙ a.7.2) in
    (a.0, subst (λ (item : T). is_of item a.0) same first.2, a.3, a.4)
expect_read holds is_of version t (Err e) h = tt
