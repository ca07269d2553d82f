-- What a visitor that calls a function once says of an item.
use Rattle.std.proofs.Common.{◌≡◌, ℕ, List, [], ◌∷◌, ◌++◌, Option, Some, None, Result, Ok, Err, sym, ap, ◌∙◌, inl, inr}
use Rattle.std.{proofs.Common.{subst, MatchOption}, specs.List.FoldsTo, specs.Prelude.⊤}
use Rattle.sfv.specs.{EventValues.event_of, Events.item_events}
use Rattle.sfv.specs.Field.{RawItem, Rfc9651, item_field, TreeEvent, bare_item, parameters_events, input_value}
use Rattle.sfv.specs.{Grammar.BeginsWithLongest, ProvidedVisitors.{ReadBareItem, OnRead, CallTakes, CallFails}}
use Rattle.sfv.specs.{Types.{OutOfMemory, ItemVisitorWith}, declared.visitor.Event.Event}
use Rattle.sfv.proofs.Callers.{Answers, FailsIn}
use Rattle.sfv_examples.specs.Uses.{IsReturnedFor, FailsAtFirst}
use Rattle.sfv.specs.declared.visitor.Event.TheVariants as event

module _ {F T : Type 0} (post : F → ReadBareItem → Result T OutOfMemory → Type 0) where
  abbrev Takes : ItemVisitorWith F T → TreeEvent → ItemVisitorWith F T → Type 0
  Takes = OnRead (CallTakes post)

  abbrev Fails : ItemVisitorWith F T → TreeEvent → OutOfMemory → Type 0
  Fails = OnRead (CallFails post)

  abbrev Finishes : ItemVisitorWith F T → Option T → Type 0
  Finishes s out = out ≡ s.kept

  abbrev FinishFails : ItemVisitorWith F T → OutOfMemory → Type 0
  FinishFails s error = ⊥

  -- after the call, an event changes nothing
  idle : (s after : ItemVisitorWith F T) (read : Event) → s.f ≡ None → CallTakes post s read after → after ≡ s
  idle s after (event.BareItem item) none h = subst (λ (o : Option F). MatchOption o (after ≡ s) (λ f. (out : T)
      × post f item (Ok out) × (after.kept ≡ Some out) × (after.f ≡ None))) none h
  idle s after event.Entry none h = h
  idle s after (event.KeyedEntry key) none h = h
  idle s after event.Item none h = h
  idle s after event.InnerList none h = h
  idle s after (event.Parameter key value) none h = h
  idle s after event.ParametersEnd none h = h
  idle s after event.InnerListEnd none h = h

  stays : (es : List TreeEvent) (s last : ItemVisitorWith F T) → s.f ≡ None → FoldsTo Takes s es last → last ≡ s
  stays [] s last none run = sym run
  stays (e ∷ es) s last none run =
      let same : run.0 ≡ s = idle s run.0 run.1.0 none run.1.2 in
      stays es run.0 last (ap (λ (s : ItemVisitorWith F T). s.f) same ∙ none) run.2 ∙ same

  -- and the visitor does not fail
  never : (s : ItemVisitorWith F T) (read : Event) (error : OutOfMemory) → s.f ≡ None → CallFails post s read error → ⊥
  never s (event.BareItem item) error none h = rw none at h
  never s event.Entry error none h = h
  never s (event.KeyedEntry key) error none h = h
  never s event.Item error none h = h
  never s event.InnerList error none h = h
  never s (event.Parameter key value) error none h = h
  never s event.ParametersEnd error none h = h
  never s event.InnerListEnd error none h = h

  module _ (f : F) (from : ItemVisitorWith F T) (waits : from.f ≡ Some f) where
    -- the bare item calls the function
    calls : (read : Event) (raw : RawItem) (after : ItemVisitorWith F T) → event_of read ≡ bare_item raw.bare
        → CallTakes post from read after
        → (item : ReadBareItem) × (input_value item ≡ raw.bare) × (out : T) × post f item (Ok out)
        × (after.kept ≡ Some out) × (after.f ≡ None)
    calls (event.BareItem item) raw after is h =
        let k : (out : T) × post f item (Ok out) × (after.kept ≡ Some out) × (after.f ≡ None) = rw waits at h in
        (item, (cc), k.0, k.1, k.2, k.3)
    calls event.Entry raw after is h = absurd (cc)
    calls (event.KeyedEntry key) raw after is h = absurd (cc)
    calls event.Item raw after is h = absurd (cc)
    calls event.InnerList raw after is h = absurd (cc)
    calls (event.Parameter key value) raw after is h = absurd (cc)
    calls event.ParametersEnd raw after is h = absurd (cc)
    calls event.InnerListEnd raw after is h = absurd (cc)

    pub called : (t : List ℕ) (out : Option T) → Answers Takes Finishes Rfc9651 item_field t from out
        → IsReturnedFor post f t out
    called t out h =
        let run = h.holds.1 in
        let k = calls run.1.0 h.raw run.0 run.1.1 run.1.2 in
        let last : h.holds.0 ≡ run.0 = stays (parameters_events h.raw.parameters) run.0 h.holds.0 k.5 run.2 in
        (k.0, (h.raw, h.accepted, k.1), k.2, k.3, h.holds.2 ∙ ap (λ (s : ItemVisitorWith F T). s.kept) last ∙ k.4)

    -- the function failed for the bare item
    failed : (read : Event) (raw : RawItem) (error : OutOfMemory) → event_of read ≡ bare_item raw.bare
        → CallFails post from read error
        → (item : ReadBareItem) × (input_value item ≡ raw.bare) × post f item (Err error)
    failed (event.BareItem item) raw error is h = (item, (cc), rw waits at h)
    failed event.Entry raw error is h = absurd h
    failed (event.KeyedEntry key) raw error is h = absurd h
    failed event.Item raw error is h = absurd h
    failed event.InnerList raw error is h = absurd h
    failed (event.Parameter key value) raw error is h = absurd h
    failed event.ParametersEnd raw error is h = absurd h
    failed event.InnerListEnd raw error is h = absurd h

    fails_for : (raw : RawItem) (error : OutOfMemory) → FailsIn Takes Fails FinishFails from (item_events raw) ⊤ error
        → (item : ReadBareItem) × (input_value item ≡ raw.bare) × post f item (Err error)
    fails_for raw error (inl h) = at h.0 h.4 h.5 h.6
      where
        at : (before : List TreeEvent) → item_events raw ≡ before ++ h.1 ∷ h.2 → FoldsTo Takes from before h.3
            → Fails h.3 h.1 error → (item : ReadBareItem) × (input_value item ≡ raw.bare) × post f item (Err error)
        at [] split run fails =
            let e : h.1 ≡ bare_item raw.bare = cc in
            let here : h.3 ≡ from = sym run in
            failed fails.0 raw error (fails.1 ∙ e) (rw here at fails.2)
        at (b ∷ before) split run fails =
            let e : b ≡ bare_item raw.bare = cc in
            let k = calls run.1.0 raw run.0 (run.1.1 ∙ e) run.1.2 in
            let same : h.3 ≡ run.0 = stays before run.0 h.3 k.5 run.2 in
            absurd (never h.3 fails.0 error (ap (λ (s : ItemVisitorWith F T). s.f) same ∙ k.5) fails.2)
    fails_for raw error (inr h) = absurd h.3

    pub failed_first : (t : List ℕ) (raw : RawItem) (error : OutOfMemory) → BeginsWithLongest Rfc9651 raw.bare t
        → FailsIn Takes Fails FinishFails from (item_events raw) ⊤ error
        → FailsAtFirst (λ read error. post f read (Err error)) t error
    failed_first t raw error first fails =
        let k = fails_for raw error fails in
        (k.0, subst (λ b. BeginsWithLongest Rfc9651 b t) (sym k.1) first, k.2)
