-- After the events of the members, the reader's state is the state after the ordered dictionary.
use Rattle.std.proofs.Common.{◌≡◌, ℕ, List, [], ◌∷◌, ◌++◌, Option, Some, None, refl, sym, ap, subst, ◌∙◌, map, flat_map}
use Rattle.std.specs.List.{FoldsTo}
use Rattle.sfv_spec.{specs.Events.inner_item_events, specs.Ordered.ordered_item, proofs.Last.over}
use Rattle.sfv.specs.Field.{BareValue, RawParameters, RawItem, RawMember, item, inner_list, dictionary_field, TreeEvent}
use Rattle.sfv.specs.Field.{keyed_entry, begins_item, bare_item, parameter, parameters_end, inner_list_end}
use Rattle.sfv.specs.Field.{parameters_events, member_events, events, ordered, ordered_member}
use Rattle.sfv.proofs.visits.Taken.{split_run}
use Rattle.sfv_readers.specs.Steps.{WithinKey, DictionaryTakes}
use Rattle.sfv_readers.specs.Words.{Head, of_item, of_inner_list, member_of, raw_item, put, IsIgnored}
use Rattle.sfv_readers.specs.declared.dictionary.DictionaryVisitor.{DictionaryVisitor}
use Rattle.sfv_readers.proofs.{Puts.{put_all, all_put, collapse-over}, Runs.{items_known, on_none, on_some}}

module _ {R K I : Type 0} (inner : I → List RawItem → Type 0) (text : R → K → List ℕ)
    (from : R → R → List (List ℕ × RawMember) → Type 0) (start : R) where
  -- the state after these members, from this start
  abbrev reads : R → List (List ℕ × RawMember) → Type 0
  reads s ms = from start s ms

  abbrev Visitor : Type 0
  Visitor = DictionaryVisitor R K I

  abbrev Takes : Visitor → TreeEvent → Visitor → Type 0
  Takes s e after = DictionaryTakes inner text from s e after

  -- Within a member whose key does not matter, and within an inner list, the reader is unchanged.
  module _ (r : R) (o : Option K) where
    abbrev Idle : Visitor → Type 0
    Idle s = (s.reader ≡ r) × (s.key ≡ None) × (s.outer ≡ o)

    idle_begins : (s after : Visitor) (xs : List RawItem) → Idle s → Takes s begins_item after → Idle after
    idle_begins s after xs h same = subst Idle (sym same) h

    idle_bare : (s after : Visitor) (xs : List RawItem) (b : BareValue) → Idle s → Takes s (bare_item b) after → Idle after
    idle_bare s after xs b h taken =
        let passed = (on_none _ _ s.key h.1 taken).0 in (passed.0 ∙ h.0, passed.1, passed.2 ∙ h.2)

    idle_entered : (s after : Visitor) (xs : List RawItem) (b : BareValue) (ps : RawParameters) (k : List ℕ)
        (v : BareValue) → Idle s → Takes s (parameter k v) after → Idle after
    idle_entered s after xs b ps k v h taken =
        let passed = (on_none _ _ s.key h.1 taken).0 in (passed.0 ∙ h.0, passed.1, passed.2 ∙ h.2)

    idle_ends : (s after : Visitor) (xs : List RawItem) → Idle s → Takes s parameters_end after → Idle after
    idle_ends s after xs h same = subst Idle (sym same) h

    items_passed : (items : List RawItem) (s to : Visitor) → Idle s
        → FoldsTo Takes s (flat_map inner_item_events items) to → Idle to
    items_passed items s to h run =
        items_known Takes (λ s xs. Idle s) idle_begins idle_bare idle_entered idle_ends items [] s to h run

    parameters_passed : (ps : RawParameters) (s to : Visitor) → Idle s → FoldsTo Takes s (parameters_events ps) to → Idle to
    parameters_passed [] s to h run = subst Idle (sym run.1 ∙ run.2) h
    parameters_passed (p ∷ ps) s to h run =
        let passed = (on_none _ _ s.key h.1 run.1).0 in
        parameters_passed ps run.0 to (passed.0 ∙ h.0, passed.1, passed.2 ∙ h.2) run.2

    abbrev InItems : Visitor → List RawItem → Type 0
    InItems s xs = Idle s × WithinKey inner text from s xs

    begins : (s after : Visitor) (xs : List RawItem) → InItems s xs → Takes s begins_item after → InItems after xs
    begins s after xs h same = subst (λ (s : Visitor). InItems s xs) (sym same) h

    bare : (s after : Visitor) (xs : List RawItem) (b : BareValue) → InItems s xs → Takes s (bare_item b) after
        → InItems after (xs ++ raw_item b [] ∷ [])
    bare s after xs b h taken =
        let idle : Idle s = h.0 in
        let there : WithinKey inner text from s xs = h.1 in
        (idle_bare s after xs b idle taken, on_some _ _ s.items there.0 there.1 (on_none _ _ s.key idle.1 taken).1 xs there.2)

    entered : (s after : Visitor) (xs : List RawItem) (b : BareValue) (ps : RawParameters) (k : List ℕ) (v : BareValue)
        → InItems s (xs ++ raw_item b ps ∷ []) → Takes s (parameter k v) after
        → InItems after (xs ++ raw_item b (put ps k v) ∷ [])
    entered s after xs b ps k v h taken =
        let idle : Idle s = h.0 in
        let there : WithinKey inner text from s (xs ++ raw_item b ps ∷ []) = h.1 in (
          idle_entered s after xs b ps k v idle taken,
          on_some _ _ s.items there.0 there.1 (on_none _ _ s.key idle.1 taken).1 xs b ps there.2,
        )

    ends : (s after : Visitor) (xs : List RawItem) → InItems s xs → Takes s parameters_end after → InItems after xs
    ends s after xs h same = subst (λ (s : Visitor). InItems s xs) (sym same) h

    items_read : (items : List RawItem) (s to : Visitor) → InItems s []
        → FoldsTo Takes s (flat_map inner_item_events items) to → InItems to (map ordered_item items)
    items_read items s to h run = items_known Takes InItems begins bare entered ends items [] s to h run

  -- parameters of a member whose key matters
  parameters_read : (key : K) (head : Head) (ps done : RawParameters) (ms : List (List ℕ × RawMember)) (s to : Visitor)
      → s.key ≡ Some key → reads s.reader (put ms (text start key) (member_of head done))
      → FoldsTo Takes s (parameters_events ps) to → reads to.reader (put ms (text start key) (member_of head (put_all done ps)))
  parameters_read key head [] done ms s to k h run =
      subst (λ (s : Visitor). reads s.reader (put ms (text start key) (member_of head done))) (sym run.1 ∙ run.2) h
  parameters_read key head (p ∷ ps) done ms s to k h run =
      let step = on_some _ _ s.key key k run.1 in
      parameters_read key head ps (put done p.0 p.1) ms run.0 to (step.0 ∙ k) (step.1 start ms head done h) run.2

  member_passed : (m : RawMember) (s to : Visitor) → s.key ≡ None → FoldsTo Takes s (member_events m) to
      → to.reader ≡ s.reader
  member_passed (item i) s to k run =
      let begun : Idle s.reader s.outer run.0 =
      (ap (λ (s : Visitor). s.reader) run.1, ap (λ (s : Visitor). s.key) run.1 ∙ k, ap (λ (s : Visitor). s.outer) run.1) in
      let bare = idle_bare s.reader s.outer run.0 run.2.0 [] i.bare begun run.2.1 in
      (parameters_passed s.reader s.outer i.parameters run.2.0 to bare run.2.2).0
  member_passed (inner_list l) s to k run =
      let begun = run.1 in
      let parts = split_run Takes (flat_map inner_item_events l.items) (inner_list_end ∷ parameters_events l.parameters)
      run.0 to run.2 in
      let inside = items_passed s.reader None l.items run.0 parts.0 (begun.0, begun.1, begun.2 ∙ k) parts.1 in
      let end = parts.2.1 in
      let reader = on_none _ _ parts.0.outer inside.2 end.1 in
      (parameters_passed s.reader parts.2.0.outer l.parameters parts.2.0 to
      (reader ∙ inside.0, end.0 ∙ inside.2, refl) parts.2.2).0

  member_read : (key : K) (m : RawMember) (ms : List (List ℕ × RawMember)) (s to : Visitor)
      → s.key ≡ Some key → reads s.reader ms → FoldsTo Takes s (member_events m) to
      → reads to.reader (put ms (text start key) (ordered_member m))
  member_read key (item i) ms s to k h run =
      let there = ap (λ (s : Visitor). s.key) run.1 ∙ k in
      let bare = on_some _ _ run.0.key key there run.2.1 in
      let read = parameters_read key (of_item i.bare) i.parameters [] ms run.2.0 to (bare.0 ∙ there)
      (bare.1 start ms (subst (λ (s : Visitor). reads s.reader ms) (sym run.1) h)) run.2.2 in
      subst (λ (ps : RawParameters). reads to.reader (put ms (text start key) (item (raw_item i.bare ps)))) (all_put i.parameters)
      read
  member_read key (inner_list l) ms s to k h run =
      let begun = run.1 in
      let parts = split_run Takes (flat_map inner_item_events l.items) (inner_list_end ∷ parameters_events l.parameters)
      run.0 to run.2 in
      let empty : WithinKey inner text from run.0 [] = on_some _ _ s.key key k begun.3 in
      let inside = items_read s.reader (Some key) l.items run.0 parts.0 ((begun.0, begun.1, begun.2 ∙ k), empty) parts.1 in
      let idle : Idle s.reader (Some key) parts.0 = inside.0 in
      let there : WithinKey inner text from parts.0 (map ordered_item l.items) = inside.1 in
      let end = parts.2.1 in
      let taken = on_some _ _ parts.0.items there.0 there.1 (on_some _ _ parts.0.outer key idle.2 end.1) in
      let read = parameters_read key (of_inner_list (map ordered_item l.items)) l.parameters [] ms parts.2.0 to
      (end.0 ∙ idle.2) (taken start ms (map ordered_item l.items) there.2 (subst (λ (r : R). reads r ms) (sym idle.0) h))
      parts.2.2 in
      subst (λ (ps : RawParameters). reads to.reader (put ms (text start key) (inner_list (record {
        items = map ordered_item l.items;
        parameters = ps;
      })))) (all_put l.parameters) read

  keyed_read : (k : List ℕ) (m : RawMember) (ms : List (List ℕ × RawMember)) (s begun to : Visitor)
      → reads s.reader ms → Takes s (keyed_entry k) begun → FoldsTo Takes begun (member_events m) to
      → reads to.reader (put ms k (ordered_member m))
  keyed_read k m ms s begun to h taken run = by begun.key refl
    where
      there : reads begun.reader ms
      there = subst (λ (r : R). reads r ms) (sym taken.0) h

      by : (o : Option K) → begun.key ≡ o → reads to.reader (put ms k (ordered_member m))
      by None e =
          let ignored : IsIgnored from s.reader k = on_none _ _ begun.key e taken.1 in
          subst (λ (r : R). reads r (put ms k (ordered_member m))) (sym (member_passed m begun to e run))
          (subst (λ (r : R). reads r (put ms k (ordered_member m))) (sym taken.0) (ignored start ms (ordered_member m) h))
      by (Some key) e =
          let named : text start key ≡ k = on_some _ _ begun.key key e taken.1 start ms h in
          subst (λ (k : List ℕ). reads to.reader (put ms k (ordered_member m))) named
          (member_read key m ms begun to e there run)

  members_read : (raw ms : List (List ℕ × RawMember)) (s to : Visitor) → reads s.reader ms
      → FoldsTo Takes s (events dictionary_field raw) to → reads to.reader (put_all ms (over ordered_member raw))
  members_read [] ms s to h run = subst (λ (s : Visitor). reads s.reader ms) run h
  members_read (m ∷ raw) ms s to h run =
      let parts = split_run Takes (member_events m.1) (events dictionary_field raw) run.0 to run.2 in
      members_read raw (put ms m.0 (ordered_member m.1)) parts.0 to
      (keyed_read m.0 m.1 ms s run.0 parts.0 h run.1 parts.1) parts.2

  -- the whole dictionary
  pub dictionary_read : (raw : List (List ℕ × RawMember)) (s to : Visitor) → reads s.reader []
      → FoldsTo Takes s (events dictionary_field raw) to → reads to.reader (ordered dictionary_field raw)
  dictionary_read raw s to h run = subst (reads to.reader)
      (all_put (over ordered_member raw) ∙ collapse-over ordered_member raw) (members_read raw [] s to h run)
