-- After the events of the members, the reader's state is the state after the ordered list.
use Rattle.std.proofs.Common.{◌≡◌, ℕ, List, [], ◌∷◌, ◌++◌, None, sym, ap, subst, ◌∙◌, append_assoc, append-nil, map}
use Rattle.std.{proofs.Common.flat_map, specs.List.FoldsTo}
use Rattle.sfv_spec.specs.{Events.inner_item_events, Ordered.ordered_item}
use Rattle.sfv.proofs.visits.Taken.{split_run}
use Rattle.sfv_readers.specs.Field.{BareValue, RawParameters, RawItem, RawMember, item, inner_list, list_field}
use Rattle.sfv_readers.specs.Field.{TreeEvent, begins_item, bare_item, parameter, parameters_end, inner_list_end}
use Rattle.sfv_readers.specs.Field.{parameters_events, member_events, events, ordered, ordered_member, Head, of_item}
use Rattle.sfv_readers.specs.Field.{of_inner_list, member_of, head_of, parameters_of, raw_item, put}
use Rattle.sfv_readers.specs.{Steps.{Keeps, Within, ListTakes}, declared.list.ListVisitor.ListVisitor}
use Rattle.sfv_readers.proofs.Puts.{put_all, all_put}
use Rattle.sfv_readers.proofs.Runs.{items_known, head_there, parameters_there, on_none, on_some}

module _ {R M I : Type 0} (inner : I → List RawItem → Type 0) (keeps : R → M → Head → RawParameters → Type 0)
    (from : R → R → List RawMember → Type 0) (start : R) where
  -- the state after these members, from this start
  abbrev reads : R → List RawMember → Type 0
  reads s ms = from start s ms

  abbrev Visitor : Type 0
  Visitor = ListVisitor R M I

  abbrev Takes : Visitor → TreeEvent → Visitor → Type 0
  Takes s e after = ListTakes inner keeps from s e after

  -- between members
  abbrev Read : Visitor → List RawMember → Type 0
  Read s ms = (s.items ≡ None) × reads s.reader ms

  -- within a member, in this state
  abbrev InMember : Visitor → Head → RawParameters → List RawMember → Type 0
  InMember s head ps ms = (s.items ≡ None) × Keeps inner keeps from s head ps × reads s.reader ms

  -- within an inner list, after these items
  module _ (r : R) where
    abbrev InItems : Visitor → List RawItem → Type 0
    InItems s xs = (s.reader ≡ r) × Within inner keeps from s xs

    begins : (s after : Visitor) (xs : List RawItem) → InItems s xs → Takes s begins_item after → InItems after xs
    begins s after xs h same = subst (λ (s : Visitor). InItems s xs) (sym same) h

    bare : (s after : Visitor) (xs : List RawItem) (b : BareValue) → InItems s xs → Takes s (bare_item b) after
        → InItems after (xs ++ raw_item b [] ∷ [])
    bare s after xs b h taken =
        let there : Within inner keeps from s xs = h.1 in
        (taken.0 ∙ h.0, on_some _ _ s.items there.0 there.1 taken.1 xs there.2)

    entered : (s after : Visitor) (xs : List RawItem) (b : BareValue) (ps : RawParameters) (k : List ℕ) (v : BareValue)
        → InItems s (xs ++ raw_item b ps ∷ []) → Takes s (parameter k v) after
        → InItems after (xs ++ raw_item b (put ps k v) ∷ [])
    entered s after xs b ps k v h taken =
        let there : Within inner keeps from s (xs ++ raw_item b ps ∷ []) = h.1 in
        (taken.0 ∙ h.0, on_some _ _ s.items there.0 there.1 taken.1 xs b ps there.2)

    ends : (s after : Visitor) (xs : List RawItem) → InItems s xs → Takes s parameters_end after → InItems after xs
    ends s after xs h taken =
        let there : Within inner keeps from s xs = h.1 in
        subst (λ (s : Visitor). InItems s xs) (sym (on_some _ _ s.items there.0 there.1 taken)) h

    items_read : (items : List RawItem) (s to : Visitor) → InItems s []
        → FoldsTo Takes s (flat_map inner_item_events items) to → InItems to (map ordered_item items)
    items_read items s to h run = items_known Takes InItems begins bare entered ends items [] s to h run

  parameters_read : (head : Head) (ps done : RawParameters) (ms : List RawMember) (s to : Visitor)
      → InMember s head done ms → FoldsTo Takes s (parameters_events ps) to
      → Read to (ms ++ member_of head (put_all done ps) ∷ [])
  parameters_read head [] done ms s to h run =
      let end = on_none _ _ s.items h.0 run.1 in
      let kept : Keeps inner keeps from s (head_of (member_of head done)) (parameters_of (member_of head done)) =
      rw (head_there head done, parameters_there head done) (h.1) in
      subst (λ (s : Visitor). Read s (ms ++ member_of head done ∷ [])) run.2
      (end.0, end.1 start (member_of head done) ms kept h.2)
  parameters_read head (p ∷ ps) done ms s to h run =
      let step = on_none _ _ s.items h.0 run.1.1 in
      parameters_read head ps (put done p.0 p.1) ms run.0 to
      (step.0, step.1 head done h.1, subst (λ (r : R). reads r ms) (sym run.1.0) h.2) run.2

  member_read : (m : RawMember) (ms : List RawMember) (s to : Visitor) → Read s ms
      → FoldsTo Takes s (member_events m) to → Read to (ms ++ ordered_member m ∷ [])
  member_read (item i) ms s to h run =
      let bare = on_none _ _ run.0.items (ap (λ (s : Visitor). s.items) run.1 ∙ h.0) run.2.1.1 in
      let reader = run.2.1.0 ∙ ap (λ (s : Visitor). s.reader) run.1 in
      let read = parameters_read (of_item i.bare) i.parameters [] ms run.2.0 to
      (bare.0, bare.1, subst (λ (r : R). reads r ms) (sym reader) h.1) run.2.2 in
      subst (λ (ps : RawParameters). Read to (ms ++ item (raw_item i.bare ps) ∷ [])) (all_put i.parameters) read
  member_read (inner_list l) ms s to h run =
      let parts = split_run Takes (flat_map inner_item_events l.items) (inner_list_end ∷ parameters_events l.parameters)
      run.0 to run.2 in
      let inside = items_read s.reader l.items run.0 parts.0 run.1 parts.1 in
      let there : Within inner keeps from parts.0 (map ordered_item l.items) = inside.1 in
      let end = on_some _ _ parts.0.items there.0 there.1 parts.2.1 in
      let read = parameters_read (of_inner_list (map ordered_item l.items)) l.parameters [] ms parts.2.0 to (
        end.1,
        end.2 (map ordered_item l.items) there.2,
        subst (λ (r : R). reads r ms) (sym (end.0 ∙ inside.0)) h.1,
      ) parts.2.2 in
      subst (λ (ps : RawParameters). Read to (ms ++ inner_list (record {
        items = map ordered_item l.items;
        parameters = ps;
      }) ∷ [])) (all_put l.parameters) read

  members_read : (raw ms : List RawMember) (s to : Visitor) → Read s ms
      → FoldsTo Takes s (events list_field raw) to → Read to (ms ++ ordered list_field raw)
  members_read [] ms s to h run = subst (λ (s : Visitor). Read s (ms ++ [])) run (rw (append-nil ms) h)
  members_read (m ∷ raw) ms s to h run =
      let parts = split_run Takes (member_events m) (events list_field raw) run.0 to run.2 in
      let first = member_read m ms run.0 parts.0 (subst (λ (s : Visitor). Read s ms) (sym run.1) h) parts.1 in
      subst (Read to) (append_assoc ms (ordered_member m ∷ []) (ordered list_field raw))
      (members_read raw (ms ++ ordered_member m ∷ []) parts.0 to first parts.2)

  -- the whole list
  pub list_read : (raw : List RawMember) (s to : Visitor) → s.items ≡ None → reads s.reader []
      → FoldsTo Takes s (events list_field raw) to → reads to.reader (ordered list_field raw)
  list_read raw s to w h run = (members_read raw [] s to (w, h) run).1
