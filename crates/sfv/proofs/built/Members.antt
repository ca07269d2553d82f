-- A member that a builder reads: after all events of a member it has ended, as the ordered member.
use Rattle.std.proofs.Common.{◌≡◌, ℕ, List, [], ◌∷◌, ◌++◌, map, refl, sym, ap, subst, ◌∙◌, append_assoc, bytes_eq, fold}
use Rattle.std.{proofs.Common.{flat_map, append-nil}, specs.Prelude.⊤}
use Rattle.indexmap.specs.IndexMap.{insert_entry}
use Rattle.sfv_spec.specs.Events.{TreeEvent, begins_item, parameter, parameters_end, inner_list_end, parameters_events}
use Rattle.sfv_spec.specs.{Events.{item_events, member_events}, Ordered.{collapse, ordered_item, ordered_member}}
use Rattle.sfv_spec.specs.Values.{BareValue, RawParameters, RawItem, RawInnerList, RawMember, item, inner_list}
use Rattle.sfv_spec.proofs.Collapse.{collapse-push}
use Rattle.sfv_tree.specs.Builders.{MemberState, begun, item_head, item_parameters, inner_items, inner_head}
use Rattle.sfv_tree.specs.Builders.{inner_parameters, list_parameters, ended, member_step}
use Rattle.sfv_tree.proofs.Entered.{insert_entry-entered}
use Rattle.sfv.proofs.built.Items.{with_bare}

-- a member that has not ended
abbrev pub IsOpen : MemberState → Type 0
IsOpen (ended m) = ⊥
IsOpen p = ⊤

-- the events lead from the one place to the other, and before none of them the member has ended
abbrev pub Goes : MemberState → List TreeEvent → MemberState → Type 0
Goes p [] q = p ≡ q
Goes p (e ∷ es) q = IsOpen p × Goes (member_step p e) es q

goes_on : (es fs : List TreeEvent) (p q r : MemberState) → Goes p es q → Goes q fs r → Goes p (es ++ fs) r
goes_on [] fs p q r h k = subst (λ (s : MemberState). Goes s fs r) (sym h) k
goes_on (e ∷ es) fs p q r h k = (h.0, goes_on es fs (member_step p e) q r h.1 k)

-- parameters, wherever they stand in a member
module _ (place after : RawParameters → MemberState) (opened : (ps : RawParameters) → IsOpen (place ps))
    (enters : (ps : RawParameters) (k : List ℕ) (v : BareValue)
    → member_step (place ps) (parameter k v) ≡ place (insert_entry bytes_eq ps k v))
    (closes : (ps : RawParameters) → member_step (place ps) parameters_end ≡ after ps) where
  parameters_go : (ps front : RawParameters) → Goes (place (collapse front)) (parameters_events ps)
      (after (collapse (front ++ ps)))
  parameters_go [] front = (
    opened (collapse front),
    closes (collapse front) ∙ ap (λ (qs : RawParameters). after (collapse qs)) (sym (append-nil front)),
  )
  parameters_go (p ∷ ps) front =
      let more : insert_entry bytes_eq (collapse front) p.0 p.1 ≡ collapse (front ++ p ∷ []) =
      insert_entry-entered (collapse front) p.0 p.1 ∙ sym (collapse-push front p.0 p.1) in
      let next : member_step (place (collapse front)) (parameter p.0 p.1) ≡ place (collapse (front ++ p ∷ [])) =
      enters (collapse front) p.0 p.1 ∙ ap place more in
      let rest : Goes (place (collapse (front ++ p ∷ []))) (parameters_events ps) (after (collapse (front ++ p ∷ ps))) =
      subst (λ (qs : RawParameters). Goes (place (collapse (front ++ p ∷ []))) (parameters_events ps)
      (after (collapse qs))) (append_assoc front (p ∷ []) ps) (parameters_go ps (front ++ p ∷ [])) in (
        opened (collapse front),
        subst (λ (s : MemberState). Goes s (parameters_events ps) (after (collapse (front ++ p ∷ ps)))) (sym next) rest,
      )

item_goes : (i : RawItem) → Goes item_head (item_events i) (ended (item (ordered_item i)))
unfolding collapse
item_goes i = (
  tt,
  parameters_go (λ ps. item_parameters (with_bare i.bare ps)) _ (λ ps. tt) (λ ps k v. refl) (λ ps. refl) _ [],
)

-- the inner list with this item appended
abbrev adds : RawInnerList → RawItem → RawInnerList
adds l i = record { items = l.items ++ i ∷ []; parameters = l.parameters }

inner_item_goes : (l : RawInnerList) (i : RawItem)
    → Goes (inner_head l) (item_events i) (inner_items (adds l (ordered_item i)))
unfolding collapse
inner_item_goes l i = (
  tt,
  parameters_go (λ ps. inner_parameters l (with_bare i.bare ps)) _ (λ ps. tt) (λ ps k v. refl) (λ ps. refl) _ [],
)

abbrev list_of : List RawItem → RawParameters → RawInnerList
list_of xs ps = record { items = xs; parameters = ps }

abbrev items_events : List RawItem → List TreeEvent
items_events xs = flat_map (λ i. begins_item ∷ item_events i) xs

inner_items_go : (xs done : List RawItem) → Goes (inner_items (list_of done [])) (items_events xs)
    (inner_items (list_of (done ++ map ordered_item xs) []))
inner_items_go [] done = ap (λ (ys : List RawItem). inner_items (list_of ys [])) (sym (append-nil done))
inner_items_go (x ∷ xs) done =
    let more : List RawItem = done ++ ordered_item x ∷ [] in
    let whole : List RawItem = done ++ map ordered_item (x ∷ xs) in
    let rest : Goes (inner_items (list_of more [])) (items_events xs) (inner_items (list_of whole [])) =
    subst (λ (ys : List RawItem). Goes (inner_items (list_of more [])) (items_events xs) (inner_items (list_of ys [])))
    (append_assoc done (ordered_item x ∷ []) (map ordered_item xs)) (inner_items_go xs more) in
    goes_on (begins_item ∷ item_events x) (items_events xs) (inner_items (list_of done []))
    (inner_items (list_of more [])) (inner_items (list_of whole [])) (tt, inner_item_goes (list_of done []) x) rest

inner_list_goes : (l : RawInnerList) → Goes begun (member_events (inner_list l)) (ended (ordered_member (inner_list l)))
unfolding collapse
inner_list_goes l =
    let xs = map ordered_item l.items in
    let past : Goes (list_parameters (list_of xs [])) (parameters_events l.parameters)
    (ended (inner_list (list_of xs (collapse l.parameters)))) =
    parameters_go (λ ps. list_parameters (list_of xs ps)) (λ ps. ended (inner_list (list_of xs ps))) (λ ps. tt)
    (λ ps k v. refl) (λ ps. refl) l.parameters [] in (
      tt,
      goes_on (items_events l.items) (inner_list_end ∷ parameters_events l.parameters) (inner_items (list_of [] []))
          (inner_items (list_of xs [])) (ended (inner_list (list_of xs (collapse l.parameters))))
          (inner_items_go l.items []) (tt, past),
    )

pub member_goes : (m : RawMember) → Goes begun (member_events m) (ended (ordered_member m))
member_goes (item i) = (tt, item_goes i)
member_goes (inner_list l) = inner_list_goes l

-- a builder whose place holds that of a member goes with it
module _ {P : Type 0} (step : P → TreeEvent → P) (settled : MemberState → P) (each : (p : MemberState) (e : TreeEvent)
    → IsOpen p → step (settled p) e ≡ settled (member_step p e)) where
  goes_along : (es : List TreeEvent) (p q : MemberState) → Goes p es q → fold step (settled p) es ≡ settled q
  goes_along [] p q h = ap settled h
  goes_along (e ∷ es) p q h = ap (λ (s : P). fold step s es) (each p e h.0) ∙ goes_along es (member_step p e) q h.1

  pub member_built : (m : RawMember) → fold step (settled begun) (member_events m) ≡ settled (ended (ordered_member m))
  member_built m = goes_along (member_events m) begun (ended (ordered_member m)) (member_goes m)
