-- An inner list and its parameters, and how they are visited.
use Rattle.std.proofs.Common.{◌≡◌, ℕ, true, false, List, [], ◌∷◌, ◌++◌, Ok, Err, refl, sym, ap, subst, ◌∙◌}
use Rattle.std.{proofs.Common.{append_assoc, flat_map, Result}, specs.List.FoldsTo, specs.declared.alloc.Global.Global}
use Rattle.sfv_spec.{specs.Events.{item_events, inner_item_events}, proofs.Marks.left_parenthesis}
use Rattle.sfv_model.specs.Items.{parameters_at, item_at}
use Rattle.sfv_model.specs.Members.{inner_items_at, inner_of, closed_events, inner_at, member_at}
use Rattle.sfv_model.specs.Reader.{Answer, Reader, byte, led_answer, led, give, and_then, bind, ◌>>=◌}
use Rattle.sfv_model.specs.Visits.{VisitorFails}
use Rattle.sfv_base.specs.declared.error.ParseError.{ParseError, TheVariants.{Syntax, Visitor}}
use Rattle.sfv.specs.Field.{RawParameters, RawItem, RawMember, item, inner_list, Version, TreeEvent, begins_item}
use Rattle.sfv.specs.Field.{begins_inner_list, inner_list_end, parameters_events, member_events}
use Rattle.sfv.specs.declared.parser.{Parser.Parser, cursor.Cursor.Cursor}
use Rattle.sfv.specs.parser.{Cursor.TakesIf, Members.after_begin, Visits.{VisitsAnswer, IsOfVisitor}}
use Rattle.sfv.proofs.{reads.Steps.{branch_true, branch_false}, visits.Parameters.of_visitor}
use Rattle.sfv.proofs.visits.Parts.{visits_as, map_visits, then_visits, first_failed, failed_longer, failed_after}
use Rattle.sfv.proofs.visits.{Parts.{led_visits, led_fails}, Taken.{runs_on, took_part}}

-- the parameters after the items
list_parameters : RawMember → List TreeEvent
list_parameters (item i) = []
list_parameters (inner_list l) = parameters_events l.parameters

-- what stands after the items
abbrev closing : Version → List RawItem → Reader RawMember
closing version is = parameters_at version >>= λ ps. give (inner_of is ps)

closing_events : (version : Version) (is : List RawItem) (q : List ℕ) (w : RawMember) (r : List ℕ)
    → closing version is q ≡ Ok (w, r) → after_begin w ≡ closed_events is ++ list_parameters w
unfolding bind give list_parameters
closing_events version is q w r e = on (parameters_at version q) e
  where
    on : (a : Answer RawParameters) → and_then a (λ ps. give (inner_of is ps)) ≡ Ok (w, r)
        → after_begin w ≡ closed_events is ++ list_parameters w
    on (Ok x) h =
        let here : RawMember × List ℕ = (inner_of is x.0, x.1) in
        let there : RawMember × List ℕ = (w, r) in
        let same : here ≡ there = cc in
        ap (λ (p : RawMember × List ℕ). after_begin p.0) (sym same)
        ∙ sym (append_assoc (flat_map inner_item_events is) (inner_list_end ∷ []) (parameters_events x.0))
        ∙ ap (λ (p : RawMember × List ℕ). closed_events is ++ list_parameters p.0) same
    on (Err f) h = absurd cc

module _ {S E : Type 0} (takes : S → TreeEvent → S → Type 0) (fails : S → TreeEvent
    → E → Type 0) (version : Version) where
  whole_failed : (t : List ℕ) (from : S) (fault : E)
      → VisitorFails takes fails closed_events (inner_items_at version t) from fault
      → VisitorFails takes fails after_begin (inner_at version t) from fault
  unfolding inner_at
  whole_failed t from fault h = first_failed _ _ _ _ _ _ _ _ _ _ (λ v q w r e k. closing_events _ _ _ _ _ k) h

  -- the items are not read whole
  pub items_fail : (t : List ℕ) (from to : S) (k : Parser × Global) (after : Cursor) (error : ParseError E)
      → VisitsAnswer takes fails (λ is. flat_map inner_item_events is) k after from to (Err error)
      (inner_items_at version t) → VisitsAnswer takes fails after_begin k after from to (Err error) (inner_at version t)
  unfolding inner_at
  items_fail t from to k after (Syntax e) h = took_part _ _ _ _ _ _ _ _ _ _ _ refl h
  items_fail t from to k after (Visitor fault) h =
      whole_failed _ _ _ (failed_longer _ _ _ _ _ _ _ (λ is. (inner_list_end ∷ [], refl)) h)

  -- the visitor fails at their end
  pub end_fails : (t q : List ℕ) (is : List RawItem) (from middle to : S) (k : Parser
      × Global) (after : Cursor) (error : ParseError E) → inner_items_at version t ≡ Ok (is, q)
      → FoldsTo takes from (flat_map inner_item_events is) middle → IsOfVisitor (fails middle inner_list_end) error
      → VisitsAnswer takes fails after_begin k after from to (Err error) (inner_at version t)
  end_fails t q is from middle to k after error read run h =
      of_visitor _ _ _ k after _ _ _ _ _ h (λ fault failed. whole_failed _ _ _
      (failed_after _ _ (λ is. flat_map inner_item_events is) _ _ _ _ _ _ _ _ read refl run failed))

  -- the items, their end and the parameters
  pub inner_list_visits : (t q : List ℕ) (is : List RawItem) (from middle end to : S) (k : Parser
      × Global) (after : Cursor) (r : Result (Unit {0}) (ParseError E)) → inner_items_at version t ≡ Ok (is, q)
      → FoldsTo takes from (flat_map inner_item_events is) middle → takes middle inner_list_end end
      → VisitsAnswer takes fails parameters_events k after end to r (parameters_at version q)
      → VisitsAnswer takes fails after_begin k after from to r (inner_at version t)
  unfolding inner_at list_parameters
  inner_list_visits t q is from middle end to k after r read run taken h =
      then_visits takes fails (inner_items_at version) (closing version) closed_events after_begin list_parameters t q
      is from end to k after r read
      (runs_on takes (flat_map inner_item_events is) (inner_list_end ∷ []) from middle end run (end, taken, refl))
      (λ w s e. closing_events version is q w s e)
      (map_visits takes fails (λ ps. inner_of is ps) parameters_events list_parameters (parameters_at version) q end to
      k after r (λ ps. refl) h)

  -- ---- a member

  pub member_list : (t q : List ℕ) → TakesIf (byte left_parenthesis) true t q
      → member_at version t ≡ led (begins_inner_list ∷ []) (inner_at version) q
  unfolding member_at
  member_list t q m = branch_true (byte left_parenthesis) _ _ t q m

  abbrev as_item : Reader RawMember
  as_item = item_at version >>= λ i. give (item i)

  pub member_item : (t q : List ℕ) → TakesIf (byte left_parenthesis) false t q
      → member_at version t ≡ led (begins_item ∷ []) as_item q
  unfolding member_at
  member_item t q m = branch_false (byte left_parenthesis) _ _ t q m

  -- what an inner list gives begins as one
  given_list : (is : List RawItem) (a : Answer RawParameters) (v : RawMember) (r : List ℕ)
      → led_answer (closed_events is) (and_then a (λ ps. give (inner_of is ps))) ≡ Ok (v, r)
      → member_events v ≡ begins_inner_list ∷ after_begin v
  unfolding give
  given_list is (Ok x) v r h =
      let here : RawMember × List ℕ = (inner_of is x.0, x.1) in
      let there : RawMember × List ℕ = (v, r) in
      let same : here ≡ there = cc in
      subst (λ (p : RawMember × List ℕ). member_events p.0 ≡ begins_inner_list ∷ after_begin p.0) same refl
  given_list is (Err f) v r h = absurd cc

  begins_as_list : (q : List ℕ) (v : RawMember) (r : List ℕ) → led (begins_inner_list ∷ [])
      (inner_at version) q ≡ Ok (v, r) → member_events v ≡ begins_inner_list ∷ after_begin v
  unfolding inner_at led bind
  begins_as_list q v r e = on (inner_items_at version q) e
    where
      inner : (b : Answer RawMember) → ((v : RawMember) (r : List ℕ) → b ≡ Ok (v, r)
          → member_events v ≡ begins_inner_list ∷ after_begin v) → led_answer (begins_inner_list ∷ []) b ≡ Ok (v, r)
          → member_events v ≡ begins_inner_list ∷ after_begin v
      inner (Ok x) h e =
          let here : RawMember × List ℕ = x in
          let there : RawMember × List ℕ = (v, r) in
          let same : here ≡ there = cc in
          subst (λ (p : RawMember × List ℕ). member_events p.0
          ≡ begins_inner_list ∷ after_begin p.0) same (h x.0 x.1 refl)
      inner (Err f) h e = absurd cc

      on : (a : Answer (List RawItem)) → led_answer (begins_inner_list ∷ [])
          (and_then a (λ is q. led_answer (closed_events is)
          (and_then (parameters_at version q) (λ ps. give (inner_of is ps))))) ≡ Ok (v, r)
          → member_events v ≡ begins_inner_list ∷ after_begin v
      on (Ok x) e = inner (led_answer (closed_events x.0)
          (and_then (parameters_at version x.1) (λ ps. give (inner_of x.0 ps))))
          (given_list x.0 (parameters_at version x.1)) e
      on (Err f) e = absurd cc

  pub list_member_visits : (t q : List ℕ) (from middle to : S) (k : Parser
      × Global) (after : Cursor) (r : Result (Unit {0}) (ParseError E)) → TakesIf (byte left_parenthesis) true t q
      → takes from begins_inner_list middle
      → VisitsAnswer takes fails after_begin k after middle to r (inner_at version q)
      → VisitsAnswer takes fails member_events k after from to r (member_at version t)
  list_member_visits t q from middle to k after r m taken h = visits_as takes fails
      (λ v. begins_inner_list ∷ after_begin v) member_events (led (begins_inner_list ∷ []) (inner_at version) q)
      (member_at version t) from to k after r (member_list t q m) (begins_as_list q)
      (led_visits takes fails begins_inner_list after_begin (inner_at version) q from middle to k after r taken h)

  -- an item as a member
  item_first : (q : List ℕ) → led (begins_item ∷ []) as_item q
      ≡ (led (begins_item ∷ []) (item_at version) >>= λ i. give (item i)) q
  unfolding led bind give
  item_first q = on (item_at version q)
    where
      on : (a : Answer RawItem) → led_answer (begins_item ∷ []) (and_then a (λ i. give (item i)))
          ≡ and_then (led_answer (begins_item ∷ []) a) (λ i. give (item i))
      on (Ok x) = refl
      on (Err f) = refl

  pub item_member_visits : (t q : List ℕ) (from middle to : S) (k : Parser × Global)
      (after : Cursor) (r : Result (Unit {0}) (ParseError E)) → TakesIf (byte left_parenthesis) false t q
      → takes from begins_item middle → VisitsAnswer takes fails item_events k after middle to r (item_at version q)
      → VisitsAnswer takes fails member_events k after from to r (member_at version t)
  item_member_visits t q from middle to k after r m taken h = visits_as takes fails member_events member_events
      ((led (begins_item ∷ []) (item_at version) >>= λ i. give (item i)) q) (member_at version t) from to k after r
      (member_item t q m ∙ item_first q) (λ v s e. refl) (map_visits takes fails (λ i. item i)
      (λ i. begins_item ∷ item_events i) member_events (led (begins_item ∷ []) (item_at version)) q from to k after r
      (λ i. refl) (led_visits takes fails begins_item item_events (item_at version) q from middle to k after r taken h))

  -- the visitor fails at the beginning of a member
  pub list_begin_fails : (t q : List ℕ) (from to : S) (k : Parser × Global) (after : Cursor) (error : ParseError E)
      → TakesIf (byte left_parenthesis) true t q → IsOfVisitor (fails from begins_inner_list) error
      → VisitsAnswer takes fails member_events k after from to (Err error) (member_at version t)
  list_begin_fails t q from to k after error m h = visits_as takes fails
      (λ v. begins_inner_list ∷ after_begin v) member_events (led (begins_inner_list ∷ []) (inner_at version) q)
      (member_at version t) from to k after (Err error) (member_list t q m) (begins_as_list q)
      (led_fails takes fails begins_inner_list after_begin (inner_at version) q from to k after error h)

  pub item_begin_fails : (t q : List ℕ) (from to : S) (k : Parser × Global) (after : Cursor) (error : ParseError E)
      → TakesIf (byte left_parenthesis) false t q → IsOfVisitor (fails from begins_item) error
      → VisitsAnswer takes fails member_events k after from to (Err error) (member_at version t)
  item_begin_fails t q from to k after error m h = visits_as takes fails member_events member_events ((led
      (begins_item ∷ []) (item_at version) >>= λ i. give (item i)) q) (member_at version t) from to k after (Err error)
      (member_item t q m ∙ item_first q) (λ v s e. refl) (map_visits takes fails (λ i. item i) (λ i. begins_item
      ∷ item_events i) member_events (led (begins_item ∷ []) (item_at version)) q from to k after (Err error)
      (λ i. refl) (led_fails takes fails begins_item item_events (item_at version) q from to k after error h))
