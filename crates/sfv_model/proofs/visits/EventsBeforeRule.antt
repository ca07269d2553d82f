-- What the readers told before a fault with a rule; leaf: so it is of bare items.
use Rattle.std.proofs.Common.{◌≡◌, ℕ, Bool, true, false, List, [], ◌∷◌, ◌++◌, Option, Some, None, Ok, Err, refl, sym}
use Rattle.std.proofs.Common.{ap, subst, ◌∙◌, append_assoc, flat_map, inl, inr, append-nil, true≢false, eqb-true}
use Rattle.std.proofs.lemmas.Bool.{cases_Bool}
use Rattle.sfv_spec.specs.Events.{TreeEvent, events, entry, begins_item, begins_inner_list, inner_list_end}
use Rattle.sfv_spec.specs.Events.{inner_item_events, parameters_events, item_events, member_events, entry_events}
use Rattle.sfv_spec.specs.{Events.keyed_events, Grammar.{IsMemberText, IsDictionaryMemberText}}
use Rattle.sfv_spec.{specs.Values.{RawParameters, RawItem, RawMember, item, inner_list}, proofs.Marks.{comma, is_space}}
use Rattle.sfv_model.specs.{Bare.{bare_at, token_at}, Fields.{comma_at, next_at, members_at, whole_field_at}}
use Rattle.sfv_model.specs.Items.{key_at, value_at, parameter_at, parameter_event, parameters_at, item_at}
use Rattle.sfv_model.specs.Judgements.{Local, Quiet}
use Rattle.sfv_model.specs.Members.{inner_item_at, next_item_at, inner_items_at, inner_of, closed_events, inner_at}
use Rattle.sfv_model.specs.Members.{member_at, entry_at, member_value_at, keyed_at}
use Rattle.sfv_model.specs.Reader.{Fault, Answer, Reader, visited, and_then, give, fail, ◌>>=◌, bind, led, led_answer}
use Rattle.sfv_model.specs.Reader.{branch, ahead, back, span, many, one_and_more, byte, any}
use Rattle.sfv_model.proofs.Types.{FieldKind, item_field, list_field, dictionary_field, Version, TrailingComma}
use Rattle.sfv_model.proofs.Types.{TrailingCharactersAfterMember}
use Rattle.sfv_model.proofs.local.{Bare.Local-bare, Combinators.{Local-span, looks}}
use Rattle.sfv_model.proofs.local.Items.{Local-key, Local-value, Local-parameter, Local-item}
use Rattle.sfv_model.proofs.local.Members.{Local-inner_item, Local-next_item, Local-items, Local-entry, Local-keyed}
use Rattle.sfv_model.proofs.places.Calls.{Stuck, stuck_bind}
use Rattle.sfv_model.proofs.places.CallsOfReaders.{stuck_give, stuck_then, stuck_after, stuck_value, stuck_parameters}
use Rattle.sfv_model.proofs.places.CallsOfReaders.{stuck_next_items, stuck_next, stuck_space, stuck_last}
use Rattle.sfv_model.proofs.places.CallsOfReaders.{stuck-member_value, Local-comma}
use Rattle.sfv_model.proofs.sound.Combinators.{sound_at, Begins, Reads, Goes, Sound-back, Steady-span}
use Rattle.sfv_model.proofs.sound.Items.{Consumes-parameter, parameters_begin}
use Rattle.sfv_model.proofs.sound.Members.{Consumes-next_item, Sound-entry, Sound-keyed}
use Rattle.sfv_model.proofs.sound.{Separated.{IsComma, Sound-comma, Consumes-next, Local-next}, Steps.step_events}
use Rattle.sfv_model.proofs.visits.EventsBeforeRuleAlike.{Tells, Early, begins_all, Early-give, Early-fail, Early-span}
use Rattle.sfv_model.proofs.visits.EventsBeforeRuleAlike.{tells_after, tells_second, Early-led, Early-bind, Early-then}
use Rattle.sfv_model.proofs.visits.EventsBeforeRuleAlike.{Early-map, Early-led_map, Early-branch, Early-ahead}
use Rattle.sfv_model.proofs.visits.EventsBeforeRuleAlike.{Early-many, Early-one_and_more, Early-more}

stuck_key : Stuck (key_at (0 ∷ []))
unfolding key_at branch fail
stuck_key = (refl, refl)

abbrev exact_of : {A : Type 0} → Answer A → Bool
exact_of (Ok x) = true
exact_of (Err e) = e.exact

comma_quiet : (t : List ℕ) (y : Fault) → back TrailingComma comma_at t ≡ Err y → y.events ≡ []
comma_quiet t y e =
    let m = sound_at (Sound-back TrailingComma comma_at IsComma (λ _ _. ⊥) Quiet refl refl (Sound-comma _ _)) t _ e in
    elim (cases_Bool y.exact) [ inl x ↦ absurd ((m.0 x).holds) | inr x ↦ (m.1 x).0 ]

module _ {A : Type 0} (P : A → List ℕ → Type 0) (parts : A → List TreeEvent) (one : Reader A)
    (reads : Reads one P (Goes P parts)) (l : Local one) (h : Early one parts) (stuck : Stuck (one (0 ∷ []))) where
  abbrev Another : Reader (Option A)
  Another = one >>= λ m. give (Some m)

  Early-another : Early Another (step_events parts)
  Early-another = Early-map (λ m. Some m) h l (λ m. ([], sym (append-nil _)))

  abbrev AtComma : Reader (Option A)
  AtComma = ahead (byte comma) (back TrailingComma comma_at >>= λ _. Another) (fail TrailingCharactersAfterMember)

  stuck_comma : Stuck (AtComma (comma ∷ 0 ∷ []))
  unfolding ahead back comma_at branch span bind give
  stuck_comma = stuck_bind (λ m. give (Some m)) (one (0 ∷ [])) (λ m. refl) stuck

  after_comma : (c : ℕ) (r : List ℕ) → byte comma c ≡ true → (a : Answer (Unit {0}))
      → back TrailingComma comma_at (c ∷ r) ≡ a → (e : Fault) → and_then a (λ _. Another) ≡ Err e → e.exact ≡ false
      → Tells AtComma (step_events parts) (c ∷ r) e.events
  after_comma c r n (Ok (v, q)) k e i x = tells_after _ _ _ [] _ _ (λ q j. looks _ _ _ _ _ _ n j)
      (tells_second _ _ _ _ _ _ _ Local-comma k (Early-another.early q e i x))
  after_comma c r n (Err y) k e i x =
      let same : y ≡ e = cc in
      rw (← sym (comma_quiet (c ∷ r) y k) ∙ ap (λ (y : Fault). y.events) same) (record {
        before = [];
        next = c;
        after = r;
        text = refl;
        emitted = λ r. begins_all _;
        more = [];
        stuck = subst (λ (c : ℕ). Stuck (AtComma (c ∷ 0 ∷ []))) (sym (eqb-true c comma n)) stuck_comma;
      })

  Early-comma : Early AtComma (step_events parts)
  unfolding ahead bind fail
  Early-comma = record { early = at }
    where
      at : (t : List ℕ) (e : Fault) → AtComma t ≡ Err e → e.exact ≡ false → Tells AtComma (step_events parts) t e.events
      at [] e i x = let w : true ≡ e.exact = ap (λ (a : Answer (Option A)). exact_of a) i in absurd (true≢false (w ∙ x))
      at (c ∷ r) e i x = elim (cases_Bool (byte comma c)) [
        | inl n ↦ after_comma c r n (back TrailingComma comma_at (c ∷ r)) refl e (rw n at i) x
        | inr n ↦ let w : true ≡ e.exact = ap (λ (a : Answer (Option A)). exact_of a) (rw n at i) in
            absurd (true≢false (w ∙ x))
      ]

  stuck_at_comma : Stuck (ahead any AtComma (give None) (0 ∷ []))
  unfolding ahead fail
  stuck_at_comma = (refl, refl)

  Early-next : Early (next_at one) (step_events parts)
  unfolding next_at
  Early-next = Early-then (Early-span _ _) (Local-span _)
      (λ s. Early-ahead _ Early-comma (Early-give _ _)) (λ s. stuck_at_comma)

  stuck_first : Stuck (ahead any (one_and_more parts one (next_at one)) (give []) (0 ∷ []))
  unfolding ahead bind
  stuck_first = stuck_bind _ _ (λ v. stuck_last_of v) stuck
    where
      stuck_last_of : (v : A) → Stuck (led (parts v) (many parts (next_at one) >>= λ vs. give (v ∷ vs)) (0 ∷ []))
      stuck_last_of v = stuck_after (parts v) (many parts (next_at one) >>= λ vs. give (v ∷ vs))
          (stuck_then (many parts (next_at one)) (λ vs. give (v ∷ vs)) (stuck_next parts one) (λ vs. stuck_give (v ∷ vs)))

  Early-members : Early (members_at parts one) (λ vs. flat_map parts vs)
  unfolding members_at
  Early-members = Early-then (Early-span _ _) (Local-span _)
      (λ s. Early-ahead _ (Early-one_and_more parts (next_at one) (Consumes-next P parts one reads)
      (Local-next P parts one l) Early-next (stuck_next parts one) one h l) (Early-give _ _)) (λ s. stuck_first)

module _ (version : Version) (leaf : Early (bare_at version) (λ _. [])) where
  Early-value : Early (value_at version) (λ _. [])
  unfolding value_at
  Early-value = Early-branch _ (λ c. leaf) (Early-give _ _)

  Early-key : Early key_at (λ _. [])
  unfolding key_at
  Early-key = Early-branch _ (λ c. Early-then (Early-span _ _) (Local-span _) (λ cs. Early-give _ _)
      (λ cs. stuck_give _)) (Early-fail _ _)

  Early-parameter : Early (parameter_at version) (step_events parameter_event)
  unfolding parameter_at
  Early-parameter = Early-branch _ (λ c. Early-then (Early-span _ _) (Local-span _) (λ s. Early-then Early-key Local-key
      (λ k. Early-map _ Early-value (Local-value _) (λ v. begins_all _)) (λ k. stuck_then _ _ (stuck_value _)
      (λ v. stuck_give _))) (λ s. stuck_then _ _ stuck_key (λ k. stuck_then _ _ (stuck_value _) (λ v. stuck_give _))))
      (Early-give _ _)

  Early-parameters : Early (parameters_at version) parameters_events
  unfolding parameters_at
  Early-parameters = Early-more (λ ps. parameters_begin _ _ ([], sym (append-nil _))) (Early-many _ _
      (Consumes-parameter _) (Local-parameter _) Early-parameter (stuck_parameters _))

  pub Early-item : Early (item_at version) item_events
  unfolding item_at
  Early-item = Early-then leaf (Local-bare _) (λ b. Early-led_map _ _ (λ ps. ([], sym (append-nil _))) Early-parameters)
      (λ b. stuck_after _ _ (stuck_last _ _))

  Early-inner_item : Early (inner_item_at version) inner_item_events
  unfolding inner_item_at
  Early-inner_item = Early-led (begins_item ∷ []) (λ t i q j. refl) Early-item

  stuck_parenthesis : (v : Option RawItem)
      → Stuck (branch (byte 41) (λ _. give v) (inner_item_at version >>= λ i. give (Some i)) (0 ∷ []))
  unfolding branch inner_item_at item_at bare_at token_at ahead fail bind led
  stuck_parenthesis v = (refl, refl)

  Early-next_item : Early (next_item_at version) (step_events inner_item_events)
  unfolding next_item_at
  Early-next_item = Early-branch _ (λ c. Early-then (Early-span _ _) (Local-span _) (λ s. Early-branch _
      (λ d. Early-give _ _) (Early-map _ Early-inner_item (Local-inner_item _) (λ i. ([], sym (append-nil _)))))
      (λ s. stuck_parenthesis _)) (Early-branch _ (λ d. Early-give _ _) (Early-ahead _ (Early-fail _ _)
      (Early-fail _ _)))

  stuck_items : Stuck (branch (byte 41) (λ _. give []) (inner_item_at version
      >>= λ i. led (inner_item_events i) (many inner_item_events (next_item_at version) >>= λ is. give (i ∷ is)))
      (0 ∷ []))
  unfolding branch inner_item_at item_at bare_at token_at ahead fail bind led
  stuck_items = (refl, refl)

  Early-items : Early (inner_items_at version) (λ is. flat_map inner_item_events is)
  unfolding inner_items_at
  Early-items = Early-ahead _ (Early-then (Early-span _ _) (Local-span _) (λ s. Early-branch _ (λ d. Early-give _ _)
      (Early-one_and_more _ _ (Consumes-next_item _) (Local-next_item _) Early-next_item (stuck_next_items _) _
      Early-inner_item (Local-inner_item _))) (λ s. stuck_items)) (Early-fail _ _)

  -- the events of an inner list after its beginning
  after_start : RawMember → List TreeEvent
  after_start (item i) = []
  after_start (inner_list l) = flat_map inner_item_events l.items ++ inner_list_end ∷ parameters_events l.parameters

  closed_begins : (is : List RawItem) (a : Answer RawParameters)
      → Begins (visited after_start (led_answer (closed_events is) (and_then a (λ ps. give (inner_of is ps)))))
      (flat_map inner_item_events is)
  unfolding give after_start
  closed_begins is (Ok x) = (inner_list_end ∷ parameters_events x.0, refl)
  closed_begins is (Err x) =
      (inner_list_end ∷ x.events, append_assoc (flat_map inner_item_events is) (inner_list_end ∷ []) x.events)

  closed_goes : (is : List RawItem) (q : List ℕ)
      → Begins (visited after_start (led (closed_events is) (parameters_at version >>= λ ps. give (inner_of is ps)) q))
      (flat_map inner_item_events is)
  unfolding led bind
  closed_goes is q = closed_begins is (parameters_at version q)

  Early-inner : Early (inner_at version) after_start
  unfolding inner_at after_start
  Early-inner = Early-bind Early-items (Local-items _) (λ is. Early-led_map _ _ (λ ps.
      ([], simp (append_assoc, append-nil))) Early-parameters) closed_goes (λ is. stuck_after _ _ (stuck_last _ _))

  list_starts : (t : List ℕ) (v : RawMember) (q : List ℕ) → inner_at version t ≡ Ok (v, q)
      → member_events v ≡ (begins_inner_list ∷ []) ++ after_start v
  unfolding inner_at after_start led bind give
  list_starts t v q e = on (inner_items_at version t) e
    where
      inner : (is : List RawItem) (a : Answer RawParameters)
          → led_answer (closed_events is) (and_then a (λ ps. give (inner_of is ps))) ≡ Ok (v, q)
          → member_events v ≡ (begins_inner_list ∷ []) ++ after_start v
      inner is (Ok x) h =
          let pairs : (inner_of is x.0, x.1) ≡ (v, q) = cc in
          let same : inner_of is x.0 ≡ v = ap (λ (p : RawMember × List ℕ). p.0) pairs in rw (← same) refl
      inner is (Err x) h = absurd cc

      on : (a : Answer (List RawItem)) → and_then a (λ is q. led_answer (closed_events is)
          (and_then (parameters_at version q) (λ ps. give (inner_of is ps)))) ≡ Ok (v, q)
          → member_events v ≡ (begins_inner_list ∷ []) ++ after_start v
      on (Ok x) h = inner x.0 (parameters_at version x.1) h
      on (Err x) h = absurd cc

  Early-member : Early (member_at version) member_events
  unfolding member_at
  Early-member = Early-branch _ (λ c. Early-led (begins_inner_list ∷ []) list_starts Early-inner)
      (Early-led_map (begins_item ∷ []) (λ i. item i) (λ i. ([], sym (append-nil _))) Early-item)

  pub Early-entry : Early (entry_at version) entry_events
  unfolding entry_at
  Early-entry = Early-led (entry ∷ []) (λ t v q j. refl) Early-member

  Early-member_value : Early (member_value_at version) member_events
  unfolding member_value_at
  Early-member_value = Early-branch _ (λ c. Early-member) (Early-led_map _ _ (λ ps. ([], sym (append-nil _)))
      Early-parameters)

  pub Early-keyed : Early (keyed_at version) keyed_events
  unfolding keyed_at
  Early-keyed = Early-then Early-key Local-key (λ k. Early-led_map _ _ (λ m. ([], sym (append-nil _)))
      Early-member_value) (λ k. stuck_after _ _ (stuck_then _ _ (stuck-member_value _) (λ m. stuck_give _)))

  -- ---- fields

  stuck_item : Stuck (item_at version (0 ∷ []))
  unfolding item_at bare_at token_at branch ahead fail bind
  stuck_item = (refl, refl)

  stuck_entry : Stuck (entry_at version (0 ∷ []))
  unfolding entry_at member_at item_at bare_at token_at branch ahead fail bind led
  stuck_entry = (refl, refl)

  stuck_keyed : Stuck (keyed_at version (0 ∷ []))
  unfolding keyed_at key_at branch fail bind
  stuck_keyed = (refl, refl)

  spaces_begin : (i : RawItem) (q : List ℕ) → Begins (visited item_events ((span is_space >>= λ _. give i) q))
      (item_events i)
  unfolding bind give
  spaces_begin i q = let m = (Steady-span is_space).steady q in rw m.3 ([], sym (append-nil _))

  stuck_after_item : (i : RawItem) → Stuck ((span is_space >>= λ _. give i) (0 ∷ []))
  stuck_after_item i = stuck_then (span is_space) (λ _. give i) stuck_space (λ _. stuck_give i)

  pub Early-field : (kind : FieldKind) → Early (whole_field_at version kind) (events kind)
  unfolding whole_field_at
  Early-field item_field = Early-then (Early-span _ _) (Local-span _) (λ s. Early-bind Early-item (Local-item _) (λ i.
      Early-then (Early-span _ _) (Local-span _) (λ _. Early-give _ _) (λ _. stuck_give _)) spaces_begin
      stuck_after_item) (λ s. stuck_then _ _ stuck_item stuck_after_item)
  Early-field list_field = Early-members (IsMemberText version) entry_events (entry_at version) (Sound-entry version)
      (Local-entry version) Early-entry stuck_entry
  Early-field dictionary_field = Early-members (IsDictionaryMemberText version) keyed_events (keyed_at version)
      (Sound-keyed version) (Local-keyed version) Early-keyed stuck_keyed
