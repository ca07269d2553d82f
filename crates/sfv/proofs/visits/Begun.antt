-- The first events of items and members, whatever follows.
use Rattle.std.proofs.Common.{◌≡◌, ℕ, eqb, true, false, List, [], ◌∷◌, ◌++◌, Some, Ok, Err, refl, sym, ap, subst, ◌∙◌}
use Rattle.std.proofs.Common.{append_assoc, inl, inr, append-nil, eqb-true, true≢false, Bool, map, flat_map, codes, not}
use Rattle.std.{proofs.Common.◌==◌, specs.List.list_all}
use Rattle.std.proofs.lemmas.Bool.{or_parts, and_parts, or_cases, not-true, cases_Bool}
use Rattle.sfv_spec.specs.{Classes.{is_key_inner, is_token_inner, is_one_of}, Events.{item_events, inner_item_events}}
use Rattle.sfv_spec.specs.Grammar.{IsKeyText, IsEnded, IsItemText, IsMemberText, IsDictionaryMemberText}
use Rattle.sfv_spec.specs.Grammar.{IsParametersText, IsMemberValueText}
use Rattle.sfv_spec.proofs.Marks.{tab, equals_sign, left_parenthesis, true_with, is_space, is_space_or_tab}
use Rattle.sfv_spec.proofs.{Marks.IsParameterText, Settled.{joining-nil, joining-cons}}
use Rattle.sfv_model.specs.Items.{parameter_at, parameter_event, parameters_at, item_of, item_at}
use Rattle.sfv_model.specs.Members.{inner_item_at, inner_items_at, inner_at, inner_of, closed_events, member_at}
use Rattle.sfv_model.specs.Members.{entry_at, member_value_at, keyed_at}
use Rattle.sfv_model.specs.Reader.{Answer, Apart, visited, and_then, give, ◌>>=◌, bind, led, led_answer, many, branch}
use Rattle.sfv_model.{specs.Reader.go_on, proofs.complete.Bare.bare_complete}
use Rattle.sfv_model.proofs.complete.Combinators.{Apart-nil, Apart-cons, branch_past, branch_take, bind_complete}
use Rattle.sfv_model.proofs.complete.Items.{token_apart, parameter_complete, lengthens, key_complete, item_no}
use Rattle.sfv_model.proofs.complete.{Items.{key_apart, equals_apart}, Members.{items_complete, inner_parts}}
use Rattle.sfv_model.proofs.sound.{Combinators.{Begins, begins_after, begins_longer}, Items.Consumes-parameter}
use Rattle.sfv_model.proofs.{sound.Many.many_is, texts.Joining.joining_none, visits.EventsBeforeRuleAlike.begins_all}
use Rattle.sfv.specs.Field.{BareValue, boolean, RawParameters, RawItem, RawMember, RawInnerList, item, inner_list}
use Rattle.sfv.specs.Field.{Version, TreeEvent, entry, keyed_entry, begins_item, begins_inner_list, bare_item}
use Rattle.sfv.specs.Field.{parameter, parameters_end, inner_list_end, parameters_events, member_events, entry_events}
use Rattle.sfv.{specs.Field.keyed_events, specs.Parsers.first_event, proofs.visits.Chained.put_events}

pub no_space : (q : List ℕ) → Apart is_space_or_tab q → Apart is_space q
no_space q h = record { apart = λ c e. (or_parts (is_space c) (eqb c tab) (h.apart c e)).0 }

-- ---- the first event of each kind of member

led_events : {A : Type 0} (es : List TreeEvent) (parts few : A → List TreeEvent) (a : Answer A)
    → ((v : A) → parts v ≡ es ++ few v) → visited parts (led_answer es a) ≡ es ++ visited few a
led_events es parts few (Ok x) each = each x.0
led_events es parts few (Err e) each = refl

-- a list member, before it is read
entry_told : (version : Version) (t : List ℕ)
    → visited entry_events (entry_at version t) ≡ entry ∷ visited member_events (member_at version t)
unfolding entry_at led
entry_told version t = led_events (entry ∷ []) entry_events member_events (member_at version t) (λ m. refl)

key_read : (version : Version) (key t q : List ℕ) → IsKeyText key t → Apart is_key_inner q
    → keyed_at version (t ++ q) ≡ led (keyed_entry key ∷ []) (member_value_at version >>= λ m. give (key, m)) q
unfolding keyed_at
key_read version key t q k h = bind_complete _ _ _ _ _ (key_complete key t q k h)

-- a dictionary member, after its key
pub keyed_told : (version : Version) (key t q : List ℕ) → IsKeyText key t → Apart is_key_inner q
    → visited keyed_events (keyed_at version (t ++ q))
    ≡ keyed_entry key ∷ visited member_events (member_value_at version q)
unfolding led bind give
keyed_told version key t q k h = ap (visited keyed_events) (key_read _ _ _ _ k h) ∙ on (member_value_at version q)
  where
    on : (a : Answer RawMember)
        → visited keyed_events (led_answer (keyed_entry key ∷ []) (and_then a (λ m. give (key, m))))
        ≡ keyed_entry key ∷ visited member_events a
    on (Ok x) = refl
    on (Err e) = refl

-- ---- parameters

none_of : (class : ℕ → Bool) (bytes : List ℕ) (c : ℕ) → list_all (λ b. not (class b)) bytes ≡ true
    → is_one_of bytes c ≡ true → class c ≡ false
none_of class [] c h e = absurd (true≢false (sym e))
none_of class (b ∷ bytes) c h e =
    let p = and_parts (not (class b)) (list_all (λ b. not (class b)) bytes) h in
    elim (or_cases (b == c) (is_one_of bytes c) e) as (λ x. class c ≡ false) [
      | inl i ↦ ap class (sym (eqb-true b c i)) ∙ not-true (class b) p.0
      | inr i ↦ none_of class bytes c p.1 i
    ]

-- no byte of this class ends a bare item
pub ended_of : (class : ℕ → Bool) (q : List ℕ) → list_all (λ b. not (class b)) (codes "; \t,)") ≡ true → IsEnded q
    → Apart class q
ended_of class [] none ended = Apart-nil class
ended_of class (c ∷ q) none ended = Apart-cons class c q (none_of class (codes "; \t,)") c none ended)

-- a dictionary member of this key, with nothing after it
pub true_of_key : (version : Version) (key t : List ℕ) → IsKeyText key t
    → IsDictionaryMemberText version (key, true_with []) t
true_of_key version key t k = record {
  front = t;
  back = [];
  text = sym (append-nil t);
  first = k;
  second = inr ([], refl, joining_none (IsParameterText version));
}

abbrev Given : RawParameters → List TreeEvent
Given ps = flat_map parameter_event ps

abbrev pub Pairs : RawParameters → List TreeEvent
Pairs ps = map (λ p. parameter p.0 p.1) ps

given_is : (ps : RawParameters) → Given ps ≡ Pairs ps
given_is [] = refl
given_is (p ∷ ps) = ap (λ (l : List TreeEvent). parameter p.0 p.1 ∷ l) (given_is ps)

one_more : (version : Version) (p : List ℕ × BareValue) (t q : List ℕ) → parameter_at version t ≡ Ok (Some p, q)
    → visited Given (parameters_at version t) ≡ parameter_event p ++ visited Given (parameters_at version q)
unfolding parameters_at bind led
one_more version p t q e = ap (visited Given) (many_is parameter_event (parameter_at version)
    (Consumes-parameter version) t ∙ ap (λ a. and_then a (go_on parameter_event (many parameter_event
    (parameter_at version)))) e) ∙ put_events parameter_event p (many parameter_event (parameter_at version) q)

-- parameters, whatever follows them
parameters_told : (version : Version) (ps : RawParameters) (t q : List ℕ) → IsParametersText version ps t
    → Apart lengthens q → Begins (visited Given (parameters_at version (t ++ q))) (Given ps) × Apart lengthens (t ++ q)
parameters_told version [] t q i h =
    (begins_all _, subst (λ (l : List ℕ). Apart lengthens (l ++ q)) (sym (joining-nil i)) h)
parameters_told version (p ∷ ps) t q i h =
    let j = joining-cons i in
    let more = parameters_told version ps j.back q j.second h in
    let one = parameter_complete version p j.front (j.back ++ q) j.first more.1 in
    let all : t ++ q ≡ j.front ++ (j.back ++ q) =
    ap (λ (l : List ℕ). l ++ q) j.text ∙ append_assoc j.front j.back q in (
      subst (λ (l : List ℕ). Begins (visited Given (parameters_at version l)) (Given (p ∷ ps)))
          (sym all) (subst (λ (l : List TreeEvent). Begins l (Given (p ∷ ps))) (sym (one_more version p
          (j.front ++ (j.back ++ q)) (j.back ++ q) one.0)) (begins_after (parameter_event p) _ (Given ps) more.0)),
      subst (Apart lengthens) (sym all) one.1,
    )

-- parameters, with these events before them
given_after : (es : List TreeEvent) (ps : RawParameters) (a : Answer RawParameters) → Begins (visited Given a)
    (Given ps) → Begins (visited (λ qs. es ++ parameters_events qs) (led_answer es a)) (es ++ Pairs ps)
given_after es ps (Ok x) b = begins_after _ _ _ (subst (λ (l : List TreeEvent). Begins (parameters_events x.0) l)
    (given_is _) (begins_longer _ _ _ (subst (λ (l : List TreeEvent). Begins l (Given ps)) (given_is _) b)))
given_after es ps (Err e) b = begins_after _ _ _ (subst (λ (l : List TreeEvent). Begins e.events l) (given_is _) b)

-- ---- items

item_read : (version : Version) (i : RawItem) (t q : List ℕ) (h : IsItemText version i t)
    → Apart is_token_inner (h.back ++ q) → item_at version (t ++ q) ≡ led (bare_item i.bare ∷ [])
    (parameters_at version >>= λ ps. give (item_of i.bare ps)) (h.back ++ q)
unfolding item_at
item_read version i t q h f = ap (item_at version) (ap (λ (l : List ℕ). l ++ q) h.text ∙ append_assoc h.front h.back q)
    ∙ bind_complete _ _ _ _ _ (bare_complete version i.bare h.front (h.back ++ q) h.first f)

-- an item up to these parameters, whatever follows them
pub item_told : (version : Version) (i : RawItem) (t q : List ℕ) → IsItemText version i t → IsEnded q
    → Begins (visited item_events (item_at version (t ++ q))) (bare_item i.bare ∷ Pairs i.parameters)
unfolding led bind give
item_told version i t q h ended =
    let ps = parameters_told _ _ _ _ h.second (ended_of _ _ refl ended) in
    subst (λ a. Begins (visited item_events a) (bare_item i.bare ∷ Pairs i.parameters)) (sym (item_read _ i t q h
    (token_apart _ ps.1))) (on (parameters_at version (h.back ++ q)) (given_after (bare_item i.bare ∷ []) _ _ ps.0))
  where
    on : (a : Answer RawParameters)
        → Begins (visited (λ qs. (bare_item i.bare ∷ []) ++ parameters_events qs)
        (led_answer (bare_item i.bare ∷ []) a))
        (bare_item i.bare ∷ Pairs i.parameters)
        → Begins (visited item_events
        (led_answer (bare_item i.bare ∷ []) (and_then a (λ ps. give (item_of i.bare ps)))))
        (bare_item i.bare ∷ Pairs i.parameters)
    on (Ok x) b = b
    on (Err e) b = b

-- an item of an inner list
pub inner_item_told : (version : Version) (i : RawItem) (t q : List ℕ) → IsItemText version i t → IsEnded q
    → Begins (visited inner_item_events (inner_item_at version (t ++ q)))
    (begins_item ∷ bare_item i.bare ∷ Pairs i.parameters)
unfolding inner_item_at led
inner_item_told version i t q h ended =
    let told = item_told version i t q h ended in (
      told.0,
      led_events (begins_item ∷ []) inner_item_events item_events (item_at version (t ++ q)) (λ i. refl)
          ∙ ap (λ (l : List TreeEvent). begins_item ∷ l) told.1,
    )

-- ---- the items of an inner list, with the closing parenthesis

-- ---- members

-- the events of a member before the end of its parameters
abbrev pub open_events : RawMember → List TreeEvent
open_events (item i) = begins_item ∷ bare_item i.bare ∷ Pairs i.parameters
open_events (inner_list l) = begins_inner_list ∷ (closed_events l.items ++ Pairs l.parameters)

pub member_open : (m : RawMember) → member_events m ≡ open_events m ++ parameters_end ∷ []
member_open (item i) = refl
member_open (inner_list l) = ap (λ (l : List TreeEvent). begins_inner_list ∷ l)
    (sym (ap (λ (x : List TreeEvent). x ++ parameters_end ∷ []) (append_assoc (flat_map inner_item_events l.items)
    (inner_list_end ∷ []) (Pairs l.parameters))
    ∙ append_assoc (flat_map inner_item_events l.items) (inner_list_end ∷ Pairs l.parameters) (parameters_end ∷ [])))

-- an item that is a member
item_begins : (a : Answer RawItem)
    → visited member_events (led_answer (begins_item ∷ []) (and_then a (λ i. give (item i))))
    ≡ begins_item ∷ visited item_events a
unfolding give
item_begins (Ok x) = refl
item_begins (Err e) = refl

-- an inner list
list_told : (version : Version) (l : RawInnerList) (t q : List ℕ) → IsMemberText version (inner_list l) t → IsEnded q
    → Begins (visited member_events (member_at version (t ++ q))) (open_events (inner_list l))
unfolding member_at inner_at led bind give
list_told version l t q h ended =
    let p = inner_parts _ _ _ _ h in
    let all : t ++ q ≡ left_parenthesis ∷ (p.items ++ (p.rest ++ q)) =
    ap (λ (l : List ℕ). l ++ q) p.text ∙ ap (λ (l : List ℕ). left_parenthesis ∷ l) (append_assoc p.items p.rest q) in
    let ps = parameters_told _ _ _ _ p.are_parameters (ended_of _ _ refl ended) in
    subst (λ a. Begins (visited member_events a) (open_events (inner_list l))) (sym (ap (member_at version) all
    ∙ branch_take _ _ _ _ _ refl ∙ ap (λ a. led_answer (begins_inner_list ∷ []) (and_then a (λ is. led
    (closed_events is) (parameters_at version >>= λ ps. give (inner_of is ps))))) (items_complete _ _ _ _ p.are_items)))
    (on (parameters_at version (p.rest ++ q)) (given_after (begins_inner_list ∷ closed_events l.items) _ _ ps.0))
  where
    on : (a : Answer RawParameters)
        → Begins (visited (λ qs. (begins_inner_list ∷ closed_events l.items) ++ parameters_events qs)
        (led_answer (begins_inner_list ∷ closed_events l.items) a)) (open_events (inner_list l))
        → Begins (visited member_events (led_answer (begins_inner_list ∷ [])
        (led_answer (closed_events l.items) (and_then a (λ ps. give (inner_of l.items ps))))))
        (open_events (inner_list l))
    on (Ok x) b = (
      b.0,
      ap (λ (y : List TreeEvent). begins_inner_list ∷ y)
          (sym (append_assoc (flat_map inner_item_events l.items) (inner_list_end ∷ []) (parameters_events x.0))) ∙ b.1,
    )
    on (Err e) b = b

-- a member up to these parameters, whatever follows them
pub member_told : (version : Version) (m : RawMember) (t q : List ℕ) → IsMemberText version m t → IsEnded q
    → Begins (visited member_events (member_at version (t ++ q))) (open_events m)
unfolding member_at led bind give
member_told version (item i) t q h ended =
    let told = item_told version i t q h ended in (
      told.0,
      ap (visited member_events) (branch_past _ _ _ (t ++ q) (item_no left_parenthesis version i t q refl h))
          ∙ item_begins (item_at version (t ++ q)) ∙ ap (λ (l : List TreeEvent). begins_item ∷ l) told.1,
    )
member_told version (inner_list l) t q h ended = list_told version l t q h ended

-- a dictionary member after its key, up to these parameters; the bare item may be omitted
pub value_told : (version : Version) (m : RawMember) (t q : List ℕ) → IsMemberValueText version m t → IsEnded q
    → Begins (visited member_events (member_value_at version (t ++ q))) (open_events m) × Apart is_key_inner (t ++ q)
unfolding member_value_at led bind give
value_told version m t q (inl h) ended =
    let all : t ++ q ≡ equals_sign ∷ (h.back ++ q) =
    ap (λ (l : List ℕ). l ++ q) (h.text ∙ ap (λ (l : List ℕ). l ++ h.back) h.first) in (
      subst (λ a. Begins (visited member_events a) (open_events m)) (sym (ap (member_value_at version) all
          ∙ branch_take _ _ _ equals_sign (h.back ++ q) refl)) (member_told version m h.back q h.second ended),
      subst (Apart is_key_inner) (sym all) (Apart-cons is_key_inner equals_sign (h.back ++ q) refl),
    )
value_told version m t q (inr h) ended =
    let ps = parameters_told version h.0 t q h.2 (ended_of lengthens q refl ended) in
    let is : open_events m ≡ begins_item ∷ bare_item (boolean true) ∷ Pairs h.0 = ap open_events h.1 in (
      subst (λ a. Begins (visited member_events a) (open_events m))
          (sym (branch_past _ _ _ (t ++ q) (equals_apart (t ++ q) ps.1))) (subst (λ (l : List TreeEvent). Begins
          (visited member_events (led_answer (begins_item ∷ bare_item (boolean true) ∷ [])
          (and_then (parameters_at version (t ++ q)) (λ ps. give (true_with ps))))) l) (sym is) (on h.0
          (parameters_at version (t ++ q)) (given_after (begins_item ∷ bare_item (boolean true) ∷ []) h.0 _ ps.0))),
      key_apart (t ++ q) ps.1,
    )
  where
    on : (ps : RawParameters) (a : Answer RawParameters)
        → Begins (visited (λ qs. (begins_item ∷ bare_item (boolean true) ∷ []) ++ parameters_events qs)
        (led_answer (begins_item ∷ bare_item (boolean true) ∷ []) a))
        (begins_item ∷ bare_item (boolean true) ∷ Pairs ps)
        → Begins (visited member_events (led_answer (begins_item ∷ bare_item (boolean true) ∷ [])
        (and_then a (λ ps. give (true_with ps)))))
        (begins_item ∷ bare_item (boolean true) ∷ Pairs ps)
    on ps (Ok x) b = b
    on ps (Err e) b = b

-- an inner list with its items
inner_begins : (version : Version) (u : List ℕ)
    → Begins (visited member_events (led_answer (begins_inner_list ∷ []) (inner_at version u)))
    (begins_inner_list ∷ visited (λ is. flat_map inner_item_events is) (inner_items_at version u))
unfolding inner_at bind led give
inner_begins version u = on (inner_items_at version u)
  where
    closed : (is : List RawItem) (a : Answer RawParameters)
        → Begins (visited member_events (led_answer (begins_inner_list ∷ []) (led_answer (closed_events is)
        (and_then a (λ ps. give (inner_of is ps)))))) (begins_inner_list ∷ flat_map inner_item_events is)
    closed is (Ok x) = (inner_list_end ∷ parameters_events x.0, refl)
    closed is (Err e) = (
      inner_list_end ∷ e.events,
      ap (λ (l : List TreeEvent). begins_inner_list ∷ l)
          (append_assoc (flat_map inner_item_events is) (inner_list_end ∷ []) e.events),
    )

    on : (a : Answer (List RawItem))
        → Begins (visited member_events (led_answer (begins_inner_list ∷ []) (and_then a (λ is. led (closed_events is)
        (parameters_at version >>= λ ps. give (inner_of is ps))))))
        (begins_inner_list ∷ visited (λ is. flat_map inner_item_events is) a)
    on (Ok x) = closed x.0 (parameters_at version x.1)
    on (Err e) = ([], sym (append-nil (begins_inner_list ∷ e.events)))

-- an inner list from its opening parenthesis
pub open_told : (version : Version) (u : List ℕ)
    → Begins (visited member_events (member_at version (left_parenthesis ∷ u)))
    (begins_inner_list ∷ visited (λ is. flat_map inner_item_events is) (inner_items_at version u))
unfolding member_at led
open_told version u = subst (λ a. Begins (visited member_events a)
    (begins_inner_list ∷ visited (λ is. flat_map inner_item_events is) (inner_items_at version u)))
    (sym (branch_take _ _ _ left_parenthesis u refl)) (inner_begins version u)

-- the first event of a member
pub first_told : (version : Version) (t : List ℕ)
    → Begins (visited member_events (member_at version t)) (first_event t ∷ [])
unfolding member_at branch led bind give
first_told version [] = (_, item_begins (item_at version []))
first_told version (c ∷ t) = elim (cases_Bool (c == left_parenthesis)) [
  | inl e ↦ rw e (_, (inner_begins version t).1)
  | inr e ↦ rw e (_, item_begins (item_at version (c ∷ t)))
]

-- ---- list members and dictionary members, with their first event

pub entry_begins : (version : Version) (t : List ℕ) (first : List TreeEvent)
    → Begins (visited member_events (member_at version t)) first
    → Begins (visited entry_events (entry_at version t)) (entry ∷ first)
entry_begins version t first b = (b.0, entry_told version t ∙ ap (λ (l : List TreeEvent). entry ∷ l) b.1)

pub keyed_begins : (version : Version) (key t q : List ℕ) (first : List TreeEvent) → IsKeyText key t
    → Apart is_key_inner q → Begins (visited member_events (member_value_at version q)) first
    → Begins (visited keyed_events (keyed_at version (t ++ q))) (keyed_entry key ∷ first)
keyed_begins version key t q first k h b =
    (b.0, keyed_told version key t q k h ∙ ap (λ (l : List TreeEvent). keyed_entry key ∷ l) b.1)
