-- The events of a field that are visited before its text continues, and before its last inner list is closed.
use Rattle.std.proofs.Common.{◌≡◌, ℕ, ◌≤◌, Bool, eqb, true, false, List, [], ◌∷◌, ◌++◌, length, Some, Ok, Err, refl}
use Rattle.std.proofs.Common.{sym, ap, subst, ◌∙◌, append_assoc, arith, inl, inr, ◌⊎◌, append-nil, length-append}
use Rattle.std.proofs.Common.{eqb-true, true≢false, IsTrue, IsFalse, flat_map, not, ◌||◌, codes}
use Rattle.std.proofs.lemmas.{Bool.{or_cases, or_parts, not-true, cases_Bool}, List.append_cancel_right}
use Rattle.sfv_spec.specs.Classes.{is_key_inner}
use Rattle.sfv_spec.specs.Events.{TreeEvent, entry, keyed_entry, begins_item, begins_inner_list, bare_item, parameter}
use Rattle.sfv_spec.specs.Events.{parameters_end, parameters_events, inner_list_end, item_events, inner_item_events}
use Rattle.sfv_spec.specs.Events.{member_events, entry_events, keyed_events, events}
use Rattle.sfv_spec.specs.Grammar.{Spaces, Comma, IsKeyText, IsEnded, IsItemText, AreInnerItemsText, IsMemberText}
use Rattle.sfv_spec.specs.Grammar.{IsDictionaryMemberText, IsMemberValueText, AreMembersText, IsFieldText, IsAccepted}
use Rattle.sfv_spec.specs.Texts.{RunOf, begins_with, ◌⨾◌, IsJoining, IsSeparated}
use Rattle.sfv_spec.specs.Values.{boolean, RawParameters, RawItem, RawMember, item, inner_list, RawField}
use Rattle.sfv_spec.proofs.Bare.{is_bare_start}
use Rattle.sfv_spec.proofs.Marks.{comma, space, tab, equals_sign, semicolon, left_parenthesis, right_parenthesis}
use Rattle.sfv_spec.proofs.Marks.{true_with, is_space, is_space_or_tab, SomeSpaces}
use Rattle.sfv_spec.proofs.Settled.{joining-nil, joining-cons}
use Rattle.sfv_model.specs.{Fields.{next_at, members_at, whole_field_at}, Items.{parameters_at, item_at}}
use Rattle.sfv_model.specs.Members.{inner_item_at, next_item_at, inner_items_at, inner_of, member_at, entry_at}
use Rattle.sfv_model.specs.Members.{member_value_at, keyed_at}
use Rattle.sfv_model.specs.Reader.{Answer, Reader, Apart, visited, and_then, give, ◌>>=◌, bind, one_and_more, byte}
use Rattle.sfv_model.specs.Reader.{span, led, led_answer}
use Rattle.sfv_model.proofs.complete.Combinators.{Apart-nil, Apart-cons, branch_past, branch_take, ahead_take}
use Rattle.sfv_model.proofs.complete.{Combinators.{ahead_any, bind_complete, span_complete}, Fields.comma_ends}
use Rattle.sfv_model.proofs.complete.Items.{lengthens, lengthens_item, blank_ends, space_ends, item_no, item_begun}
use Rattle.sfv_model.proofs.complete.Items.{item_complete, begun_some}
use Rattle.sfv_model.proofs.complete.Members.{inner_item_complete, entry_complete, entry_fresh, keyed_complete}
use Rattle.sfv_model.proofs.{complete.Members.keyed_fresh, faults.BetweenInnerItems.open_longer}
use Rattle.sfv_model.proofs.sound.Combinators.{Begins, Reads, Goes, begins_after, run_head, run_tail, Steady-span}
use Rattle.sfv_model.proofs.sound.Members.{Consumes-next_item, Sound-entry, Sound-keyed}
use Rattle.sfv_model.proofs.sound.Separated.{Consumes-next, comma_complete}
use Rattle.sfv_model.proofs.texts.Joining.{in_turn, events_push, joining_none, joining_into}
use Rattle.sfv_model.proofs.visits.EventsBeforeRuleAlike.{begins_all, begins_trans}
use Rattle.sfv.specs.Parsers.{first_event, IsBeforeMember, BeginsMember, list_member, dictionary_key, dictionary_value}
use Rattle.sfv.specs.{Parsers.AreBefore, Types.{FieldKind, item_field, list_field, dictionary_field, Version}}
use Rattle.sfv.proofs.visits.Begun.{no_space, ended_of, Pairs, item_told, inner_item_told, open_events, member_open}
use Rattle.sfv.proofs.visits.Begun.{member_told, value_told, open_told, first_told, entry_begins, keyed_begins}
use Rattle.sfv.proofs.visits.{Begun.true_of_key, Chained.{Parted, parted_of, fresh_after, each_begun}}

-- ---- what may follow

-- blanks, and a text that may follow a bare item
ended_behind : (b q : List ℕ) → RunOf is_space_or_tab b → IsEnded q → IsEnded (b ++ q)
ended_behind [] q each ended = ended
ended_behind (c ∷ b) q each ended = elim (or_cases (is_space c) (eqb c tab) (run_head is_space_or_tab c b each)) [
  | inl e ↦ rw (eqb-true c space e) refl
  | inr e ↦ rw (eqb-true c tab e) refl
]

apart_behind : (b q : List ℕ) → RunOf is_space_or_tab b → Apart lengthens_item q → Apart lengthens_item (b ++ q)
apart_behind [] q each h = h
apart_behind (c ∷ b) q each h = blank_ends c (b ++ q) (run_head is_space_or_tab c b each)

spaces_blank : (s : List ℕ) → RunOf is_space s → RunOf is_space_or_tab s
spaces_blank [] each = refl
spaces_blank (c ∷ s) each = rw (run_head is_space c s each) (spaces_blank s (run_tail is_space c s each))

-- all events come before the text, or all but the end of the parameters
before_cases : (all es : List TreeEvent) (t : List ℕ) → AreBefore all es t
    → ((es ≡ all) × Apart lengthens_item t) ⊎ (all ≡ es ++ parameters_end ∷ [])
before_cases all es [] h = inl (sym (h.1 ∙ append-nil es), Apart-nil lengthens_item)
before_cases all es (c ∷ t) h = elim (cases_Bool (eqb c semicolon)) [
  | inl e ↦ inr (rw e at h.1)
  | inr e ↦
      let same : all ≡ es ++ [] = rw e at h.1 in
      let none : lengthens c ≡ false = (ended_of lengthens (c ∷ t) refl h.0).apart c refl in
      inl (sym (same ∙ append-nil es), Apart-cons lengthens_item c t (rw (none, e) refl))
]

-- ---- events

snoc_same : {A : Type 0} (xs ys : List A) (x y : A) → xs ++ x ∷ [] ≡ ys ++ y ∷ [] → xs ≡ ys
snoc_same [] [] x y e = refl
snoc_same [] (b ∷ ys) x y e = absurd (omega (arith, ap length e, length-append ys (y ∷ [])))
snoc_same (a ∷ xs) [] x y e = absurd (omega (arith, ap length e, length-append xs (x ∷ [])))
snoc_same (a ∷ xs) (b ∷ ys) x y e =
    let rest : xs ++ x ∷ [] ≡ ys ++ y ∷ [] = cc in
    let same : a ≡ b = cc in
    cc (snoc_same xs ys x y rest)

abbrev is_list_end : TreeEvent → Bool
is_list_end inner_list_end = true
is_list_end _ = false

-- the last event of e ∷ es ends the items of an inner list
abbrev last_is : TreeEvent → List TreeEvent → Bool
last_is e [] = is_list_end e
last_is e (f ∷ es) = last_is f es

last_after : (e f : TreeEvent) (xs ys : List TreeEvent) → last_is e (xs ++ f ∷ ys) ≡ last_is f ys
last_after e f [] ys = refl
last_after e f (x ∷ xs) ys = last_after x f xs ys

last_of_pairs : (e : TreeEvent) (ps : RawParameters) → is_list_end e ≡ false → last_is e (Pairs ps) ≡ false
last_of_pairs e [] h = h
last_of_pairs e (p ∷ ps) h = last_of_pairs (parameter p.0 p.1) ps refl

-- after the end of an inner list, its parameters come last, or there are none
not_last : (before after : List TreeEvent) (e : TreeEvent) (ps : RawParameters) → is_list_end e ≡ false
    → ¬ (before ++ (e ∷ (Pairs ps ++ parameters_end ∷ [])) ≡ after ++ inner_list_end ∷ parameters_end ∷ [])
not_last before after e ps none same =
    let cut : before ++ e ∷ Pairs ps ≡ after ++ inner_list_end ∷ [] = append_cancel_right (before ++ e ∷ Pairs ps)
    (after ++ inner_list_end ∷ []) (parameters_end ∷ []) (append_assoc before (e ∷ Pairs ps) (parameters_end ∷ [])
    ∙ same ∙ sym (append_assoc after (inner_list_end ∷ []) (parameters_end ∷ []))) in
    true≢false (sym (last_after e inner_list_end after []) ∙ ap (last_is e) (sym cut)
    ∙ last_after e e before (Pairs ps) ∙ last_of_pairs e ps none)

-- a member with these last events is an inner list without parameters
closed_member : (m : RawMember) (before after : List TreeEvent)
    → before ++ member_events m ≡ after ++ inner_list_end ∷ parameters_end ∷ []
    → (is : List RawItem) × (m ≡ inner_of is [])
closed_member (item i) before after e = absurd (not_last (before ++ begins_item ∷ []) after (bare_item i.bare)
    i.parameters refl (append_assoc before (begins_item ∷ []) (item_events i) ∙ e))
closed_member (inner_list l) before after e = on l.parameters refl
  where
    regroup : (es : List TreeEvent) (ps : RawParameters)
        → (before ++ (begins_inner_list ∷ (es ++ inner_list_end ∷ []))) ++ (Pairs ps ++ parameters_end ∷ [])
        ≡ before ++ (begins_inner_list ∷ (es ++ (inner_list_end ∷ (Pairs ps ++ parameters_end ∷ []))))
    regroup es ps = simp append_assoc

    on : (ps : RawParameters) → l.parameters ≡ ps → (is : List RawItem) × (inner_list l ≡ inner_of is [])
    on [] same = (l.items, ap (inner_of l.items) same)
    on (p ∷ ps) same = absurd (not_last
        (before ++ (begins_inner_list ∷ (flat_map inner_item_events l.items ++ inner_list_end ∷ []))) after
        (parameter p.0 p.1) ps refl (regroup (flat_map inner_item_events l.items) (p ∷ ps)
        ∙ subst (λ ps. before ++ member_events (inner_of l.items ps) ≡ after ++ inner_list_end ∷ parameters_end ∷ [])
        same e))

-- ---- texts

run_last : (t : List ℕ) → ¬ RunOf is_space_or_tab (t ++ right_parenthesis ∷ [])
run_last [] each = true≢false (sym each)
run_last (c ∷ t) each = run_last t (run_tail is_space_or_tab c (t ++ right_parenthesis ∷ []) each)

-- no blanks follow a parenthesis at the end of a text
cut_text : (a t b : List ℕ) → RunOf is_space_or_tab b → a ++ right_parenthesis ∷ b ≡ t ++ right_parenthesis ∷ []
    → (b ≡ []) × (a ≡ t)
cut_text [] [] b each e = (cc, refl)
cut_text [] (c ∷ t) b each e =
    let rest : b ≡ t ++ right_parenthesis ∷ [] = cc in
    absurd (run_last t (subst (RunOf is_space_or_tab) rest each))
cut_text (c ∷ a) [] b each e = absurd (omega (arith, ap length e, length-append a (right_parenthesis ∷ b)))
cut_text (c ∷ a) (d ∷ t) b each e =
    let rest : a ++ right_parenthesis ∷ b ≡ t ++ right_parenthesis ∷ [] = cc in
    let same : c ≡ d = cc in
    let on = cut_text a t b each rest in
    (on.0, cc (on.1))

-- ---- the items of an open inner list

abbrev Flat : List RawItem → List TreeEvent
Flat is = flat_map inner_item_events is

abbrev IsItemStart : List ℕ → Type 0
IsItemStart t = Apart is_space t × Apart (byte right_parenthesis) t

item_start : (version : Version) (i : RawItem) (t q : List ℕ) → IsItemText version i t → IsItemStart (t ++ q)
item_start version i t q h = (item_no space version i t q refl h, item_no right_parenthesis version i t q refl h)

spaces_part : (c y : List ℕ) → SomeSpaces c → Apart lengthens_item (c ++ y)
spaces_part c y h = subst (λ (l : List ℕ). Apart lengthens_item (l ++ y))
    (sym (h.text ∙ ap (λ (l : List ℕ). l ++ h.back) h.first)) (space_ends (h.back ++ y))

next_item_is : (version : Version) (c y : List ℕ) → SomeSpaces c → IsItemStart y
    → next_item_at version (c ++ y) ≡ (inner_item_at version >>= λ i. give (Some i)) y
unfolding next_item_at
next_item_is version c y h f = ap (λ (l : List ℕ). next_item_at version (l ++ y))
    (h.text ∙ ap (λ (l : List ℕ). l ++ h.back) h.first) ∙ branch_take _ _ _ space (h.back ++ y) refl
    ∙ bind_complete _ _ _ _ _ (span_complete is_space h.back y h.second f.0) ∙ branch_past _ _ _ y f.1

-- the events of these items before any text q that may follow them: all, or all but the last
pub record ItemsTold (version : Version) (is : List RawItem) (t : List ℕ) : Type 0 where
  pub most : List TreeEvent
  pub last : TreeEvent
  pub all : begins_inner_list ∷ Flat is ≡ most ++ last ∷ []
  pub begun : (q : List ℕ) → IsEnded q
      → Begins (visited member_events (member_at version (left_parenthesis ∷ (t ++ q)))) most
  pub whole : (q : List ℕ) → IsEnded q → Apart lengthens_item q
      → Begins (visited member_events (member_at version (left_parenthesis ∷ (t ++ q)))) (begins_inner_list ∷ Flat is)
  -- all before any text, or the last item can get one more parameter
  pub settled : ((q : List ℕ) → Begins (visited member_events (member_at version (left_parenthesis ∷ (t ++ q))))
      (begins_inner_list ∷ Flat is)) ⊎ ((js : List RawItem)
      × IsMemberText version (inner_of js []) ((left_parenthesis ∷ (t ++ codes ";a")) ++ codes ")"))

items_begun : (version : Version) (i : RawItem) (is : List RawItem) (s t q : List ℕ) → Spaces s
    → (o : Parted SomeSpaces (IsItemText version) (i ∷ is) t)
    → Begins (visited Flat (inner_items_at version (s ++ (t ++ q))))
    (Flat o.init ++ visited inner_item_events (inner_item_at version (o.back ++ q)))
unfolding inner_items_at
items_begun version i is s t q blank o =
    let rest : List ℕ = o.back ++ q in
    let start = fresh_after (IsItemText version) SomeSpaces IsItemStart inner_item_events (inner_item_at version)
    (next_item_at version) (Consumes-next_item version) (inner_item_complete version) (item_start version) spaces_part
    (next_item_is version) o.init o.front rest o.each (item_start version o.last o.back q o.end) in
    let some : 1 ≤ length rest = begun_some is_bare_start rest (item_begun version o.last o.back q o.end) in
    let text : s ++ (t ++ q) ≡ s ++ (o.front ++ rest) =
    ap (λ (l : List ℕ). s ++ l) (ap (λ (l : List ℕ). l ++ q) o.text ∙ append_assoc o.front o.back q) in
    let read : inner_items_at version (s ++ (t ++ q))
    ≡ one_and_more inner_item_events (inner_item_at version) (next_item_at version) (o.front ++ rest) =
    ap (inner_items_at version) text
    ∙ ahead_any _ _ (s ++ (o.front ++ rest)) (omega (arith, some, length-append {A = ℕ})) ∙ bind_complete _ _ _ _ _
    (span_complete is_space s (o.front ++ rest) blank start.0) ∙ branch_past _ _ _ (o.front ++ rest) start.1 in
    subst (λ a. Begins (visited Flat a) (Flat o.init ++ visited inner_item_events (inner_item_at version rest)))
    (sym read) (each_begun (IsItemText version) SomeSpaces IsItemStart inner_item_events (inner_item_at version)
    (next_item_at version) (Consumes-next_item version) (inner_item_complete version) (item_start version) spaces_part
    (next_item_is version) o.init o.front rest o.each (item_start version o.last o.back q o.end))

items_told : (version : Version) (is : List RawItem) (s t : List ℕ) → Spaces s → AreInnerItemsText version is t
    → ItemsTold version is (s ++ t)
items_told version [] s t blank h = record {
  most = [];
  last = begins_inner_list;
  all = refl;
  begun = λ q ended. begins_all _;
  whole = λ q ended apart. (_, (open_told version ((s ++ t) ++ q)).1);
  settled = inl (λ q. (_, (open_told version ((s ++ t) ++ q)).1));
}
items_told version (i ∷ is) s t blank h = record {
  most = begins_inner_list ∷ (Flat o.init ++ part);
  last = parameters_end;
  all = ap (λ (l : List TreeEvent). begins_inner_list ∷ l) (all
      ∙ sym (append_assoc (Flat o.init) part (parameters_end ∷ [])));
  begun = λ q ended. told q part (inner_item_told _ _ _ _ o.end (ended_behind _ _ blanks ended));
  whole = λ q ended apart. subst (λ (l : List TreeEvent).
      Begins (visited member_events (member_at version (left_parenthesis ∷ ((s ++ t) ++ q)))) (begins_inner_list ∷ l))
      (sym all) (told q (inner_item_events o.last) (
        [],
        ap (visited inner_item_events) (inner_item_complete _ _ _
            _ o.end (apart_behind _ _ blanks apart)) ∙ sym (append-nil (inner_item_events o.last)),
      ));
  settled = settle h.back refl;
}
  where
    o : Parted SomeSpaces (IsItemText version) (i ∷ is) h.front
    o = parted_of SomeSpaces (IsItemText version) i is h.front h.first

    part : List TreeEvent
    part = begins_item ∷ bare_item o.last.bare ∷ Pairs o.last.parameters

    blanks : RunOf is_space_or_tab h.back
    blanks = spaces_blank h.back h.second

    told : (q : List ℕ) (es : List TreeEvent)
        → Begins (visited inner_item_events (inner_item_at version (o.back ++ (h.back ++ q)))) es
        → Begins (visited member_events (member_at version (left_parenthesis ∷ ((s ++ t) ++ q))))
        (begins_inner_list ∷ (Flat o.init ++ es))
    told q es b =
        let text : (s ++ t) ++ q ≡ s ++ (h.front ++ (h.back ++ q)) =
        append_assoc s t q ∙ ap (λ (l : List ℕ). s ++ l) (ap (λ (l : List ℕ). l ++ q) h.text
        ∙ append_assoc h.front h.back q) in
        subst (λ (l : List ℕ). Begins (visited member_events (member_at version (left_parenthesis ∷ l)))
        (begins_inner_list ∷ (Flat o.init ++ es))) (sym text)
        (begins_trans _ _ (begins_inner_list ∷ (Flat o.init ++ es))
        (open_told version (s ++ (h.front ++ (h.back ++ q))))
        (begins_after (begins_inner_list ∷ []) _ _
        (begins_trans _ _ _ (items_begun version i is s h.front (h.back ++ q) blank o)
        (begins_after (Flat o.init) _ es b))))

    all : Flat (i ∷ is) ≡ Flat o.init ++ inner_item_events o.last
    all = ap Flat o.same ∙ sym (append-nil (Flat (o.init ++ o.last ∷ [])))
        ∙ events_push inner_item_events o.init o.last []
        ∙ ap (λ (l : List TreeEvent). Flat o.init ++ l) (append-nil (inner_item_events o.last))

    settle : (z : List ℕ) → h.back ≡ z → ((q : List ℕ)
        → Begins (visited member_events (member_at version (left_parenthesis ∷ ((s ++ t) ++ q))))
        (begins_inner_list ∷ Flat (i ∷ is)))
        ⊎ ((js : List RawItem)
        × IsMemberText version (inner_of js []) ((left_parenthesis ∷ ((s ++ t) ++ codes ";a")) ++ codes ")"))
    settle [] e =
        let l = open_longer version i is s h.front blank h.first in
        inr (
          l.0,
          subst (IsMemberText version (inner_of l.0 []))
              (ap (λ (x : List ℕ). (left_parenthesis ∷ x) ++ codes ")") (sym (append_assoc s h.front (codes ";a"))
              ∙ ap (λ (x : List ℕ). (s ++ x) ++ codes ";a")
              (sym (h.text ∙ ap (λ (x : List ℕ). h.front ++ x) e ∙ append-nil h.front)))) l.1,
        )
    settle (c ∷ z) e = inl (λ q. subst (λ (l : List TreeEvent).
        Begins (visited member_events (member_at version (left_parenthesis ∷ ((s ++ t) ++ q)))) (begins_inner_list ∷ l))
        (sym all) (told q (inner_item_events o.last) (
          [],
          ap (visited inner_item_events)
              (inner_item_complete version o.last o.back (h.back ++ q) o.end
              (subst (λ (x : List ℕ). Apart lengthens_item (x ++ q)) (sym e)
              (blank_ends c (z ++ q) (run_head is_space_or_tab c z (subst (RunOf is_space_or_tab) e blanks)))))
              ∙ sym (append-nil (inner_item_events o.last)),
        )))

-- ---- the last member of a field, with an open inner list

-- `t` is a text of `m` that ends with a parenthesis: the events before it, all or all but the last
pub record Unclosed {A : Type 0} (P : A → List ℕ → Type 0) (parts : A → List TreeEvent) (one : Reader A) (m : A)
    (t : List ℕ) : Type 0 where
  pub opened : List ℕ
  pub text : t ≡ opened ++ right_parenthesis ∷ []
  pub most : List TreeEvent
  pub last : TreeEvent
  pub all : parts m ≡ (most ++ last ∷ []) ++ inner_list_end ∷ parameters_end ∷ []
  pub fresh : (q : List ℕ) → Apart is_space_or_tab (opened ++ q) × (1 ≤ length (opened ++ q))
  pub begun : (q : List ℕ) → IsEnded q → Begins (visited parts (one (opened ++ q))) most
  pub whole : (q : List ℕ) → IsEnded q → Apart lengthens_item q
      → Begins (visited parts (one (opened ++ q))) (most ++ last ∷ [])
  pub settled : ((q : List ℕ) → Begins (visited parts (one (opened ++ q))) (most ++ last ∷ []))
      ⊎ ((n : A) × P n ((opened ++ codes ";a") ++ codes ")"))

-- an inner list without parameters, and the text between its parentheses
pub record OpenMember (version : Version) (is : List RawItem) (t : List ℕ) : Type 0 where
  pub own : List ℕ
  pub text : t ≡ left_parenthesis ∷ (own ++ right_parenthesis ∷ [])
  pub told : ItemsTold version is own

open_member : (version : Version) (is : List RawItem) (t : List ℕ) → IsMemberText version (inner_of is []) t
    → OpenMember version is t
open_member version is t h =
    let s = h.second in
    let z = s.second in
    let c = z.second in
    record {
      own = s.front ++ z.front;
      text = h.text ∙ ap (λ (l : List ℕ). l ++ h.back) h.first ∙ ap (λ (l : List ℕ). left_parenthesis ∷ l)
          (s.text ∙ ap (λ (l : List ℕ). s.front ++ l) (z.text ∙ ap (λ (l : List ℕ). z.front ++ l)
          (c.text ∙ ap (λ (l : List ℕ). c.front ++ l) (joining-nil c.second) ∙ append-nil c.front ∙ c.first))
          ∙ sym (append_assoc s.front z.front (right_parenthesis ∷ [])));
      told = items_told version is s.front z.front s.first z.first;
    }

open_entry : (version : Version) (m : RawMember) (t : List ℕ) (before after : List TreeEvent)
    → IsMemberText version m t → before ++ entry_events m ≡ after ++ inner_list_end ∷ parameters_end ∷ []
    → Unclosed (IsMemberText version) entry_events (entry_at version) m t
open_entry version m t before after h e =
    let c = closed_member _ _ _ (append_assoc before (entry ∷ []) (member_events m) ∙ e) in
    let o = open_member _ _ _ (subst (λ (m : RawMember). IsMemberText version m t) c.1 h) in
    record {
      opened = left_parenthesis ∷ o.own;
      text = o.text;
      most = entry ∷ o.told.most;
      last = o.told.last;
      all = ap entry_events c.1
          ∙ ap (λ (l : List TreeEvent). entry ∷ (l ++ inner_list_end ∷ parameters_end ∷ [])) o.told.all;
      fresh = λ q. (Apart-cons _ _ _ refl, omega arith);
      begun = λ q ended. entry_begins _ _ _ (o.told.begun q ended);
      whole = λ q ended apart. entry_begins _ _ _ (subst (Begins (visited member_events
          (member_at version (left_parenthesis ∷ (o.own ++ q))))) o.told.all (o.told.whole q ended apart));
      settled = elim o.told.settled [
        | inl k ↦ inl (λ q. entry_begins _ _ _
            (subst (Begins (visited member_events (member_at version (left_parenthesis ∷ (o.own ++ q))))) o.told.all (k q)))
        | inr l ↦ inr (inner_of l.0 [], l.1)
      ];
    }

value_begins : (version : Version) (u : List ℕ) (es : List TreeEvent)
    → Begins (visited member_events (member_at version u)) es
    → Begins (visited member_events (member_value_at version (equals_sign ∷ u))) es
unfolding member_value_at
value_begins version u es b = subst (λ a. Begins (visited member_events a) es) (sym (branch_take _ _ _ _ _ refl)) b

keyed_text : (version : Version) (key : List ℕ) (n : RawMember) (front t : List ℕ) → IsKeyText key front
    → IsMemberText version n t → IsDictionaryMemberText version (key, n) (front ++ equals_sign ∷ t)
keyed_text version key n front t h k = in_turn front (equals_sign ∷ t) h (inl (in_turn (equals_sign ∷ []) t refl k))

open_keyed : (version : Version) (m : List ℕ × RawMember) (t : List ℕ) (before after : List TreeEvent)
    → IsDictionaryMemberText version m t → before ++ keyed_events m ≡ after ++ inner_list_end ∷ parameters_end ∷ []
    → Unclosed (IsDictionaryMemberText version) keyed_events (keyed_at version) m t
open_keyed version m t before after h e = on h.second
  where
    c : (is : List RawItem) × (m.1 ≡ inner_of is [])
    c = closed_member m.1 (before ++ keyed_entry m.0 ∷ []) after
        (append_assoc before (keyed_entry m.0 ∷ []) (member_events m.1) ∙ e)

    on : IsMemberValueText version m.1 h.back
        → Unclosed (IsDictionaryMemberText version) keyed_events (keyed_at version) m t
    on (inr k) = let same : item (record { bare = boolean true; parameters = k.0 }) ≡ inner_of c.0 [] = sym k.1 ∙ c.1 in
        absurd cc
    on (inl g) =
        let o = open_member version c.0 g.back
        (subst (λ (m : RawMember). IsMemberText version m g.back) c.1 g.second) in
        let own : List ℕ = equals_sign ∷ left_parenthesis ∷ o.own in
        let starts : (q : List ℕ) (es : List TreeEvent)
        → Begins (visited member_events (member_at version (left_parenthesis ∷ (o.own ++ q)))) es
        → Begins (visited keyed_events (keyed_at version ((h.front ++ own) ++ q))) (keyed_entry m.0 ∷ es) =
        λ q es b. subst (λ (l : List ℕ). Begins (visited keyed_events (keyed_at version l)) (keyed_entry m.0 ∷ es))
        (sym (append_assoc h.front own q))
        (keyed_begins version m.0 h.front (own ++ q) es h.first (Apart-cons is_key_inner equals_sign _ refl)
        (value_begins version (left_parenthesis ∷ (o.own ++ q)) es b)) in
        record {
          opened = h.front ++ own;
          text = h.text ∙ ap (λ (l : List ℕ). h.front ++ l) (g.text ∙ ap (λ (l : List ℕ). l ++ g.back) g.first
              ∙ ap (λ (l : List ℕ). equals_sign ∷ l) o.text)
              ∙ sym (append_assoc h.front own (right_parenthesis ∷ []));
          most = keyed_entry m.0 ∷ o.told.most;
          last = o.told.last;
          all = ap (λ (n : RawMember). keyed_events (m.0, n)) c.1
              ∙ ap (λ (l : List TreeEvent). keyed_entry m.0 ∷ (l ++ inner_list_end ∷ parameters_end ∷ [])) o.told.all;
          fresh = λ q. subst (λ (l : List ℕ). Apart is_space_or_tab l × (1 ≤ length l))
              (sym (append_assoc h.front own q)) (keyed_fresh version (m.0, true_with []) h.front (own ++ q)
              (true_of_key version m.0 h.front h.first));
          begun = λ q ended. starts q o.told.most (o.told.begun q ended);
          whole = λ q ended apart. starts q (o.told.most ++ o.told.last ∷ [])
              (subst (Begins (visited member_events (member_at version (left_parenthesis ∷ (o.own ++ q))))) o.told.all
              (o.told.whole q ended apart));
          settled = elim o.told.settled [
            | inl k ↦ inl (λ q. starts q (o.told.most ++ o.told.last ∷ [])
                (subst (Begins (visited member_events (member_at version (left_parenthesis ∷ (o.own ++ q))))) o.told.all
                (k q)))
            | inr l ↦ inr (
              (m.0, inner_of l.0 []),
              subst (IsDictionaryMemberText version (m.0, inner_of l.0 [])) (simp append_assoc)
                  (keyed_text version m.0 (inner_of l.0 []) h.front
                  ((left_parenthesis ∷ (o.own ++ codes ";a")) ++ codes ")") h.first l.1),
            )
          ];
        }

-- ---- members with commas between them

comma_text : (c y : List ℕ) (h : Comma c) → c ++ y ≡ h.front ++ comma ∷ (h.second.back ++ y)
comma_text c y h = ap (λ (l : List ℕ). l ++ y) (h.text ∙ ap (λ (l : List ℕ). h.front ++ l) (h.second.text
    ∙ ap (λ (l : List ℕ). l ++ h.second.back) h.second.first)) ∙ append_assoc h.front (comma ∷ h.second.back) y

comma_part : (c y : List ℕ) → Comma c → Apart lengthens_item (c ++ y)
comma_part c y h = subst (Apart lengthens_item) (sym (comma_text c y h))
    (apart_behind h.front (comma ∷ (h.second.back ++ y)) h.first (comma_ends (h.second.back ++ y)))

-- values with a separator after each, and one more
rejoined : {A : Type 0} (S : List ℕ → Type 0) (P : A → List ℕ → Type 0) (init : List A) (front x : List ℕ) (n : A)
    → IsJoining (λ m. P m ⨾ S) init front → P n x → (k : A) × (ks : List A) × IsSeparated S P (k ∷ ks) (front ++ x)
rejoined S P [] front x n j p = (
  n,
  [],
  record {
    front = x;
    back = [];
    text = ap (λ (l : List ℕ). l ++ x) (joining-nil j) ∙ sym (append-nil x);
    first = p;
    second = joining_none (λ y. S ⨾ P y);
  },
)
rejoined {A} S P (m ∷ init) front x n j p =
    let c = joining-cons j in
    let d = c.first in
    let r = rejoined S P init c.back x n c.second p in
    let h : (P r.0 ⨾ IsJoining (λ y. S ⨾ P y) r.1) (c.back ++ x) = r.2 in (
      m,
      r.0 ∷ r.1,
      record {
        front = d.front;
        back = (d.back ++ h.front) ++ h.back;
        text = ap (λ (l : List ℕ). l ++ x) (c.text ∙ ap (λ (l : List ℕ). l ++ c.back) d.text) ∙ append_assoc
            (d.front ++ d.back) c.back x ∙ append_assoc d.front d.back (c.back ++ x) ∙ ap (λ (l : List ℕ). d.front
            ++ (d.back ++ l)) h.text ∙ ap (λ (l : List ℕ). d.front ++ l) (sym (append_assoc d.back h.front h.back));
        first = d.first;
        second = joining_into (λ y. S ⨾ P y) r.0 r.1 (d.back ++ h.front) h.back
            (in_turn d.back h.front d.second h.first) h.second;
      },
    )

abbrev IsFresh : List ℕ → Type 0
IsFresh t = Apart is_space_or_tab t × (1 ≤ length t)

module _ {A : Type 0} (P : A → List ℕ → Type 0) (parts : A → List TreeEvent) (one : Reader A)
    (reads : Reads one P (Goes P parts)) (again : (m : A) (t q : List ℕ) → P m t → Apart lengthens_item q
    → one (t ++ q) ≡ Ok (m, q)) (fresh : (m : A) (t q : List ℕ) → P m t → IsFresh (t ++ q)) where
  abbrev All : List A → List TreeEvent
  All ms = flat_map parts ms

  -- a comma, and a member
  next_is : (c y : List ℕ) → Comma c → IsFresh y → next_at one (c ++ y) ≡ (one >>= λ m. give (Some m)) y
  unfolding next_at
  next_is c y h f =
      let w : List ℕ = h.second.back in
      ap (next_at one) (comma_text c y h) ∙ bind_complete _ _ _ _ _ (span_complete is_space_or_tab h.front
      (comma ∷ (w ++ y)) h.first (Apart-cons is_space_or_tab comma (w ++ y) refl))
      ∙ ahead_any _ _ (comma ∷ (w ++ y)) (omega arith) ∙ ahead_take _ _ _ comma (w ++ y) refl
      ∙ bind_complete _ _ _ _ _ (comma_complete P parts one w y h.second.second f.0 f.1)

  -- the events of these members, and the first events of the next one
  pub members_begun : (ms : List A) (front rest : List ℕ) → (Spaces ⨾ IsJoining (λ m. P m ⨾ Comma) ms) front
      → IsFresh rest → Begins (visited All (members_at parts one (front ++ rest))) (All ms ++ visited parts (one rest))
  unfolding members_at
  members_begun ms front rest h f =
      let on = fresh_after P Comma IsFresh parts one (next_at one) (Consumes-next P parts one reads) again fresh
      comma_part next_is ms h.back rest h.second f in
      let all : front ++ rest ≡ h.front ++ (h.back ++ rest) =
      ap (λ (l : List ℕ). l ++ rest) h.text ∙ append_assoc h.front h.back rest in
      subst (λ a. Begins (visited All a) (All ms ++ visited parts (one rest))) (sym (ap (members_at parts one) all
      ∙ bind_complete _ _ _ _ _ (span_complete is_space h.front (h.back ++ rest) h.first (no_space _ on.0))
      ∙ ahead_any _ _ (h.back ++ rest) on.1)) (each_begun P Comma IsFresh parts one
      (next_at one) (Consumes-next P parts one reads) again fresh comma_part next_is ms h.back rest h.second f)

  all_push : (ms init : List A) (last : A) → ms ≡ init ++ last ∷ [] → All ms ≡ All init ++ parts last
  all_push ms init last same = ap All same ∙ sym (append-nil (All (init ++ last ∷ [])))
      ∙ events_push parts init last [] ∙ ap (λ (l : List TreeEvent). All init ++ l) (append-nil (parts last))

  -- the first events of the last member, before any text q that follows
  last_begun : (m : A) (ms : List A) (t q : List ℕ) (h : AreMembersText P (m ∷ ms) t) (es : List TreeEvent)
      → (o : Parted Comma P (m ∷ ms) h.second.front) → Begins (visited parts (one (o.back ++ (h.second.back ++ q)))) es
      → Begins (visited All (members_at parts one (t ++ q))) (All o.init ++ es)
  last_begun m ms t q h es o b =
      let rest : List ℕ = o.back ++ (h.second.back ++ q) in
      let text : t ++ q ≡ (h.front ++ o.front) ++ rest =
      ap (λ (l : List ℕ). l ++ q) (h.text ∙ ap (λ (l : List ℕ). h.front ++ l) (h.second.text
      ∙ ap (λ (l : List ℕ). l ++ h.second.back) o.text)) ∙ simp append_assoc in
      subst (λ (l : List ℕ). Begins (visited All (members_at parts one l)) (All o.init ++ es)) (sym text)
      (begins_trans _ _ _ (members_begun _ _ _ (in_turn _ _ h.first o.each) (fresh _ o.back (h.second.back ++ q) o.end))
      (begins_after _ _ _ b))

  -- members, before any text that may follow them
  pub members_whole : ((m : A) (t q : List ℕ) → P m t → IsEnded q
      → (es : List TreeEvent) × (parts m ≡ es ++ parameters_end ∷ []) × Begins (visited parts (one (t ++ q))) es)
      → (ms : List A) (t q : List ℕ) (first : List TreeEvent) → AreMembersText P ms t
      → AreBefore (All ms) first q → Begins (visited All (members_at parts one (t ++ q))) first
  members_whole told [] t q [] h b = begins_all _
  members_whole told [] t q (e ∷ first) h b = absurd cc
  members_whole told (m ∷ ms) t q first h b = elim (before_cases (All (m ∷ ms)) first q b) [
    | inl k ↦ subst (Begins seen) (sym (k.0 ∙ pushed)) (last_begun m ms t q h (parts o.last) o (
      [],
      ap (visited parts) (again o.last o.back (h.second.back ++ q) o.end
          (apart_behind h.second.back q h.second.second k.1)) ∙ sym (append-nil (parts o.last)),
    ))
    | inr e ↦ subst (Begins seen) (cut e) (last_begun m ms t q h (w b.0).0 o (w b.0).2)
  ]
    where
      seen : List TreeEvent
      seen = visited All (members_at parts one (t ++ q))

      o : Parted Comma P (m ∷ ms) h.second.front
      o = parted_of Comma P m ms h.second.front h.second.first

      pushed : All (m ∷ ms) ≡ All o.init ++ parts o.last
      pushed = all_push (m ∷ ms) o.init o.last o.same

      w : IsEnded q → (es : List TreeEvent) × (parts o.last ≡ es ++ parameters_end ∷ [])
          × Begins (visited parts (one (o.back ++ (h.second.back ++ q)))) es
      w ended = told o.last o.back (h.second.back ++ q) o.end (ended_behind h.second.back q h.second.second ended)

      cut : All (m ∷ ms) ≡ first ++ parameters_end ∷ [] → All o.init ++ (w b.0).0 ≡ first
      cut e = append_cancel_right (All o.init ++ (w b.0).0) first (parameters_end ∷ [])
          (append_assoc (All o.init) (w b.0).0 (parameters_end ∷ [])
          ∙ ap (λ (l : List TreeEvent). All o.init ++ l) (sym (w b.0).1) ∙ sym pushed ∙ e)

  -- Members; the inner list of the last one is open. Its events come before a text that may follow; and before any
  -- text, or the last item can get one more parameter.
  pub members_inner : ((m : A) (t : List ℕ) (before after : List TreeEvent) → P m t
      → before ++ parts m ≡ after ++ inner_list_end ∷ parameters_end ∷ [] → Unclosed P parts one m t)
      → (ms : List A) (t q : List ℕ) (all : List TreeEvent) → AreMembersText P ms (t ++ right_parenthesis ∷ [])
      → All ms ≡ all ++ inner_list_end ∷ parameters_end ∷ []
      → ((first : List TreeEvent) → AreBefore all first q → Begins (visited All (members_at parts one (t ++ q))) first)
      × (Begins (visited All (members_at parts one (t ++ q))) all
      ⊎ ((ns : List A) × AreMembersText P ns ((t ++ codes ";a") ++ codes ")")))
  members_inner unclosed [] t q all h e =
      absurd (omega (arith, ap length e, length-append all (inner_list_end ∷ parameters_end ∷ [])))
  members_inner unclosed (m ∷ ms) t q all h e = (
    λ first b. elim (before_cases all first q b) [
      | inl k ↦ subst (Begins seen) (whole ∙ sym k.0) (told (u.most ++ u.last ∷ []) (u.whole q b.0 k.1))
      | inr k ↦ subst (Begins seen) (snoc_same (All o.init ++ u.most) first u.last parameters_end
          (append_assoc (All o.init) u.most (u.last ∷ []) ∙ whole ∙ k)) (told u.most (u.begun q b.0))
    ],
    elim u.settled [
      | inl k ↦ inl (subst (Begins seen) whole (told (u.most ++ u.last ∷ []) (k q)))
      | inr l ↦ inr (longer l.0 l.1)
    ],
  )
    where
      seen : List TreeEvent
      seen = visited All (members_at parts one (t ++ q))

      o : Parted Comma P (m ∷ ms) h.second.front
      o = parted_of Comma P m ms h.second.front h.second.first

      pushed : All (m ∷ ms) ≡ All o.init ++ parts o.last
      pushed = all_push (m ∷ ms) o.init o.last o.same

      u : Unclosed P parts one o.last o.back
      u = unclosed o.last o.back (All o.init) all o.end (sym pushed ∙ e)

      text : ((h.front ++ o.front) ++ u.opened) ++ right_parenthesis ∷ h.second.back ≡ t ++ right_parenthesis ∷ []
      text = sym (h.text ∙ ap (λ (l : List ℕ). h.front ++ l) (h.second.text
          ∙ ap (λ (l : List ℕ). l ++ h.second.back) (o.text ∙ ap (λ (l : List ℕ). o.front ++ l) u.text))
          ∙ simp append_assoc)

      cut : t ≡ (h.front ++ o.front) ++ u.opened
      cut = sym (cut_text ((h.front ++ o.front) ++ u.opened) t h.second.back h.second.second text).1

      same : t ++ q ≡ (h.front ++ o.front) ++ (u.opened ++ q)
      same = ap (λ (l : List ℕ). l ++ q) cut ∙ append_assoc (h.front ++ o.front) u.opened q

      longer : (n : A) → P n ((u.opened ++ codes ";a") ++ codes ")")
          → (ns : List A) × AreMembersText P ns ((t ++ codes ";a") ++ codes ")")
      longer n p =
          let x : List ℕ = (u.opened ++ codes ";a") ++ codes ")" in
          let r = rejoined Comma P o.init o.front x n o.each p in
          let all : h.front ++ (o.front ++ x) ≡ (((h.front ++ o.front) ++ u.opened) ++ codes ";a") ++ codes ")" =
          simp append_assoc in (
            r.0 ∷ r.1,
            subst (AreMembersText P (r.0 ∷ r.1)) (all ∙ ap (λ (l : List ℕ). (l ++ codes ";a") ++ codes ")") (sym cut))
                (in_turn h.front (o.front ++ x) h.first (record {
                  front = o.front ++ x;
                  back = [];
                  text = sym (append-nil (o.front ++ x));
                  first = r.2;
                  second = refl;
                })),
          )

      told : (es : List TreeEvent) → Begins (visited parts (one (u.opened ++ q))) es → Begins seen (All o.init ++ es)
      told es k = subst (λ (l : List ℕ). Begins (visited All (members_at parts one l)) (All o.init ++ es)) (sym same)
          (begins_trans _ _ (All o.init ++ es) (members_begun o.init (h.front ++ o.front) (u.opened ++ q)
          (in_turn h.front o.front h.first o.each) (u.fresh q)) (begins_after (All o.init) _ es k))

      whole : All o.init ++ (u.most ++ u.last ∷ []) ≡ all
      whole = append_cancel_right (All o.init ++ (u.most ++ u.last ∷ [])) all (inner_list_end ∷ parameters_end ∷ [])
          (append_assoc (All o.init) (u.most ++ u.last ∷ []) (inner_list_end ∷ parameters_end ∷ [])
          ∙ ap (λ (l : List TreeEvent). All o.init ++ l) (sym u.all) ∙ sym pushed ∙ e)

-- ---- fields

entry_whole : (version : Version) (m : RawMember) (t q : List ℕ) → IsMemberText version m t → IsEnded q
    → (es : List TreeEvent) × (entry_events m ≡ es ++ parameters_end ∷ [])
    × Begins (visited entry_events (entry_at version (t ++ q))) es
entry_whole version m t q h ended = (
  entry ∷ open_events m,
  ap (λ (l : List TreeEvent). entry ∷ l) (member_open m),
  entry_begins version (t ++ q) (open_events m) (member_told version m t q h ended),
)

keyed_whole : (version : Version) (m : List ℕ × RawMember) (t q : List ℕ) → IsDictionaryMemberText version m t
    → IsEnded q → (es : List TreeEvent) × (keyed_events m ≡ es ++ parameters_end ∷ [])
    × Begins (visited keyed_events (keyed_at version (t ++ q))) es
keyed_whole version m t q h ended =
    let told = value_told version m.1 h.back q h.second ended in (
      keyed_entry m.0 ∷ open_events m.1,
      ap (λ (l : List TreeEvent). keyed_entry m.0 ∷ l) (member_open m.1),
      subst (λ (l : List ℕ). Begins (visited keyed_events (keyed_at version l)) (keyed_entry m.0 ∷ open_events m.1))
          (sym (ap (λ (l : List ℕ). l ++ q) h.text ∙ append_assoc h.front h.back q))
          (keyed_begins version m.0 h.front (h.back ++ q) (open_events m.1) h.first told.1 told.0),
    )

-- an item that is the field has the events of an item
item_visited : (version : Version) (s t : List ℕ) → Spaces s → Apart is_space t
    → visited item_events (whole_field_at version item_field (s ++ t)) ≡ visited item_events (item_at version t)
unfolding whole_field_at bind give
item_visited version s t each h = ap (visited item_events) (bind_complete (span is_space) (λ _. item_at version
    >>= λ i. span is_space >>= λ _. give i) (s ++ t) t s (span_complete is_space s t each h)) ∙ on (item_at version t)
  where
    on : (a : Answer RawItem)
        → visited item_events (and_then a (λ i. span is_space >>= λ _. give i)) ≡ visited item_events a
    on (Ok x) = let m = (Steady-span is_space).steady x.1 in rw m.3 refl
    on (Err e) = refl

-- the events of a field before any text q that may follow it
pub visited_whole : (version : Version) (kind : FieldKind) (raw : RawField kind) (t q : List ℕ) (first : List TreeEvent)
    → IsFieldText version kind raw t → AreBefore (events kind raw) first q
    → Begins (visited (events kind) (whole_field_at version kind (t ++ q))) first
unfolding whole_field_at
visited_whole version item_field i t q first h b =
    let k = h.second in
    let rest : List ℕ = k.back ++ q in
    let blanks = spaces_blank k.back k.second in
    let seen : visited item_events (whole_field_at version item_field (t ++ q))
    ≡ visited item_events (item_at version (k.front ++ rest)) =
    ap (λ (l : List ℕ). visited item_events (whole_field_at version item_field l))
    (ap (λ (l : List ℕ). l ++ q) (h.text ∙ ap (λ (l : List ℕ). h.front ++ l) k.text) ∙ simp append_assoc)
    ∙ item_visited version h.front (k.front ++ rest) h.first (item_no space version i k.front rest refl k.first) in
    subst (λ (l : List TreeEvent). Begins l first) (sym seen) (elim (before_cases (item_events i) first q b)
    as (λ _. Begins (visited item_events (item_at version (k.front ++ rest))) first) [
      | inl e ↦ subst (Begins (visited item_events (item_at version (k.front ++ rest)))) (sym e.0) (
        [],
        ap (visited item_events) (item_complete version i k.front rest k.first (apart_behind k.back q blanks e.1))
            ∙ sym (append-nil (item_events i)),
      )
      | inr e ↦ subst (Begins (visited item_events (item_at version (k.front ++ rest))))
          (append_cancel_right (bare_item i.bare ∷ Pairs i.parameters) first (parameters_end ∷ []) e)
          (item_told version i k.front rest k.first (ended_behind k.back q blanks b.0))
    ])
visited_whole version list_field ms t q first h b = members_whole (IsMemberText version) entry_events (entry_at version)
    (Sound-entry version) (entry_complete version) (entry_fresh version) (entry_whole version) ms t q first h b
visited_whole version dictionary_field ms t q first h b = members_whole (IsDictionaryMemberText version) keyed_events
    (keyed_at version) (Sound-keyed version) (keyed_complete version) (keyed_fresh version) (keyed_whole version) ms t q
    first h b

-- The events of a field with an open inner list, before a text q that may follow. They come before any text, or the last
-- item can get one more parameter.
pub visited_open_list : (version : Version) (kind : FieldKind) (raw : RawField kind) (t q : List ℕ)
    (all : List TreeEvent) → IsFieldText version kind raw (t ++ right_parenthesis ∷ [])
    → events kind raw ≡ all ++ inner_list_end ∷ parameters_end ∷ []
    → ((first : List TreeEvent) → AreBefore all first q
    → Begins (visited (events kind) (whole_field_at version kind (t ++ q))) first)
    × (Begins (visited (events kind) (whole_field_at version kind (t ++ q))) all
    ⊎ IsAccepted version kind ((t ++ codes ";a") ++ codes ")"))
unfolding whole_field_at
visited_open_list version item_field i t q all h e = absurd (not_last [] all (bare_item i.bare) i.parameters refl e)
visited_open_list version list_field ms t q all h e =
    members_inner _ _ _ (Sound-entry _) (entry_complete _) (entry_fresh _) (open_entry _) _ _ _ _ h e
visited_open_list version dictionary_field ms t q all h e =
    members_inner _ _ _ (Sound-keyed _) (keyed_complete _) (keyed_fresh _) (open_keyed _) _ _ _ _ h e

-- a text that begins with no blank is not empty
some_fresh : (t : List ℕ) → IsTrue (begins_with (λ c. not (is_space_or_tab c)) t) → IsFresh t
some_fresh [] h = absurd (true≢false (sym h))
some_fresh (c ∷ t) h = (Apart-cons is_space_or_tab c t (not-true (is_space_or_tab c) h), omega arith)

apart_of : (class : ℕ → Bool) (t : List ℕ) → IsFalse (begins_with class t) → Apart class t
apart_of class [] h = Apart-nil class
apart_of class (c ∷ t) h = Apart-cons class c t h

list_begun : (version : Version) (ms : List RawMember) (front rest : List ℕ) (first : List TreeEvent)
    → IsBeforeMember version list_field ms front → IsFresh rest
    → Begins (visited entry_events (entry_at version rest)) first
    → Begins (visited (events list_field) (whole_field_at version list_field (front ++ rest)))
    (events list_field ms ++ first)
unfolding whole_field_at
list_begun version ms front rest first h fresh b = begins_trans _ _ _
    (members_begun _ _ _ (Sound-entry _) (entry_complete _) (entry_fresh _) _ _ _ h fresh) (begins_after _ _ _ b)

keyed_begun : {Q : List ℕ → Type 0} (version : Version) (ms : List (List ℕ × RawMember)) (front rest key : List ℕ)
    (first : List TreeEvent) → IsBeforeMember version dictionary_field ms front → (b : (IsKeyText key ⨾ Q) rest)
    → Apart is_key_inner b.back → Begins (visited member_events (member_value_at version b.back)) first
    → Begins (visited (events dictionary_field) (whole_field_at version dictionary_field (front ++ rest)))
    (events dictionary_field ms ++ keyed_entry key ∷ first)
unfolding whole_field_at
keyed_begun version ms front rest key first h b apart told =
    let read : Begins (visited keyed_events (keyed_at version rest)) (keyed_entry key ∷ first) =
    subst (λ (l : List ℕ). Begins (visited keyed_events (keyed_at version l)) (keyed_entry key ∷ first)) (sym b.text)
    (keyed_begins _ _ _ _ _ b.first apart told) in
    begins_trans _ _ _ (members_begun _ _ _ (Sound-keyed _) (keyed_complete _) (keyed_fresh _) _ _ _ h
    (subst IsFresh (sym b.text) (keyed_fresh version _ _ _ (true_of_key _ _ _ b.first)))) (begins_after _ _ _ read)

-- a key has ended, and no equals sign follows
ended_key : (t : List ℕ) → IsFalse (begins_with (λ c. is_key_inner c || eqb c equals_sign) t)
    → IsFalse (begins_with is_key_inner t) × IsFalse (begins_with (byte equals_sign) t)
ended_key [] h = (refl, refl)
ended_key (c ∷ t) h = or_parts (is_key_inner c) (eqb c equals_sign) h

-- a member without an equals sign is true
true_told : (version : Version) (t : List ℕ) → Apart (byte equals_sign) t
    → Begins (visited member_events (member_value_at version t)) (begins_item ∷ bare_item (boolean true) ∷ [])
unfolding member_value_at led bind give
true_told version t apart = subst (λ a. Begins (visited member_events a) (begins_item ∷ bare_item (boolean true) ∷ []))
    (sym (branch_past _ _ _ t apart)) (on (parameters_at version t))
  where
    on : (a : Answer RawParameters)
        → Begins (visited member_events (led_answer (begins_item ∷ bare_item (boolean true) ∷ [])
        (and_then a (λ ps. give (true_with ps))))) (begins_item ∷ bare_item (boolean true) ∷ [])
    on (Ok x) = (parameters_events x.0, refl)
    on (Err e) = (e.events, refl)

-- the events of members, and the first events of the next one
pub visited_begun : (version : Version) (kind : FieldKind) (raw : RawField kind) (front rest : List ℕ)
    (first : List TreeEvent) → IsBeforeMember version kind raw front → BeginsMember kind first rest
    → Begins (visited (events kind) (whole_field_at version kind (front ++ rest))) (events kind raw ++ first)
visited_begun version item_field i front rest first h member = absurd h
visited_begun version list_field ms front rest first h (list_member fresh) =
    list_begun version ms front rest (entry ∷ first_event rest ∷ []) h (some_fresh rest fresh)
    (entry_begins version rest (first_event rest ∷ []) (first_told version rest))
visited_begun version dictionary_field ms front rest first h (dictionary_key key b) =
    keyed_begun version ms front rest key (begins_item ∷ bare_item (boolean true) ∷ []) h b
    (apart_of is_key_inner b.back (ended_key b.back b.second).0)
    (true_told version b.back (apart_of (byte equals_sign) b.back (ended_key b.back b.second).1))
visited_begun version dictionary_field ms front rest first h (dictionary_value key more b) =
    keyed_begun version ms front rest key (first_event more ∷ []) h b
    (rw b.second (Apart-cons is_key_inner equals_sign more refl))
    (rw b.second (value_begins version more (first_event more ∷ []) (first_told version more)))
