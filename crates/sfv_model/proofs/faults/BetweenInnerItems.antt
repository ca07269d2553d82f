-- Where the faults between the bare items of an inner list stand.
use Rattle.std.proofs.Common.{◌≡◌, ℕ, true, List, [], ◌∷◌, ◌++◌, Option, refl, sym, ap, subst, ◌∙◌, append_assoc, rules}
use Rattle.std.{proofs.Common.{codes, flat_map, append-nil, eqb-true}, specs.Prelude.⊤}
use Rattle.sfv_spec.specs.Events.{TreeEvent, entry, keyed_entry, begins_inner_list, inner_list_end, parameters_end}
use Rattle.sfv_spec.specs.Events.{inner_item_events, member_events, entry_events, keyed_events}
use Rattle.sfv_spec.specs.Grammar.{IsItemText, IsMemberText, IsMemberValueText, IsDictionaryMemberText}
use Rattle.sfv_spec.specs.{Texts.{RunOf, IsJoining, ◌⨾◌}, Values.{boolean, RawItem}}
use Rattle.sfv_spec.proofs.Marks.{space, equals_sign, left_parenthesis, right_parenthesis, comma, is_space}
use Rattle.sfv_spec.proofs.{Marks.{is_space_or_tab, IsParameterText}, Settled.joining-nil}
use Rattle.sfv_model.specs.Items.{item_of}
use Rattle.sfv_model.specs.Members.{inner_item_at, next_item_at, inner_items_at, inner_of, inner_at, member_at}
use Rattle.sfv_model.specs.{Members.{entry_at, member_value_at, keyed_at}, Reader.{Fault, Reader, many, any}}
use Rattle.sfv_model.proofs.TrailingBytes.{IsOther, Shuns, Shuns-item, Shuns-key, Shuns-parameters, Shuns-led}
use Rattle.sfv_model.proofs.TrailingBytes.{Shuns-bind, Shuns-give, Shuns-branch, Shuns-span}
use Rattle.sfv_model.proofs.Types.{Version, ErrorKind, TrailingCharactersAfterMember, TrailingComma}
use Rattle.sfv_model.proofs.Types.{TrailingCharactersAfterParsedValue, ExpectedInnerListDelimiter}
use Rattle.sfv_model.proofs.Types.{UnterminatedInnerList}
use Rattle.sfv_model.proofs.faults.Combinators.{Rules, Rules-give, Rules-span, Rules-led, Rules-bind, Rules-branch}
use Rattle.sfv_model.proofs.faults.Combinators.{Rules-ahead, Rules-any, Rules-weaker, fail_at}
use Rattle.sfv_model.proofs.faults.InnerListCutOff.{joining_last}
use Rattle.sfv_model.proofs.faults.ItemEnds.{IsTight, tight_after, item_tight, outer_space, second_longer, tight_both}
use Rattle.sfv_model.proofs.faults.{ItemEnds.{joining_tight, after_front}, Many.Rules-many}
use Rattle.sfv_model.proofs.sound.Items.{Sound-key, parameter_of, true_value}
use Rattle.sfv_model.proofs.sound.Members.{IsClosed, IsNextItem, Sound-inner_item, Sound-next_item, Consumes-next_item}
use Rattle.sfv_model.proofs.sound.Members.{IsItems, items_with, bracket, Sound-items, inner_text, given}
use Rattle.sfv_model.proofs.sound.{Members.{Sound-member_value, keyed}, Steps.Sound-steps}
use Rattle.sfv_model.proofs.texts.Joining.{joining_none, joining_push, joined_split}

-- front ends in an inner list, where a parenthesis can stand, and, after an item, a parameter too. The events `es` come
-- before its end
pub record IsOpen {A : Type 0} (P : A → List ℕ → Type 0) (parts : A → List TreeEvent) (k : ErrorKind)
    (t rest : List ℕ) (es : List TreeEvent) : Type 0 where
  pub front : List ℕ
  pub text : t ≡ front ++ rest
  pub closes : (v : A) × P v (front ++ codes ")") × (parts v ≡ es ++ inner_list_end ∷ parameters_end ∷ [])
  pub tight : IsTight space front
  pub longer : k ≡ ExpectedInnerListDelimiter → (v : A) × P v (front ++ codes ";a)")
  pub ends : k ≡ UnterminatedInnerList → rest ≡ []

-- front is a whole text with a member, and has these events
pub record IsWhole {A : Type 0} (P : A → List ℕ → Type 0) (parts : A → List TreeEvent) (Has : A → Type 0)
    (t rest : List ℕ) (es : List TreeEvent) : Type 0 where
  pub front : List ℕ
  pub value : A
  pub text : t ≡ front ++ rest
  pub means : P value front
  pub has : Has value
  pub seen : parts value ≡ es

-- the comma at the end, after such a text
pub record IsLastComma {A : Type 0} (P : A → List ℕ → Type 0) (Has : A → Type 0) (t rest : List ℕ) : Type 0 where
  pub front : List ℕ
  pub whitespace : List ℕ
  pub value : A
  pub text : t ≡ front ++ comma ∷ whitespace
  pub blank : RunOf is_space_or_tab whitespace
  pub means : P value front
  pub has : Has value
  pub here : rest ≡ comma ∷ whitespace

-- where a fault of this kind stands, after these events
abbrev pub Stands : {A : Type 0} → (A → List ℕ → Type 0) → (A → List TreeEvent) → (A → Type 0) → ErrorKind → List ℕ
    → List ℕ → List TreeEvent → Type 0
Stands P parts Has ExpectedInnerListDelimiter t rest es = IsOpen P parts ExpectedInnerListDelimiter t rest es
Stands P parts Has UnterminatedInnerList t rest es = IsOpen P parts UnterminatedInnerList t rest es
Stands P parts Has TrailingCharactersAfterMember t rest es = IsWhole P parts Has t rest es
Stands P parts Has TrailingComma t rest es = IsLastComma P Has t rest
Stands P parts Has TrailingCharactersAfterParsedValue t rest es = ⊥
Stands P parts Has _ t rest es = ⊤

-- no value has members
abbrev pub HasNone : {A : Type 0} → A → Type 0
HasNone v = ⊥

open_within : {A B : Type 0} (P : A → List ℕ → Type 0) (Q : B → List ℕ → Type 0) (parts : A → List TreeEvent)
    (longer : B → List TreeEvent) (p : List ℕ) (ds : List TreeEvent)
    → ((v : A) (s : List ℕ) → P v s → (w : B) × Q w (p ++ s) × (longer w ≡ ds ++ parts v)) → (k : ErrorKind)
    (t rest : List ℕ) (es : List TreeEvent) → IsOpen P parts k t rest es → IsOpen Q longer k (p ++ t) rest (ds ++ es)
open_within P Q parts longer p ds h k t rest es o = record {
  front = p ++ o.front;
  text = rw o.text (simp append_assoc);
  closes = let m = h o.closes.0 (o.front ++ codes ")") o.closes.1 in (
    m.0,
    rw append_assoc m.1,
    m.2 ∙ ap (λ (l : List TreeEvent). ds ++ l) o.closes.2
        ∙ sym (append_assoc ds es (inner_list_end ∷ parameters_end ∷ [])),
  );
  tight = tight_after space p o.front o.tight;
  longer = λ e. let w = o.longer e in let m = h w.0 (o.front ++ codes ";a)") w.1 in (m.0, rw append_assoc m.1);
  ends = o.ends;
}

-- in a longer text
pub stands_within : {A B : Type 0} (P : A → List ℕ → Type 0) (Q : B → List ℕ → Type 0) (parts : A → List TreeEvent)
    (longer : B → List TreeEvent) (Has : A → Type 0) (More : B → Type 0) (p : List ℕ) (ds : List TreeEvent)
    → ((v : A) (s : List ℕ) → P v s → (w : B) × Q w (p ++ s) × (Has v → More w) × (longer w ≡ ds ++ parts v))
    → (k : ErrorKind) (t rest : List ℕ) (es : List TreeEvent) → Stands P parts Has k t rest es
    → Stands Q longer More k (p ++ t) rest (ds ++ es)
stands_within P Q parts longer Has More p ds h ExpectedInnerListDelimiter t rest es o =
    open_within P Q parts longer p ds (λ v s m. let w = h v s m in (w.0, w.1, w.3)) _ t rest es o
stands_within P Q parts longer Has More p ds h UnterminatedInnerList t rest es o =
    open_within P Q parts longer p ds (λ v s m. let w = h v s m in (w.0, w.1, w.3)) _ t rest es o
stands_within P Q parts longer Has More p ds h TrailingCharactersAfterMember t rest es o =
    let w = h o.value o.front o.means in
    record {
      front = p ++ o.front;
      value = w.0;
      text = ap (λ (l : List ℕ). p ++ l) o.text ∙ sym (append_assoc p o.front rest);
      means = w.1;
      has = w.2 o.has;
      seen = w.3 ∙ ap (λ (l : List TreeEvent). ds ++ l) o.seen;
    }
stands_within P Q parts longer Has More p ds h TrailingComma t rest es o =
    let w = h o.value o.front o.means in
    record {
      front = p ++ o.front;
      whitespace = o.whitespace;
      value = w.0;
      text = ap (λ (l : List ℕ). p ++ l) o.text ∙ sym (append_assoc p o.front (comma ∷ o.whitespace));
      blank = o.blank;
      means = w.1;
      has = w.2 o.has;
      here = o.here;
    }
stands_within P Q parts longer Has More p ds h TrailingCharactersAfterParsedValue t rest es o = o
stands_within P Q parts longer Has More p ds h _ t rest es o = tt

-- all other kinds stand anywhere
stands_other : {A : Type 0} (P : A → List ℕ → Type 0) (parts : A → List TreeEvent) (Has : A → Type 0) (k : ErrorKind)
    (t rest : List ℕ) (es : List TreeEvent) → IsOther k → Stands P parts Has k t rest es
stands_other P parts Has ExpectedInnerListDelimiter t rest es o = absurd o
stands_other P parts Has _ t rest es o = search (rules, o)

pub Rules-other : {A B : Type 0} (f : Reader A) (P : B → List ℕ → Type 0) (parts : B → List TreeEvent)
    (Has : B → Type 0) (at : List ℕ → List ℕ) (seen : List TreeEvent → List TreeEvent) → Shuns f
    → Rules f (λ t e. Stands P parts Has e.kind (at t) e.rest (seen e.events))
Rules-other f P parts Has at seen h =
    record { rules = λ t e i. stands_other P parts Has e.kind (at t) e.rest (seen e.events) (h.rules t e i) }

-- ---- items, of which the last gets one more parameter

module _ (version : Version) where
  pub parameter_a : IsParameterText version (codes "a", boolean true) (codes ";a")
  parameter_a = parameter_of version [] (codes "a") (codes "a") [] (boolean true) refl (refl, refl) (true_value version)

  pub item_longer : (i : RawItem) (t : List ℕ) → IsItemText version i t → (j : RawItem)
      × IsItemText version j (t ++ codes ";a")
  item_longer i t h = (
    item_of i.bare (i.parameters ++ (codes "a", boolean true) ∷ []),
    second_longer t (codes ";a") h (joining_push (IsParameterText version) i.parameters (codes "a", boolean true) h.back
        (codes ";a") h.second parameter_a),
  )

  -- an item, others after it
  pub record AreItems (t : List ℕ) : Type 0 where
    pub i : RawItem
    pub is : List RawItem
    pub one : List ℕ
    pub others : List ℕ
    pub text : t ≡ one ++ others
    pub first : IsItemText version i one
    pub second : IsJoining (IsNextItem version) is others

  items_longer : (i : RawItem) (is : List RawItem) (s u : List ℕ) → IsItemText version i s
      → IsJoining (IsNextItem version) is u → AreItems ((s ++ u) ++ codes ";a")
  items_longer i [] s u h j =
      let m = item_longer i s h in
      record {
        i = m.0;
        is = [];
        one = s ++ codes ";a";
        others = [];
        text = rw (joining-nil j) (simp append-nil);
        first = m.1;
        second = joining_none (IsNextItem version);
      }
  items_longer i (next ∷ is) s u h j =
      let l = joining_last _ _ _ _ j in
      let m = item_longer _ _ l.6.second in
      record {
        i = i;
        is = l.0 ++ m.0 ∷ [];
        one = s;
        others = l.2 ++ (l.3 ++ codes ";a");
        text = ap (λ (x : List ℕ). (s ++ x) ++ codes ";a") l.4 ∙ simp append_assoc;
        first = h;
        second = joining_push _ _ _ _ _ l.5 (second_longer l.3 (codes ";a") l.6 m.1);
      }

  -- ---- inner lists

  -- the items with the opening parenthesis
  abbrev Opened : List RawItem → List ℕ → Type 0
  Opened is s = (b : List ℕ) × (s ≡ left_parenthesis ∷ b) × IsItems version is b

  -- their events, with the end of the inner list
  abbrev Ended : List RawItem → List TreeEvent
  Ended is = flat_map inner_item_events is ++ inner_list_end ∷ parameters_end ∷ []

  shuns-inner_item : Shuns (inner_item_at version)
  unfolding inner_item_at
  shuns-inner_item = Shuns-led _ _ (Shuns-item version)

  module _ (s t u : List ℕ) (i : RawItem) (is : List RawItem) (each : RunOf is_space s) (h : IsItemText version i t)
      (j : IsJoining (IsNextItem version) is u) where
    -- after spaces, an item and others
    abbrev Here : List ℕ → Fault → Type 0
    Here x e = Stands Opened Ended HasNone e.kind (left_parenthesis ∷ (s ++ (t ++ (u ++ x)))) e.rest
        (inner_item_events i ++ (flat_map inner_item_events is ++ e.events))

    -- the parenthesis can close an item and others
    opened : (x : List ℕ) (a : AreItems x) → Opened (a.i ∷ a.is) ((left_parenthesis ∷ (s ++ x)) ++ codes ")")
    opened x a = (
      s ++ (a.one ++ (a.others ++ codes ")")),
      ap (λ (l : List ℕ). left_parenthesis ∷ l) (ap (λ (l : List ℕ). (s ++ l) ++ codes ")") a.text ∙ simp append_assoc),
      items_with _ _ _ _ _ a.is each a.first (joined_split _ _ a.is _ _ a.second bracket),
    )

    regroup : (xs ys zs : List TreeEvent) → (xs ++ ys) ++ zs ≡ (xs ++ (ys ++ [])) ++ zs
    regroup xs ys zs = simp (append_assoc, append-nil)

    placed : (k : ErrorKind) (x : List ℕ) → (k ≡ UnterminatedInnerList → x ≡ [])
        → IsOpen Opened Ended k (left_parenthesis ∷ (s ++ (t ++ (u ++ x)))) x
        (inner_item_events i ++ (flat_map inner_item_events is ++ []))
    placed k x ends = record {
      front = left_parenthesis ∷ (s ++ (t ++ u));
      text = ap (λ (l : List ℕ). left_parenthesis ∷ l) (simp append_assoc);
      closes = (
        i ∷ is,
        opened (t ++ u) (record { i = i; is = is; one = t; others = u; text = refl; first = h; second = j }),
        regroup (inner_item_events i) (flat_map inner_item_events is) (inner_list_end ∷ parameters_end ∷ []),
      );
      tight = tight_after space (left_parenthesis ∷ s) (t ++ u) (tight_both space outer_space t u
          (item_tight space outer_space version i t h) (joining_tight space outer_space (IsNextItem version) (λ v x k.
          after_front space outer_space x k (item_tight space outer_space version v k.back k.second)) is u j));
      longer = λ _. let a = items_longer i is t u h j in
          (a.i ∷ a.is, subst (Opened (a.i ∷ a.is)) (simp append_assoc) (opened ((t ++ u) ++ codes ";a") a));
      ends = ends;
    }

    next_item_rules : Rules (next_item_at version) Here
    unfolding next_item_at
    next_item_rules = Rules-branch _ _ _ _ (λ c _. Rules-other _ Opened Ended HasNone _ _ (Shuns-bind _ _ (Shuns-span _)
        (λ _. Shuns-branch _ _ _ (λ _. Shuns-give _) (Shuns-bind _ _ shuns-inner_item (λ i. Shuns-give _)))))
        (Rules-branch _ _ _ _ (λ _ _. Rules-give _ _) (Rules-ahead any _ _ _ (λ c r e _ q. fail_at (Option RawItem)
        ExpectedInnerListDelimiter Here (c ∷ r) e q (placed ExpectedInnerListDelimiter (c ∷ r) (λ k. absurd cc)))
        (λ c r e y q. absurd cc) (λ e q. fail_at (Option RawItem) UnterminatedInnerList Here [] e q
        (placed UnterminatedInnerList [] (λ _. refl)))))

  -- the last item of an open inner list gets one more parameter
  pub open_longer : (i : RawItem) (is : List RawItem) (s t : List ℕ) → RunOf is_space s
      → (IsItemText version i ⨾ IsJoining (IsNextItem version) is) t
      → (js : List RawItem)
      × IsMemberText version (inner_of js []) ((left_parenthesis ∷ (s ++ (t ++ codes ";a"))) ++ codes ")")
  open_longer i is s t each h =
      let a = items_longer _ _ _ _ h.first h.second in
      let o = opened s h.front h.back i is each h.first h.second ((h.front ++ h.back) ++ codes ";a") a in (
        a.i ∷ a.is,
        subst (IsMemberText version (inner_of (a.i ∷ a.is) [])) (ap (λ (l : List ℕ). left_parenthesis ∷ l)
            (append-nil o.0) ∙ sym o.1 ∙ ap (λ (l : List ℕ). (left_parenthesis ∷ (s ++ (l ++ codes ";a"))) ++ codes ")")
            (sym h.text)) (inner_text _ (a.i ∷ a.is) _ _ _ o.2 (joining_none _)),
      )

  abbrev AfterBracket : List ℕ → Fault → Type 0
  AfterBracket x e = Stands Opened Ended HasNone e.kind (left_parenthesis ∷ x) e.rest e.events

  items_rules : Rules (inner_items_at version) AfterBracket
  unfolding inner_items_at
  items_rules = Rules-any _ _ _ (Rules-span is_space _ _ (λ s each. Rules-branch _ _ _ _ (λ _ _. Rules-give _ _)
      (Rules-bind (IsItemText version) _ _ (inner_item_at version) _ _ (Sound-inner_item version) (Rules-other _ Opened
      Ended HasNone _ _ shuns-inner_item) (λ t i h. Rules-led _ _ _ (Rules-bind _ _ _
      (many inner_item_events (next_item_at version)) _ _ (Sound-steps (IsNextItem version) IsClosed inner_item_events
      (right_parenthesis ∷ []) bracket (next_item_at version) (Sound-next_item version)) (Rules-many
      (IsNextItem version) IsClosed _ _ inner_item_events (next_item_at version) (Consumes-next_item version)
      (Sound-next_item version) (λ x e. Stands Opened Ended HasNone e.kind (left_parenthesis ∷ (s ++ (t ++ x))) e.rest
      (inner_item_events i ++ e.events)) (λ u is j. Rules-weaker _ _ _ (next_item_rules s t u i is each h j)
      (λ x e o. o))) (λ u is q. Rules-give _ _)))))
      )
      (λ e q. fail_at (List RawItem) UnterminatedInnerList AfterBracket [] e q (record {
        front = left_parenthesis ∷ [];
        text = refl;
        closes = ([], (right_parenthesis ∷ [], refl, bracket), refl);
        tight = record { before = []; last = left_parenthesis; text = refl; other = refl };
        longer = λ k. absurd cc;
        ends = λ _. refl;
      }))

  inner_rules : Rules (inner_at version)
      (λ x e. Stands (IsMemberText version) member_events HasNone e.kind (left_parenthesis ∷ x) e.rest
      (begins_inner_list ∷ e.events))
  unfolding inner_at
  inner_rules = Rules-bind _ _ _ _ _ _ (Sound-items _) (Rules-weaker _ _ _ items_rules (λ x e o. stands_within _ _ _ _ _
      _ [] (begins_inner_list ∷ []) (λ is b m. (
        inner_of is [],
        subst (IsMemberText version (inner_of is [])) (ap (λ (l : List ℕ). left_parenthesis ∷ l) (append-nil m.0)
            ∙ sym m.1) (inner_text _ _ _ _ _ m.2 (joining_none _)),
        λ n. n,
        refl,
      )) _ _ _ _ o))
      (λ s is h. Rules-other _ _ _ _ _ _ (Shuns-led _ _ (Shuns-bind _ _ (Shuns-parameters _) (λ ps. Shuns-give _))))

  member_rules : Rules (member_at version)
      (λ x e. Stands (IsMemberText version) member_events HasNone e.kind x e.rest e.events)
  unfolding member_at
  member_rules = Rules-branch _ _ _ _ (λ c is. Rules-weaker _ _ _ (Rules-led _ _ _ inner_rules) (λ x e o. subst
      (λ (c : ℕ). Stands (IsMemberText version) member_events HasNone e.kind (c ∷ x) e.rest e.events)
      (sym (eqb-true c left_parenthesis is)) o)) (Rules-other _ _ _ _ _ _ (Shuns-led _ _ (Shuns-bind _ _ (Shuns-item _)
      (λ i. Shuns-give _))))

  pub entry_rules : Rules (entry_at version)
      (λ x e. Stands (IsMemberText version) entry_events HasNone e.kind x e.rest e.events)
  unfolding entry_at
  entry_rules = Rules-led _ _ _ (Rules-weaker _ _ _ member_rules (λ x e o. stands_within _ _ member_events _ HasNone _
      [] (entry ∷ []) (λ m s h. (m, h, λ n. n, refl)) _ x e.rest e.events o))

  member_value_rules : Rules (member_value_at version)
      (λ x e. Stands (IsMemberValueText version) member_events HasNone e.kind x e.rest e.events)
  unfolding member_value_at
  member_value_rules = Rules-branch _ _ _ _ (λ c is. Rules-weaker _ _ _ member_rules (λ x e o. stands_within _ _ _ _ _ _
      (c ∷ []) [] (λ m s h. (
        m,
        subst (λ (c : ℕ). IsMemberValueText version m (c ∷ s)) (sym (eqb-true c equals_sign is)) (given _ _ _ h),
        λ n. n,
        refl,
      )) _ _ _ _ o))
      (Rules-other _ _ _ _ _ _ (Shuns-led _ _ (Shuns-bind _ _ (Shuns-parameters _) (λ ps. Shuns-give _))))

  pub keyed_rules : Rules (keyed_at version)
      (λ x e. Stands (IsDictionaryMemberText version) keyed_events HasNone e.kind x e.rest e.events)
  unfolding keyed_at
  keyed_rules = Rules-bind _ _ _ _ _ _ Sound-key (Rules-other _ _ _ _ _ _ Shuns-key) (λ k key h. Rules-led _ _ _
      (Rules-bind _ _ _ _ _ _ (Sound-member_value _) (Rules-weaker _ _ _ member_value_rules (λ x e o.
      stands_within _ _ _ _ _ _ _ (keyed_entry key ∷ []) (λ m s g.
      ((key, m), keyed _ _ _ _ _ h g, λ n. n, refl)) _ _ _ _ o)) (λ s m g. Rules-give _ _)))
