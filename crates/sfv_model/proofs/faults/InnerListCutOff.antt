-- Where the end cuts an inner list off, that is the fault.
use Rattle.std.proofs.Common.{◌≡◌, ℕ, ◌≤◌, Bool, true, false, eqb, List, [], ◌∷◌, ◌++◌, length, Ok, Err, refl, sym, ap}
use Rattle.std.proofs.Common.{subst, ◌∙◌, append_assoc, arith, inl, inr, ◌⊎◌, flat_map, append-nil, length-append}
use Rattle.std.proofs.Common.{true≢false, eqb-true}
use Rattle.std.proofs.lemmas.{Bool.{both_ways, or_parts}, List.{append_cancel_right, nil_from_length}}
use Rattle.sfv_spec.specs.Classes.{is_key_inner}
use Rattle.sfv_spec.specs.Events.{TreeEvent, entry, keyed_entry, inner_item_events, entry_events, keyed_events, events}
use Rattle.sfv_spec.specs.Grammar.{IsKeyText, IsMemberValueText, IsMemberText, IsDictionaryMemberText, AreMembersText}
use Rattle.sfv_spec.specs.{Grammar.{IsFieldText, Comma}, Texts.{RunOf, IsJoining, ◌⨾◌}}
use Rattle.sfv_spec.specs.Values.{RawField, RawItem, RawInnerList, RawMember, item, inner_list}
use Rattle.sfv_spec.proofs.Bare.{is_bare_start}
use Rattle.sfv_spec.proofs.Marks.{space, equals_sign, left_parenthesis, right_parenthesis, comma, is_space}
use Rattle.sfv_spec.proofs.{Marks.{is_space_or_tab, tab}, Settled.{joining-nil, joining-cons}}
use Rattle.sfv_model.specs.Fields.{next_at, members_at, whole_field_at, ending, read_field}
use Rattle.sfv_model.specs.Members.{next_item_at, inner_items_at, inner_at, member_at, entry_at, member_value_at}
use Rattle.sfv_model.specs.{Members.keyed_at, Places.OpenListIsRead}
use Rattle.sfv_model.specs.Reader.{Fault, Reader, Apart, at_reach, after_events, fail, give, ◌>>=◌, led, branch, ahead}
use Rattle.sfv_model.specs.Reader.{many}
use Rattle.sfv_model.proofs.Types.{FieldKind, item_field, list_field, dictionary_field, Version, UnterminatedInnerList}
use Rattle.sfv_model.proofs.complete.Combinators.{ahead_take, Apart-nil, Apart-cons, Apart-part, branch_past}
use Rattle.sfv_model.proofs.complete.Combinators.{branch_take, ahead_any, bind_complete, span_complete}
use Rattle.sfv_model.proofs.complete.Fields.{comma_ends}
use Rattle.sfv_model.proofs.complete.Items.{blank_ends as blank_ends_item, lengthens_item, key_complete, item_no}
use Rattle.sfv_model.proofs.complete.Items.{item_begun, begun_some}
use Rattle.sfv_model.proofs.complete.Members.{inner_item_complete, next_item_complete, inner_parts, entry_complete}
use Rattle.sfv_model.proofs.complete.Members.{entry_fresh, keyed_complete, keyed_fresh}
use Rattle.sfv_model.proofs.faults.ItemEnds.{parted, tight_after, not_last, outer_parenthesis, item_tight}
use Rattle.sfv_model.proofs.faults.ItemEnds.{parameters_tight, key_tight, tight_both}
use Rattle.sfv_model.proofs.faults.PiecesToFault.{bind_met, led_met, many_met}
use Rattle.sfv_model.proofs.sound.Combinators.{run_head, run_tail, Reads, Goes}
use Rattle.sfv_model.proofs.sound.Members.{IsClosed, IsNextItem, Consumes-next_item, IsItems, Sound-entry, Sound-keyed}
use Rattle.sfv_model.proofs.sound.Separated.{IsNext, comma_complete, members_met, blank_ends}
use Rattle.sfv_model.proofs.texts.Joining.{events_push, split_joined, joining_none, joining_into, joining_push}

abbrev pub IsCut : Fault → Type 0
IsCut e = (e.kind ≡ UnterminatedInnerList) × (e.rest ≡ []) × (e.exact ≡ true)

abbrev pub Cut : {A : Type 0} → Reader A → List ℕ → Type 0
Cut f t = (e : Fault) × (f t ≡ Err e) × IsCut e

cut_bind : {A B : Type 0} (f : Reader A) (g : A → Reader B) (t : List ℕ) → Cut f t → Cut (f >>= g) t
cut_bind f g t c = (c.0, bind_met f g t c.0 c.1, c.2)

cut_led : {A : Type 0} (es : List TreeEvent) (f : Reader A) (t : List ℕ) → Cut f t → Cut (led es f) t
cut_led es f t c = (after_events es c.0, led_met es f t c.0 c.1, c.2)

-- ---- ends of texts

abbrev pub NoSpace : List ℕ → Type 0
NoSpace t = (u : List ℕ) → ¬ (t ≡ u ++ space ∷ [])

no_space_part : (s t : List ℕ) → NoSpace (s ++ t) → NoSpace t
no_space_part s t h u e = h (s ++ u) (ap (λ (l : List ℕ). s ++ l) e ∙ sym (append_assoc s u (space ∷ [])))

-- the last byte of two parts is that of the second
tail_of : (s t y : List ℕ) (n : ℕ) → y ++ n ∷ [] ≡ s ++ t → (t ≡ []) ⊎ ((w : List ℕ) × (t ≡ w ++ n ∷ []) × (y ≡ s ++ w))
tail_of [] t y n e = inr (y, sym e, refl)
tail_of (c ∷ s) t [] n e =
    let none : [] ≡ s ++ t = cc in
    inl (nil_from_length t (omega (arith, ap (length {A = ℕ}) none, length-append s t)))
tail_of (c ∷ s) t (d ∷ y) n e =
    let same : d ≡ c = cc in
    let tails : y ++ n ∷ [] ≡ s ++ t = cc in
    elim (tail_of s t y n tails) [ inl z ↦ inl z | inr w ↦ inr (w.0, w.1, cc (w.2)) ]

-- a run ends with a byte of its class
run_last : (class : ℕ → Bool) (w : List ℕ) (n : ℕ) → RunOf class (w ++ n ∷ []) → class n ≡ true
run_last class [] n each = run_head class n [] each
run_last class (c ∷ w) n each = run_last class w n (run_tail class c (w ++ n ∷ []) each)

-- blanks after which a parenthesis ends the text: there are none
no_blanks : (class : ℕ → Bool) (s t y : List ℕ) → class right_parenthesis ≡ false
    → y ++ right_parenthesis ∷ [] ≡ s ++ t → RunOf class t → y ++ right_parenthesis ∷ [] ≡ s
no_blanks class s t y none e each = elim (tail_of s t y right_parenthesis e) [
  | inl z ↦ e ∙ ap (λ (l : List ℕ). s ++ l) z ∙ append-nil s
  | inr w ↦ absurd (both_ways (class right_parenthesis) none (run_last class w.0 _ (rw w.1 at each)))
]

-- a run of spaces that ends with none
run_none : (t : List ℕ) → RunOf is_space t → NoSpace t → t ≡ []
run_none [] each h = refl
run_none (c ∷ t) each h =
    let rest : t ≡ [] = run_none t (run_tail is_space c t each) (no_space_part (c ∷ []) t h) in
    absurd (h [] (ap (λ (l : List ℕ). c ∷ l) rest
    ∙ ap (λ (c : ℕ). c ∷ []) (eqb-true c space (run_head is_space c t each))))

-- the last piece
pub joining_last : {A : Type 0} (P : A → List ℕ → Type 0) (v : A) (vs : List A) (t : List ℕ) → IsJoining P (v ∷ vs) t
    → (ws : List A) × (w : A) × (a b : List ℕ) × (t ≡ a ++ b) × IsJoining P ws a × P w b
joining_last P v [] t j =
    let c = joining-cons j in (
      [],
      v,
      [],
      c.front,
      c.text ∙ ap (λ (l : List ℕ). c.front ++ l) (joining-nil c.second) ∙ append-nil c.front,
      joining_none P,
      c.first,
    )
joining_last P v (x ∷ vs) t j =
    let c = joining-cons j in
    let m = joining_last P x vs c.back c.second in (
      v ∷ m.0,
      m.1,
      c.front ++ m.2,
      m.3,
      c.text ∙ ap (λ (l : List ℕ). c.front ++ l) m.4 ∙ sym (append_assoc c.front m.2 m.3),
      joining_into P v m.0 c.front m.2 c.first m.5,
      m.6,
    )

-- ---- the last of some members

module _ {A : Type 0} (P : A → List ℕ → Type 0) (parts : A → List TreeEvent) (one : Reader A) where
  -- a member, others, and no blanks after them
  abbrev pub members_of : (s t u : List ℕ) (m : A) (ms : List A) → RunOf is_space s → P m t
      → IsJoining (IsNext P parts one) ms u → AreMembersText P (m ∷ ms) (s ++ (t ++ u))
  members_of s t u m ms each h j = parted s (t ++ u) _ refl each
      (parted (t ++ u) [] _ (sym (append-nil (t ++ u))) (parted t u _ refl h j) refl)

  -- what stands in front of the last one: spaces, or members and a comma
  pub data Before : List ℕ → Type 0 where
    spaces : (s : List ℕ) → RunOf is_space s → Before s
    members : (m : A) (ms : List A) (s t u c : List ℕ) → RunOf is_space s → P m t
        → IsJoining (IsNext P parts one) ms u → Comma c → Before (s ++ (t ++ (u ++ c)))

  -- any member may stand there
  pub put : (b x : List ℕ) (n : A) → Before b → P n x → (m : A) × (ms : List A) × AreMembersText P (m ∷ ms) (b ++ x)
  put b x n (spaces _ each) h = (
    n,
    [],
    subst (λ (l : List ℕ). AreMembersText P (n ∷ []) (b ++ l)) (append-nil x)
        (members_of b x [] n [] each h (joining_none (IsNext P parts one))),
  )
  put _ x n (members m ms s t u c each k j sep) h = (
    m,
    ms ++ n ∷ [],
    subst (AreMembersText P (m ∷ (ms ++ n ∷ []))) (simp append_assoc) (members_of s t (u ++ (c ++ x)) m (ms ++ n ∷ [])
        each k (joining_push (IsNext P parts one) ms n u (c ++ x) j (parted c x _ refl sep h))),
  )

  -- the events of what stands in front
  abbrev pub front_events : {b : List ℕ} → Before b → List TreeEvent
  front_events (spaces _ each) = []
  front_events (members m ms s t u c each k j sep) = flat_map parts (m ∷ ms)

  pub put_events : (b x : List ℕ) (n : A) (p : Before b) (h : P n x)
      → flat_map parts ((put b x n p h).0 ∷ (put b x n p h).1) ≡ front_events p ++ parts n
  unfolding put
  put_events b x n (spaces _ each) h = append-nil (parts n)
  put_events _ x n (members m ms s t u c each k j sep) h = ap (λ (l : List TreeEvent). parts m ++ l) (sym (append-nil
      (flat_map parts (ms ++ n ∷ []))) ∙ events_push parts ms n [] ∙ ap (λ (l : List TreeEvent). flat_map parts ms ++ l)
      (append-nil (parts n))) ∙ sym (append_assoc (parts m) (flat_map parts ms) (parts n))

  -- the last one, with what stands in front of it and the blanks after it
  pub record IsLast (u : List ℕ) : Type 0 where
    pub before : List ℕ
    pub own : List ℕ
    pub blank : List ℕ
    pub value : A
    pub text : u ≡ before ++ (own ++ blank)
    pub means : P value own
    pub each : RunOf is_space_or_tab blank
    pub place : Before before

  -- there is a last one
  pub last_of : (m : A) (ms : List A) (u : List ℕ) → AreMembersText P (m ∷ ms) u → IsLast u
  last_of m ms u h = on ms o.back o.second (h.text ∙ simp (h.second.text, o.text, append_assoc))
    where
      o : (P m ⨾ IsJoining (IsNext P parts one) ms) h.second.front
      o = h.second.first

      on : (ms : List A) (x : List ℕ) → IsJoining (IsNext P parts one) ms x
          → u ≡ h.front ++ (o.front ++ (x ++ h.second.back)) → IsLast u
      on [] x j e = record {
        before = h.front;
        own = o.front;
        blank = h.second.back;
        value = m;
        text = rw (joining-nil j) at e;
        means = o.first;
        each = h.second.second;
        place = spaces h.front h.first;
      }
      on (v ∷ vs) x j e =
          let l = joining_last (IsNext P parts one) v vs x j in
          let c = l.6 in
          record {
            before = h.front ++ (o.front ++ (l.2 ++ c.front));
            own = c.back;
            blank = h.second.back;
            value = l.1;
            text = e ∙ ap (λ (y : List ℕ). h.front ++ (o.front ++ (y ++ h.second.back))) l.4
                ∙ simp (c.text, append_assoc);
            means = c.second;
            each = h.second.second;
            place = members m l.0 h.front o.front l.2 c.front h.first o.first l.5 c.first;
          }

-- ---- inner lists

module _ (version : Version) where
  cut_end : Cut (inner_items_at version) []
  unfolding inner_items_at ahead fail
  cut_end = (at_reach UnterminatedInnerList [], refl, (refl, refl, refl))

  next_cut : next_item_at version [] ≡ Err (at_reach UnterminatedInnerList [])
  unfolding next_item_at branch ahead fail
  next_cut = refl

  cut_items : (is : List RawItem) (x : List ℕ) → IsItems version is (x ++ right_parenthesis ∷ []) → NoSpace x
      → Cut (inner_items_at version) x
  unfolding inner_items_at give
  cut_items [] x h none =
      let same : x ≡ h.front = append_cancel_right x h.front (right_parenthesis ∷ [])
      (h.text ∙ ap (λ (l : List ℕ). h.front ++ l) h.second) in
      subst (Cut (inner_items_at version)) (sym (run_none x (subst (RunOf is_space) (sym same) h.first) none)) cut_end
  cut_items (i ∷ is) x h none =
      let o = h.second in
      let m = split_joined (IsNextItem version) IsClosed is o.back o.second in
      let z = m.second in
      let front : List ℕ = h.front ++ (o.front ++ m.front) in
      let whole : x ++ right_parenthesis ∷ [] ≡ (front ++ z.front) ++ right_parenthesis ∷ [] = h.text ∙ ap
      (λ (l : List ℕ). h.front ++ l) (o.text ∙ ap (λ (l : List ℕ). o.front ++ l) (m.text ∙ ap
      (λ (l : List ℕ). m.front ++ l) (z.text ∙ ap (λ (l : List ℕ). z.front ++ l) z.second))) ∙ simp append_assoc in
      let same : x ≡ front ++ z.front = append_cancel_right x (front ++ z.front) (right_parenthesis ∷ []) whole in
      let ended : z.front ≡ [] = run_none z.front z.first (no_space_part front z.front (subst NoSpace same none)) in
      let all : x ≡ h.front ++ (o.front ++ (m.front ++ [])) =
      same ∙ ap (λ (l : List ℕ). front ++ l) ended ∙ simp append_assoc in
      let more = many_met inner_item_events (next_item_at version) (Consumes-next_item version) (IsNextItem version)
      (Apart lengthens_item) (λ v a q p f. next_item_complete version v a q p f) []
      (at_reach UnterminatedInnerList []) next_cut (Apart-nil lengthens_item) is m.front m.first in
      let q : List ℕ = m.front ++ [] in
      let some = begun_some is_bare_start (o.front ++ q) (item_begun version i o.front q o.first) in (
        _,
        ap (inner_items_at version) all
            ∙ ahead_any _ _ (h.front ++ (o.front ++ q)) (omega (arith, some, length-append {A = ℕ}))
            ∙ bind_complete _ _ _ _ _ (span_complete is_space h.front (o.front ++ q) h.first (item_no space version i
            o.front q refl o.first)) ∙ branch_past _ _ _ (o.front ++ q) (item_no right_parenthesis version i o.front q
            refl o.first) ∙ bind_complete _ _ _ _ _ (inner_item_complete version i o.front q o.first more.1)
            ∙ led_met _ _ _ _ (bind_met _ _ _ _ more.0),
        (refl, refl, refl),
      )

  -- ---- members

  cut_inner : (l : RawInnerList) (b : List ℕ) (x rest : List ℕ) → IsItems version l.items b
      → (rest ≡ []) → x ++ right_parenthesis ∷ [] ≡ left_parenthesis ∷ (b ++ rest) → NoSpace x
      → Cut (member_at version) x × (1 ≤ length x)
  unfolding member_at inner_at
  cut_inner l b [] rest h z e none = absurd (let heads : right_parenthesis
      ≡ left_parenthesis = cc in omega (arith, heads))
  cut_inner l b (c ∷ x) rest h z e none =
      let head : c ≡ left_parenthesis = cc in
      let tail : x ++ right_parenthesis ∷ [] ≡ b ++ rest = cc in
      let same : b ≡ x ++ right_parenthesis ∷ [] =
      sym (append-nil b) ∙ ap (λ (l : List ℕ). b ++ l) (sym z) ∙ sym tail in
      let cut = cut_items _ _ (subst (IsItems version l.items) same h) (no_space_part (c ∷ []) _ none) in
      let inner = cut_led _ _ _ (cut_bind _ _ _ cut) in (
        (inner.0, ap (λ (c : ℕ). member_at version (c ∷ x)) head ∙ branch_take _ _ _ _ _ refl ∙ inner.1, inner.2),
        omega arith,
      )

  cut_member : (m : RawMember) (y : List ℕ) → IsMemberText version m (y ++ right_parenthesis ∷ []) → NoSpace y
      → Cut (member_at version) y × (1 ≤ length y)
  cut_member (item i) y h none = absurd (not_last _ _ _ (item_tight _ outer_parenthesis _ _ _ h) refl)
  cut_member (inner_list l) y h none =
      let p = inner_parts _ _ _ _ h in
      elim (parameters_tight _ outer_parenthesis _ _ _ p.are_parameters) [
        | inl z ↦ cut_inner l _ _ _ p.are_items z p.text none
        | inr k ↦ absurd (not_last _ _ _ (tight_after _ (left_parenthesis ∷ p.items) _ k) (sym p.text))
      ]

  cut_entry : (m : RawMember) (y : List ℕ) → IsMemberText version m (y ++ right_parenthesis ∷ []) → NoSpace y
      → Cut (entry_at version) y × (1 ≤ length y)
  unfolding entry_at
  cut_entry m y h none = let c = cut_member m y h none in (cut_led (entry ∷ []) (member_at version) y c.0, c.1)

  cut_value : (key : List ℕ) (m : RawMember) (k v y : List ℕ) → IsKeyText key k → IsMemberValueText version m v
      → y ++ right_parenthesis ∷ [] ≡ k ++ v → NoSpace y → Cut (keyed_at version) y × (1 ≤ length y)
  unfolding keyed_at member_value_at
  cut_value key m k v y h (inr ps) e none =
      let tight = key_tight right_parenthesis outer_parenthesis key k h in
      absurd (not_last right_parenthesis (k ++ v) y (tight_both right_parenthesis outer_parenthesis k v tight
      (parameters_tight right_parenthesis outer_parenthesis version ps.0 v ps.2)) (sym e))
  cut_value key m k v y h (inl g) e none =
      elim (tail_of (k ++ equals_sign ∷ []) g.back y right_parenthesis (e ∙ simp (g.text, g.first, append_assoc))) [
        | inl z ↦ absurd (let some = (entry_fresh version m g.back [] g.second).1 in
            omega (arith, ap (length {A = ℕ}) (append-nil g.back ∙ z), some))
        | inr w ↦
            let whole : y ≡ k ++ equals_sign ∷ w.0 = w.2 ∙ append_assoc k (equals_sign ∷ []) w.0 in
            let some : 1 ≤ length y = omega (arith, ap (length {A = ℕ}) whole, length-append k (equals_sign ∷ w.0)) in
            let c = cut_member m w.0 (subst (IsMemberText version m) w.1 g.second)
            (no_space_part (k ++ equals_sign ∷ []) w.0 (subst NoSpace w.2 none)) in
            let rest = cut_led (keyed_entry key ∷ []) (member_value_at version >>= λ m. give (key, m))
            (equals_sign ∷ w.0) (cut_bind (member_value_at version) (λ m. give (key, m)) (equals_sign ∷ w.0)
            (c.0.0, branch_take _ _ _ equals_sign w.0 refl ∙ c.0.1, c.0.2)) in (
              (
                rest.0,
                ap (keyed_at version) whole ∙ bind_complete _ _ _ _ _ (key_complete key k (equals_sign ∷ w.0) h
                    (Apart-cons is_key_inner equals_sign w.0 refl)) ∙ rest.1,
                rest.2,
              ),
              some,
            )
      ]

  pub cut_keyed : (m : List ℕ × RawMember) (y : List ℕ) → IsDictionaryMemberText version m (y ++ right_parenthesis ∷ [])
      → NoSpace y → Cut (keyed_at version) y × (1 ≤ length y)
  cut_keyed m y h none = cut_value m.0 m.1 h.front h.back y h.first h.second h.text none

-- ---- members with commas between them

apart_part : (class : ℕ → Bool) (y q : List ℕ) → Apart class (y ++ q) → Apart class y
apart_part class [] q h = Apart-nil class
apart_part class (c ∷ y) q h = Apart-cons class c y (h.apart c refl)

module _ {A : Type 0} (P : A → List ℕ → Type 0) (parts : A → List TreeEvent) (one : Reader A)
    (again : (m : A) (t q : List ℕ) → P m t → Apart lengthens_item q → one (t ++ q) ≡ Ok (m, q))
    (fresh : (m : A) (t q : List ℕ) → P m t → Apart is_space_or_tab (t ++ q) × (1 ≤ length (t ++ q)))
    (reads : Reads one P (Goes P parts))
    (cut : (m : A) (y : List ℕ) → P m (y ++ right_parenthesis ∷ []) → NoSpace y → Cut one y × (1 ≤ length y)) where
  -- a comma, and what may stand around it
  comma_text : (c y : List ℕ) (h : Comma c) → c ++ y ≡ h.front ++ comma ∷ (h.second.back ++ y)
  comma_text c y h = simp (h.text, h.second.text, h.second.first, append_assoc)

  -- one after a comma
  comma_cut : (c y : List ℕ) → Comma c → (x : Cut one y) → 1 ≤ length y → Apart is_space_or_tab y
      → next_at one (c ++ y) ≡ Err x.0
  unfolding next_at
  comma_cut c y h x some no_blank =
      let k = h.second in
      ap (next_at one) (comma_text c y h) ∙ bind_complete _ _ _ _ _ (span_complete is_space_or_tab h.front (comma ∷
      (k.back ++ y)) h.first (Apart-cons is_space_or_tab comma (k.back ++ y) refl)) ∙ ahead_any _ _ _ (omega arith)
      ∙ ahead_take _ _ _ comma (k.back ++ y) refl ∙ bind_complete _ _ _ _ _ (comma_complete P parts one k.back y
      k.second no_blank some) ∙ bind_met _ _ _ _ x.1

  -- the last
  cut_last : (b y : List ℕ) → Before P parts one b → Cut one y → 1 ≤ length y → Apart is_space_or_tab y
      → Cut (members_at parts one) (b ++ y)
  unfolding members_at
  cut_last s y (spaces _ each) c some no_blank =
      let m = cut_bind one (λ m. led (parts m) (many parts (next_at one) >>= λ ms. give (m ∷ ms))) y c in (
        m.0,
        bind_complete _ _ _ _ _ (span_complete is_space s y each (Apart-part is_space is_space_or_tab y
            (λ c e. (or_parts (is_space c) (eqb c tab) e).0) no_blank)) ∙ ahead_any _ _ y some ∙ m.1,
        m.2,
      )
  cut_last _ y (members m ms s t u c each k j h) x some no_blank =
      let blank = blank_ends P parts one (Apart lengthens_item) again fresh blank_ends_item comma_ends
      (Apart-nil lengthens_item) in (
        _,
        ap (members_at parts one) (simp append_assoc) ∙ members_met P parts one (Apart lengthens_item) again fresh
            blank_ends_item comma_ends (Apart-nil lengthens_item) reads m ms (s ++ (t ++ u)) (c ++ y) x.0
            (members_of P parts one s t u m ms each k j) (comma_cut c y h x some no_blank) (subst (Apart lengthens_item)
            (sym (comma_text c y h)) (blank h.front (comma ∷ (h.second.back ++ y)) h.first (comma_ends _))),
        x.2,
      )

  pub cut_members : (ms : List A) (y : List ℕ) → AreMembersText P ms (y ++ right_parenthesis ∷ []) → NoSpace y
      → Cut (members_at parts one) y
  cut_members [] y h none = absurd (true≢false (sym (run_last is_space y right_parenthesis h)))
  cut_members (m ∷ ms) y h none =
      let l = last_of P parts one m ms (y ++ right_parenthesis ∷ []) h in
      elim (tail_of l.before l.own y right_parenthesis (no_blanks is_space_or_tab (l.before ++ l.own) l.blank y refl
      (l.text ∙ sym (append_assoc l.before l.own l.blank)) l.each)) [
        | inl n ↦ absurd (let some = (fresh l.value l.own [] l.means).1 in
            omega (arith, ap (length {A = ℕ}) (append-nil l.own ∙ n), some))
        | inr w ↦
            let p : P l.value (w.0 ++ right_parenthesis ∷ []) = subst (P l.value) w.1 l.means in
            let c = cut l.value w.0 p (no_space_part l.before w.0 (subst NoSpace w.2 none)) in
            subst (Cut (members_at parts one)) (sym w.2) (cut_last l.before w.0 l.place c.0 c.1 (apart_part
            is_space_or_tab w.0 (right_parenthesis ∷ []) (apart_part is_space_or_tab (w.0 ++ right_parenthesis ∷ []) []
            (fresh l.value (w.0 ++ right_parenthesis ∷ []) [] p).0)))
      ]

-- ---- fields

pub cut_field : (version : Version) (kind : FieldKind) (raw : RawField kind) (t : List ℕ)
    → IsFieldText version kind raw (t ++ right_parenthesis ∷ []) → NoSpace t → Cut (whole_field_at version kind) t
unfolding whole_field_at
cut_field version item_field i t h none =
    let o = h.second in
    absurd (not_last right_parenthesis (h.front ++ o.front) t (tight_after right_parenthesis h.front o.front
    (item_tight right_parenthesis outer_parenthesis version i o.front o.first))
    (sym (no_blanks is_space (h.front ++ o.front) o.back t refl (simp (h.text, o.text, append_assoc)) o.second)))
cut_field version list_field ms t h none = cut_members (IsMemberText version) entry_events (entry_at version)
    (entry_complete version) (entry_fresh version) (Sound-entry version) (cut_entry version) ms t h none
cut_field version dictionary_field ms t h none = cut_members (IsDictionaryMemberText version) keyed_events
    (keyed_at version) (keyed_complete version) (keyed_fresh version) (Sound-keyed version)
    (cut_keyed version) ms t h none

pub open_list_is_read : OpenListIsRead
unfolding read_field
open_list_is_read version kind t a none =
    let c = cut_field version kind a.0 t a.1 none in
    (c.0, ap (ending (events kind)) c.1, c.2.0, c.2.1, c.2.2)
