-- A text of an inner list, or of a member, is read, as that.
use Rattle.std.proofs.Common.{◌≡◌, ℕ, ◌≤◌, List, [], ◌∷◌, ◌++◌, length, Some, None, Ok, refl, sym, ap, ◌∙◌}
use Rattle.std.proofs.Common.{append_assoc, arith, inl, inr, length-append, eqb-true, true≢false}
use Rattle.sfv_spec.specs.{Classes.is_key_inner, Events.inner_item_events}
use Rattle.sfv_spec.specs.Grammar.{IsKeyText, IsParametersText, IsItemText, IsMemberText, IsMemberValueText}
use Rattle.sfv_spec.specs.{Grammar.IsDictionaryMemberText, Texts.RunOf}
use Rattle.sfv_spec.specs.Values.{RawParameters, RawItem, RawMember, item, inner_list}
use Rattle.sfv_spec.{specs.declared.version.Version.Version, proofs.Bare.is_bare_start}
use Rattle.sfv_spec.proofs.Marks.{tab, space, equals_sign, left_parenthesis, right_parenthesis, is_space}
use Rattle.sfv_spec.proofs.Marks.{is_space_or_tab}
use Rattle.sfv_model.specs.Members.{inner_item_at, next_item_at, inner_items_at, inner_of, inner_at, member_at}
use Rattle.sfv_model.specs.{Members.{entry_at, member_value_at, keyed_at}, Reader.{Apart, give}}
use Rattle.sfv_model.proofs.complete.Combinators.{Apart-cons, branch_past, branch_take, ahead_any, bind_complete}
use Rattle.sfv_model.proofs.complete.Combinators.{led_complete, span_complete}
use Rattle.sfv_model.proofs.complete.Items.{lengthens_item, key_apart, equals_apart, key_complete, key_no}
use Rattle.sfv_model.proofs.complete.Items.{parameters_complete, item_complete, item_begun, item_no, begun_some}
use Rattle.sfv_model.proofs.{complete.Items.space_ends, sound.Combinators.{run_head, run_tail}}
use Rattle.sfv_model.proofs.sound.{Many.many_complete, Members.{IsClosed, IsNextItem, IsItems, Consumes-next_item}}
use Rattle.sfv_model.proofs.texts.Joining.{joined_split, in_turn}

-- ---- inner items

pub inner_item_complete : (version : Version) (i : RawItem) (t q : List ℕ)
    → IsItemText version i t → Apart lengthens_item q → inner_item_at version (t ++ q) ≡ Ok (i, q)
unfolding inner_item_at
inner_item_complete version i t q h f = led_complete _ _ _ _ _ (item_complete version i t q h f)

bracket_ends : (q : List ℕ) → Apart lengthens_item (right_parenthesis ∷ q)
bracket_ends q = Apart-cons lengthens_item right_parenthesis q refl

bracket_no_space : (q : List ℕ) → Apart is_space (right_parenthesis ∷ q)
bracket_no_space q = Apart-cons is_space right_parenthesis q refl

pub next_item_complete : (version : Version) (i : RawItem) (t q : List ℕ) → IsNextItem version i t
    → Apart lengthens_item q → (next_item_at version (t ++ q) ≡ Ok (Some i, q)) × Apart lengthens_item (t ++ q)
unfolding next_item_at give
next_item_complete version i t q h f =
    let s = h.first in
    let all : t ++ q ≡ space ∷ (s.back ++ (h.back ++ q)) =
    ap (λ (l : List ℕ). l ++ q) (h.text ∙ ap (λ (l : List ℕ). l ++ h.back) (s.text
    ∙ ap (λ (l : List ℕ). l ++ s.back) s.first)) ∙ ap (λ (l : List ℕ). space ∷ l) (append_assoc s.back h.back q) in (
      ap (next_item_at version) all ∙ branch_take _ _ _ _ _ refl ∙ bind_complete _ _ _ _ _ (span_complete _ _ _ s.second
          (item_no _ _ _ _ _ refl h.second)) ∙ branch_past _ _ _ _ (item_no _ _ _ _ _ refl h.second)
          ∙ bind_complete _ _ _ _ _ (inner_item_complete _ _ _ _ h.second f),
      rw all (space_ends _),
    )

closed_on : (version : Version) (spaces q : List ℕ) → RunOf is_space spaces
    → (next_item_at version (spaces ++ right_parenthesis ∷ q) ≡ Ok (None, q))
    × Apart lengthens_item (spaces ++ right_parenthesis ∷ q)
unfolding next_item_at give
closed_on version [] q each = (branch_past _ _ _ _ (bracket_no_space _) ∙ branch_take _ _ _ _ _ refl, bracket_ends _)
closed_on version (c ∷ s) q each = (
  branch_take _ _ _ _ _ (run_head is_space c s each) ∙ bind_complete _ _ _ _ _ (span_complete _ _ _
      (run_tail is_space c s each) (bracket_no_space _)) ∙ branch_take _ _ _ _ _ refl,
  rw (eqb-true c space (run_head is_space c s each)) (space_ends _),
)

closed_whole : (e q : List ℕ) (h : IsClosed e) → e ++ q ≡ h.front ++ right_parenthesis ∷ q
closed_whole e q h = simp (h.text, h.second, append_assoc)

closed_complete : (version : Version) (e q : List ℕ) → IsClosed e
    → (next_item_at version (e ++ q) ≡ Ok (None, q)) × Apart lengthens_item (e ++ q)
closed_complete version e q h = rw (closed_whole e q h) (closed_on version h.front q h.first)

pub items_complete : (version : Version) (is : List RawItem) (t q : List ℕ) → IsItems version is t
    → inner_items_at version (t ++ q) ≡ Ok (is, q)
unfolding inner_items_at give
items_complete version [] t q h = ap (inner_items_at version) (closed_whole t q h)
    ∙ ahead_any _ _ (h.front ++ right_parenthesis ∷ q) (omega (arith, length-append {A = ℕ}))
    ∙ bind_complete _ _ _ _ _ (span_complete is_space h.front (right_parenthesis ∷ q) h.first (bracket_no_space q))
    ∙ branch_take _ _ _ right_parenthesis q refl
items_complete version (i ∷ is) t q h =
    let o = h.second in
    let more = many_complete inner_item_events (next_item_at version) (Consumes-next_item version) (IsNextItem version)
    IsClosed (Apart lengthens_item) q (λ v a q p f. next_item_complete version v a q p f)
    (λ e c. closed_complete version e q c) is o.back o.second in
    let all : t ++ q ≡ h.front ++ (o.front ++ (o.back ++ q)) =
    ap (λ (l : List ℕ). l ++ q) (h.text ∙ ap (λ (l : List ℕ). h.front ++ l) o.text) ∙ simp append_assoc in
    let some : 1 ≤ length (o.front ++ (o.back ++ q)) =
    begun_some is_bare_start (o.front ++ (o.back ++ q)) (item_begun version i o.front (o.back ++ q) o.first) in
    ap (inner_items_at version) all ∙ ahead_any _ _ (h.front ++ (o.front ++ (o.back ++ q)))
    (omega (arith, length-append {A = ℕ})) ∙ bind_complete _ _ _ _ _ (span_complete is_space h.front
    (o.front ++ (o.back ++ q)) h.first (item_no space version i o.front (o.back ++ q) refl o.first)) ∙ branch_past _ _ _
    (o.front ++ (o.back ++ q)) (item_no right_parenthesis version i o.front (o.back ++ q) refl o.first)
    ∙ bind_complete _ _ _ _ _ (inner_item_complete version i o.front (o.back ++ q) o.first more.1)
    ∙ led_complete _ _ _ _ _ (bind_complete _ _ _ _ _ more.0)

-- ---- inner lists

-- the items with the closing parenthesis, and the parameters
pub record Inner (version : Version) (is : List RawItem) (ps : RawParameters) (t : List ℕ) : Type 0 where
  pub items : List ℕ
  pub rest : List ℕ
  pub text : t ≡ left_parenthesis ∷ (items ++ rest)
  pub are_items : IsItems version is items
  pub are_parameters : IsParametersText version ps rest

pub inner_parts : (version : Version) (is : List RawItem) (ps : RawParameters) (t : List ℕ)
    → IsMemberText version (inner_of is ps) t → Inner version is ps t
inner_parts version [] ps t h =
    let s = h.second in
    let c = s.second.second in
    record {
      items = s.front ++ right_parenthesis ∷ [];
      rest = c.back;
      text = simp (h.text, h.first, s.text, s.second.text, s.second.first, c.text, c.first, append_assoc);
      are_items = in_turn s.front (right_parenthesis ∷ []) s.first refl;
      are_parameters = c.second;
    }
inner_parts version (i ∷ is) ps t h =
    let s = h.second in
    let c = s.second.second in
    let z = s.second.first in
    let o = z.first in
    let end : IsClosed (z.back ++ right_parenthesis ∷ []) = in_turn _ _ z.second refl in
    let whole : s.second.front ++ s.second.back ≡ (o.front ++ (o.back ++ (z.back ++ right_parenthesis ∷ [])))
    ++ c.back = ap (λ (l : List ℕ). l ++ s.second.back) (z.text ∙ ap (λ (l : List ℕ). l ++ z.back) o.text) ∙ ap
    (λ (l : List ℕ). ((o.front ++ o.back) ++ z.back) ++ l) (c.text ∙ ap (λ (l : List ℕ). l ++ c.back) c.first) ∙ simp
    append_assoc in
    record {
      items = s.front ++ (o.front ++ (o.back ++ (z.back ++ right_parenthesis ∷ [])));
      rest = c.back;
      text = simp (h.text, h.first, s.text, s.second.text, whole, append_assoc);
      are_items = in_turn _ _ s.first (in_turn _ _ o.first (joined_split _ _ _ _ _ o.second end));
      are_parameters = c.second;
    }

inner_complete : (version : Version) (is : List RawItem) (ps : RawParameters) (t q : List ℕ)
    → IsMemberText version (inner_of is ps) t → Apart lengthens_item q
    → member_at version (t ++ q) ≡ Ok (inner_of is ps, q)
unfolding member_at inner_at give
inner_complete version is ps t q h f =
    let p = inner_parts _ _ _ _ h in
    let all : t ++ q ≡ left_parenthesis ∷ (p.items ++ (p.rest ++ q)) = simp (p.text, append_assoc) in
    let parameters = parameters_complete _ _ _ _ p.are_parameters f in
    ap (member_at version) all ∙ branch_take _ _ _ _ _ refl ∙ led_complete _ _ _ _ _ (bind_complete _ _ _ _ _
    (items_complete _ _ _ _ p.are_items) ∙ led_complete _ _ _ _ _ (bind_complete _ _ _ _ _ parameters.0))

-- ---- members

pub member_complete : (version : Version) (m : RawMember) (t q : List ℕ) → IsMemberText version m t
    → Apart lengthens_item q → member_at version (t ++ q) ≡ Ok (m, q)
unfolding member_at give
member_complete version (item i) t q h f = branch_past _ _ _ (t ++ q) (item_no left_parenthesis version i t q refl h)
    ∙ led_complete _ _ _ _ _ (bind_complete _ _ _ _ _ (item_complete version i t q h f))
member_complete version (inner_list l) t q h f = inner_complete version l.items l.parameters t q h f

pub entry_complete : (version : Version) (m : RawMember) (t q : List ℕ) → IsMemberText version m t
    → Apart lengthens_item q → entry_at version (t ++ q) ≡ Ok (m, q)
unfolding entry_at
entry_complete version m t q h f = led_complete _ _ _ _ _ (member_complete version m t q h f)

-- a member begins with no blank, and is not empty
pub entry_fresh : (version : Version) (m : RawMember) (t q : List ℕ) → IsMemberText version m t
    → Apart is_space_or_tab (t ++ q) × (1 ≤ length (t ++ q))
entry_fresh version (item i) t q h = (
  record {
    apart = λ c e. rw ((item_no space version i t q refl h).apart c e, (item_no tab version i t q refl h).apart c e)
        refl;
  },
  begun_some is_bare_start (t ++ q) (item_begun version i t q h),
)
entry_fresh version (inner_list l) t q h =
    let p = inner_parts version l.items l.parameters t h in
    let all : t ++ q ≡ left_parenthesis ∷ ((p.items ++ p.rest) ++ q) = ap (λ (l : List ℕ). l ++ q) p.text in
    rw all (Apart-cons is_space_or_tab left_parenthesis _ refl, omega arith)

-- ---- members of dictionaries

member_value_complete : (version : Version) (m : RawMember) (t q : List ℕ) → IsMemberValueText version m t
    → Apart lengthens_item q → (member_value_at version (t ++ q) ≡ Ok (m, q)) × Apart is_key_inner (t ++ q)
unfolding member_value_at give
member_value_complete version m t q (inl h) f =
    let all : t ++ q ≡ equals_sign ∷ (h.back ++ q) =
    ap (λ (l : List ℕ). l ++ q) (h.text ∙ ap (λ (l : List ℕ). l ++ h.back) h.first) in (
      rw (all, branch_take _ _ _ equals_sign (h.back ++ q) refl, member_complete version m h.back q h.second f) refl,
      rw all (Apart-cons is_key_inner equals_sign (h.back ++ q) refl),
    )
member_value_complete version m t q (inr h) f =
    let ps = parameters_complete version h.0 t q h.2 f in (
      branch_past _ _ _ (t ++ q) (equals_apart (t ++ q) ps.1) ∙ led_complete _ _ _ _ _ (bind_complete _ _ _ _ _ ps.0)
          ∙ ap (λ (m : RawMember). Ok (m, q)) (sym h.1),
      key_apart (t ++ q) ps.1,
    )

pub keyed_complete : (version : Version) (m : List ℕ × RawMember) (t q : List ℕ) → IsDictionaryMemberText version m t
    → Apart lengthens_item q → keyed_at version (t ++ q) ≡ Ok (m, q)
unfolding keyed_at give
keyed_complete version m t q h f =
    let v = member_value_complete version m.1 h.back q h.second f in
    let all : t ++ q ≡ h.front ++ (h.back ++ q) = ap (λ (l : List ℕ). l ++ q) h.text ∙ append_assoc h.front h.back q in
    ap (keyed_at version) all ∙ bind_complete _ _ _ _ _ (key_complete m.0 h.front (h.back ++ q) h.first v.1)
    ∙ led_complete _ _ _ _ _ (bind_complete _ _ _ _ _ v.0)

key_some : (key t : List ℕ) → IsKeyText key t → 1 ≤ length t
key_some [] t k = absurd (true≢false (sym k.0))
key_some (c ∷ cs) t k = rw k.1 (omega arith)

pub keyed_fresh : (version : Version) (m : List ℕ × RawMember) (t q : List ℕ) → IsDictionaryMemberText version m t
    → Apart is_space_or_tab (t ++ q) × (1 ≤ length (t ++ q))
keyed_fresh version m t q h =
    let all : t ++ q ≡ h.front ++ (h.back ++ q) = ap (λ (l : List ℕ). l ++ q) h.text ∙ append_assoc h.front h.back q in
    let some = key_some m.0 h.front h.first in
    rw all (
      record {
        apart = λ c e. rw (
          (key_no space m.0 h.front (h.back ++ q) refl h.first).apart c e,
          (key_no tab m.0 h.front (h.back ++ q) refl h.first).apart c e,
        ) refl;
      },
      omega (arith, some, length-append h.front (h.back ++ q)),
    )
