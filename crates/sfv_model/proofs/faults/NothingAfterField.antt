-- A parameter and a parenthesis stand nowhere after a whole field with a member.
use Rattle.std.proofs.Common.{◌≡◌, ℕ, true, eqb, List, [], ◌∷◌, ◌++◌, refl, sym, ap, subst, ◌∙◌, append_assoc, inl, inr}
use Rattle.std.proofs.{Common.{codes, append-nil}, lemmas.Bool.{or_left, and_from}, lemmas.List.Folds.list_all-append}
use Rattle.sfv_spec.specs.Events.{TreeEvent, entry_events, keyed_events}
use Rattle.sfv_spec.specs.Grammar.{IsParametersText, IsMemberText, IsMemberValueText, IsDictionaryMemberText}
use Rattle.sfv_spec.specs.{Grammar.{AreMembersText, IsItemText, Spaces, IsFieldText, IsAccepted}, Texts.{RunOf, ◌⨾◌}}
use Rattle.sfv_spec.specs.Values.{RawField, RawMember, item, inner_list, boolean, RawParameters, RawItem, HasMember}
use Rattle.sfv_spec.proofs.Marks.{tab, semicolon, is_space, is_space_or_tab, true_with}
use Rattle.sfv_model.specs.{Commas.HasManyMembers, Fields.{next_at, whole_field_at}}
use Rattle.sfv_model.specs.{Members.{inner_of, entry_at, keyed_at}, Reader.{Apart, Reader}}
use Rattle.sfv_model.proofs.Types.{FieldKind, item_field, list_field, dictionary_field, Version}
use Rattle.sfv_model.proofs.complete.{Combinators.Apart-cons, Fields.{item_field_complete, field_complete}}
use Rattle.sfv_model.proofs.complete.{Items.{lengthens_item, blank_ends}, Members.inner_parts}
use Rattle.sfv_model.proofs.faults.BetweenInnerItems.{parameter_a, item_longer}
use Rattle.sfv_model.proofs.faults.InnerListCutOff.{IsLast, last_of, put}
use Rattle.sfv_model.proofs.faults.{ItemEnds.{parted, second_longer}, TrailingCommas.{met, byte_met, not_bracketed}}
use Rattle.sfv_model.proofs.{sound.Combinators.run_head, sound.Members.inner_text, texts.Joining.joining_push}

-- ---- one more parameter

module _ (version : Version) where
  abbrev more_parameters : RawParameters → RawParameters
  more_parameters ps = ps ++ (codes "a", boolean true) ∷ []

  parameters_longer : (ps : RawParameters) (t : List ℕ) → IsParametersText version ps t
      → IsParametersText version (more_parameters ps) (t ++ codes ";a")
  parameters_longer ps t h = joining_push _ _ _ _ _ h (parameter_a version)

  member_longer : (m : RawMember) (t : List ℕ) → IsMemberText version m t
      → (n : RawMember) × IsMemberText version n (t ++ codes ";a")
  member_longer (item i) t h = let j = item_longer version i t h in (item j.0, j.1)
  member_longer (inner_list l) t h =
      let p = inner_parts _ _ _ _ h in (
        inner_of l.items (more_parameters l.parameters),
        subst (IsMemberText version (inner_of l.items (more_parameters l.parameters))) (sym (ap
            (λ (l : List ℕ). l ++ codes ";a") p.text ∙ simp append_assoc)) (inner_text _ _ _ _ _ p.are_items
            (parameters_longer _ _ p.are_parameters)),
      )

  value_longer : (m : RawMember) (t : List ℕ) → IsMemberValueText version m t
      → (n : RawMember) × IsMemberValueText version n (t ++ codes ";a")
  value_longer m t (inl h) = let n = member_longer m h.back h.second in (n.0, inl (second_longer t (codes ";a") h n.1))
  value_longer m t (inr h) = (
    true_with (more_parameters h.0),
    inr (more_parameters h.0, refl, parameters_longer h.0 t h.2),
  )

  keyed_longer : (m : List ℕ × RawMember) (t : List ℕ) → IsDictionaryMemberText version m t
      → (n : List ℕ × RawMember) × IsDictionaryMemberText version n (t ++ codes ";a")
  keyed_longer m t h = let n = value_longer m.1 h.back h.second in ((m.0, n.0), second_longer t (codes ";a") h n.1)

-- some members: the last one gets a parameter, unless blanks follow it
module _ {A : Type 0} (P : A → List ℕ → Type 0) (parts : A → List TreeEvent) (one : Reader A)
    (longer : (m : A) (t : List ℕ) → P m t → (n : A) × P n (t ++ codes ";a")) where
  -- what holds if the last member ends the text, and if blanks do, holds
  ending : (m : A) (ms : List A) (u : List ℕ) (Q : Type 0) → AreMembersText P (m ∷ ms) u
      → ((ns : List A) → AreMembersText P ns (u ++ codes ";a") → Q)
      → ((n : A) (ns : List A) (t : List ℕ) (c : ℕ) (z : List ℕ) → u ≡ t ++ c ∷ z → AreMembersText P (n ∷ ns) t
      → RunOf is_space_or_tab (c ∷ z) → Q) → Q
  ending m ms u Q h ended spaced = on l.blank l.text l.each
    where
      l : IsLast P parts one u
      l = last_of P parts one m ms u h

      on : (z : List ℕ) → u ≡ l.before ++ (l.own ++ z) → RunOf is_space_or_tab z → Q
      on [] e each =
          let n = longer l.value l.own l.means in
          let p = put P parts one l.before (l.own ++ codes ";a") n.0 l.place n.1 in
          ended (p.0 ∷ p.1) (subst (AreMembersText P (p.0 ∷ p.1))
          (sym (ap (λ (x : List ℕ). x ++ codes ";a") e ∙ simp (append_assoc, append-nil))) p.2)
      on (c ∷ z) e each =
          let p = put P parts one l.before l.own l.value l.place l.means in
          spaced p.0 p.1 _ c z (e ∙ sym (append_assoc l.before l.own (c ∷ z))) p.2 each

-- ---- fields

-- if a parameter can stand there, a parenthesis can't stand after it
not_after : (version : Version) (kind : FieldKind) (u : List ℕ) → IsAccepted version kind (u ++ codes ";a")
    → ¬ IsAccepted version kind (u ++ codes ";a)")
not_after version kind u a b = not_bracketed version kind (u ++ codes ";a") a
    (subst (IsAccepted version kind) (sym (append_assoc u (codes ";a") (codes ")"))) b)

-- after blanks neither can
not_spaced : (version : Version) (kind : FieldKind) (raw : RawField kind) (u t z : List ℕ) (c : ℕ)
    → HasManyMembers kind → HasMember kind raw → u ≡ t ++ c ∷ z → IsFieldText version kind raw t
    → RunOf is_space_or_tab (c ∷ z) → ¬ IsAccepted version kind (u ++ codes ";a)")
not_spaced version kind raw u t z c many has e h each a =
    let q : List ℕ = (c ∷ z) ++ codes ";a)" in
    let fault = met _ _ _ _ _ _ many has h (λ A one y blank. ap (next_at one)
    (sym (append_assoc y (c ∷ z) (codes ";a)"))) ∙ byte_met _ _ _ _ refl refl (list_all-append is_space_or_tab y (c ∷ z)
    ∙ and_from _ _ blank each)) (blank_ends _ _ (run_head is_space_or_tab c z each)) in
    let read = field_complete _ _ _ _ a.1 in
    let same : u ++ codes ";a)" ≡ t ++ q = ap (λ (l : List ℕ). l ++ codes ";a)") e ∙ append_assoc t (c ∷ z) _ in
    absurd (let both = sym read ∙ ap (whole_field_at version kind) same ∙ fault in cc)

item_not : (version : Version) (i : RawItem) (u : List ℕ) → IsFieldText version item_field i u
    → ¬ IsAccepted version item_field (u ++ codes ";a)")
item_not version i u h a = on h.second.back refl
  where
    o : (IsItemText version i ⨾ Spaces) h.back
    o = h.second

    on : (z : List ℕ) → h.second.back ≡ z → ⊥
    on [] e =
        let j = item_longer version i o.front o.first in
        let whole : u ++ codes ";a" ≡ h.front ++ ((o.front ++ codes ";a") ++ []) =
        ap (λ (l : List ℕ). l ++ codes ";a") h.text ∙ simp (o.text, e, append_assoc, append-nil) in
        not_after version item_field u
        (j.0, parted h.front _ _ whole h.first (parted (o.front ++ codes ";a") [] _ refl j.1 refl)) a
    on (c ∷ z) e =
        let blank : is_space c ≡ true = run_head is_space c z (subst (RunOf is_space) e o.second) in
        let f : Apart lengthens_item (h.second.back ++ codes ";a)") =
        rw e (blank_ends c (z ++ codes ";a)") (or_left (is_space c) (eqb c tab) blank)) in
        let read = item_field_complete version i u (codes ";a)") h (Apart-cons is_space semicolon
        (codes "a)") refl) f in
        let other = field_complete version item_field a.0 _ a.1 in
        let pairs : ◌≡◌ {A = RawItem × List ℕ} (i, codes ";a)") (a.0, []) = let both = sym read ∙ other in cc in
        let rest : codes ";a)" ≡ [] = ap (λ (x : RawItem × List ℕ). x.1) pairs in cc

pub not_longer : (version : Version) (kind : FieldKind) (raw : RawField kind) (u : List ℕ) → HasMember kind raw
    → IsFieldText version kind raw u → ¬ IsAccepted version kind (u ++ codes ";a)")
not_longer version item_field raw u has h a = item_not version raw u h a
not_longer version list_field [] u has h a = absurd (let none = has.2 in cc)
not_longer version list_field (m ∷ ms) u has h a = ending (IsMemberText version) entry_events (entry_at version)
    (member_longer version) m ms u ⊥ h (λ ns k. not_after version list_field u (ns, k) a) (λ n ns t c z e k each.
    not_spaced version list_field (n ∷ ns) u t z c tt (n, ns, refl) e k each a)
not_longer version dictionary_field [] u has h a = absurd (let none = has.2 in cc)
not_longer version dictionary_field (m ∷ ms) u has h a = ending (IsDictionaryMemberText version) keyed_events
    (keyed_at version) (keyed_longer version) m ms u ⊥ h (λ ns k. not_after version dictionary_field u (ns, k) a) (λ n
    ns t c z e k each. not_spaced version dictionary_field (n ∷ ns) u t z c tt (n, ns, refl) e k each a)
