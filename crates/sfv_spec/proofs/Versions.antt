-- What RFC 8941 accepts, RFC 9651 accepts as the same field.
use Rattle.std.proofs.Common.{◌≡◌, ℕ, List, [], ◌∷◌, inl, inr, arith, ◌≤◌}
use Rattle.std.{specs.List.AllZip, proofs.lemmas.Bool.cases_lt}
use Rattle.sfv_spec.specs.Grammar.{Comma, IsBareText, IsValueText, IsParametersText, IsItemText, AreInnerItemsText}
use Rattle.sfv_spec.specs.Grammar.{IsMemberText, IsMemberValueText, IsDictionaryMemberText, AreMembersText}
use Rattle.sfv_spec.specs.{Statements.{NewerAccepts, OneReach}, Texts.{◌⨾◌, IsJoining, IsSeparated, IsLongestBeginning}}
use Rattle.sfv_spec.specs.Values.{BareValue, date, display_string, RawParameters, RawItem, RawMember, item, inner_list}
use Rattle.sfv_spec.specs.declared.field_kind.FieldKind.TheVariants.{Item as item_field, List as list_field}
use Rattle.sfv_spec.specs.declared.field_kind.FieldKind.TheVariants.{Dictionary as dictionary_field}
use Rattle.sfv_spec.specs.declared.version.Version.TheVariants.{Rfc8941, Rfc9651}
use Rattle.sfv_spec.proofs.{Marks.{IsParameterText, SomeSpaces}, Settled.parts_within}

second_within : {P Q Q' : List ℕ → Type 0} → ((t : List ℕ) → Q t → Q' t) → (t : List ℕ) → (P ⨾ Q) t → (P ⨾ Q') t
second_within = parts_within (λ _ h. h)

each_within : {A : Type 0} {P Q : A → List ℕ → Type 0} → ((x : A) (t : List ℕ) → P x t → Q x t)
    → (xs : List A) (ts : List (List ℕ)) → AllZip P xs ts → AllZip Q xs ts
each_within f [] [] e = tt
each_within f [] (t ∷ ts) e = absurd e
each_within f (x ∷ xs) [] e = absurd e
each_within f (x ∷ xs) (t ∷ ts) e = (f x t e.0, each_within f xs ts e.1)

joining_within : {A : Type 0} {P Q : A → List ℕ → Type 0} → ((x : A) (t : List ℕ) → P x t → Q x t)
    → (xs : List A) (t : List ℕ) → IsJoining P xs t → IsJoining Q xs t
joining_within f xs t h = record { pieces = h.pieces; text = h.text; each = each_within f xs h.pieces h.each }

separated_within : {A : Type 0} {P Q : A → List ℕ → Type 0} (S : List ℕ → Type 0)
    → ((x : A) (t : List ℕ) → P x t → Q x t) → (xs : List A) (t : List ℕ) → IsSeparated S P xs t → IsSeparated S Q xs t
separated_within S f [] t h = h
separated_within S f (x ∷ xs) t h = parts_within (f x) (joining_within (λ y. second_within (f y)) xs) t h

bare_within : (b : BareValue) (t : List ℕ) → IsBareText Rfc8941 b t → IsBareText Rfc9651 b t
bare_within (date z) t h = let e : Rfc8941 ≡ Rfc9651 = h.0 in absurd (cc)
bare_within (display_string s) t h = let e : Rfc8941 ≡ Rfc9651 = h.0 in absurd (cc)
bare_within b t h = h

value_within : (v : BareValue) (t : List ℕ) → IsValueText Rfc8941 v t → IsValueText Rfc9651 v t
value_within v t (inl h) = inl h
value_within v t (inr h) = inr (second_within (bare_within v) t h)

parameter_within : (p : List ℕ × BareValue) (t : List ℕ) → IsParameterText Rfc8941 p t → IsParameterText Rfc9651 p t
parameter_within p = second_within (second_within (second_within (value_within p.1)))

parameters_within : (ps : RawParameters) (t : List ℕ) → IsParametersText Rfc8941 ps t → IsParametersText Rfc9651 ps t
parameters_within = joining_within parameter_within

item_within : (i : RawItem) (t : List ℕ) → IsItemText Rfc8941 i t → IsItemText Rfc9651 i t
item_within i = parts_within (bare_within i.bare) (parameters_within i.parameters)

inner_items_within : (is : List RawItem) (t : List ℕ) → AreInnerItemsText Rfc8941 is t → AreInnerItemsText Rfc9651 is t
inner_items_within [] t h = h
inner_items_within (i ∷ is) t h = parts_within (separated_within SomeSpaces item_within (i ∷ is)) (λ _ g. g) t h

member_within : (m : RawMember) (t : List ℕ) → IsMemberText Rfc8941 m t → IsMemberText Rfc9651 m t
member_within (item i) t h = item_within i t h
member_within (inner_list l) t h = second_within (second_within
    (parts_within (inner_items_within l.items) (second_within (parameters_within l.parameters)))) t h

member_value_within : (m : RawMember) (t : List ℕ) → IsMemberValueText Rfc8941 m t → IsMemberValueText Rfc9651 m t
member_value_within m t (inl h) = inl (second_within (member_within m) t h)
member_value_within m t (inr h) = inr (h.0, h.1, parameters_within h.0 t h.2)

dictionary_member_within : (m : List ℕ × RawMember) (t : List ℕ) → IsDictionaryMemberText Rfc8941 m t
    → IsDictionaryMemberText Rfc9651 m t
dictionary_member_within m = second_within (member_value_within m.1)

members_within : {A : Type 0} {P Q : A → List ℕ → Type 0} → ((x : A) (t : List ℕ) → P x t → Q x t)
    → (xs : List A) (t : List ℕ) → AreMembersText P xs t → AreMembersText Q xs t
members_within f [] t h = h
members_within f (x ∷ xs) t h = second_within (parts_within (separated_within Comma f (x ∷ xs)) (λ _ g. g)) t h

pub newer_accepts_lem : NewerAccepts
newer_accepts_lem item_field i t h = second_within (parts_within (item_within i) (λ _ g. g)) t h
newer_accepts_lem list_field ms t h = members_within member_within ms t h
newer_accepts_lem dictionary_field ms t h = members_within dictionary_member_within ms t h

-- no two lengths are the longest
pub one_longest : {P : List ℕ → Type 0} {t : List ℕ} {m n : ℕ} → IsLongestBeginning P t m → IsLongestBeginning P t n
    → m ≡ n
one_longest {P} {t} {m} {n} g h = omega (arith, not_below h g, not_below g h)
  where
    not_below : {i j : ℕ} → IsLongestBeginning P t i → IsLongestBeginning P t j → j ≤ i
    not_below {i} {j} a b = elim (cases_lt i j) [ inl l ↦ absurd (a.longest j l b.within b.holds) | inr l ↦ l ]

pub one_reach_lem : OneReach
one_reach_lem version kind t m n g h = one_longest g h
