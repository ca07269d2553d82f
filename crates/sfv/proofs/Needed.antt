-- The text of a list or of a dictionary with a member may need memory.
use Rattle.std.proofs.Common.{◌≡◌, ◌==◌, ℕ, List, [], ◌∷◌, not, ap, sym, ◌∙◌, refl, inl, inr, arith, Result, Ok, Err}
use Rattle.std.proofs.Common.{◌⊎◌, IsTrue, IfErr, Contains}
use Rattle.std.proofs.lemmas.{Bool.cases_Bool, List.Elements.{Contains-append_right, Contains-get_or}}
use Rattle.sfv_spec.specs.{Ascii.byte, Grammar.Spaces}
use Rattle.sfv.specs.Field.{RawField, HasMember, FieldKind, item_field, list_field, dictionary_field, Version, ordered}
use Rattle.sfv.specs.{Field.{IsParsedAs, NeedsMemory}, Memory.may_need_memory, Types.Error}
use Rattle.sfv_spec.specs.Ordered as order

-- some byte of the text may need memory in this type of field
abbrev pub HasByte : FieldKind → List ℕ → Type 0
HasByte kind t = (c : ℕ) × Contains t c × IsTrue (may_need_memory kind c)

spaces_or_not : (t : List ℕ) → Spaces t ⊎ HasByte dictionary_field t
spaces_or_not [] = inl refl
spaces_or_not (c ∷ t) = elim (cases_Bool (c == byte " ")) [
  | inl space ↦ elim (spaces_or_not t) [
    | inl all ↦ inl (rw space all)
    | inr one ↦ inr (one.0, Contains-append_right (c ∷ []) t one.0 one.1, one.2)
  ]
  | inr other ↦ inr (c, Contains-get_or (c ∷ t) 0 0 (omega arith), ap not other)
]

-- a text of spaces is the empty list and the empty dictionary
pub member_needs : (version : Version) (kind : FieldKind) (t : List ℕ) (value : RawField kind) → ¬ (kind ≡ item_field)
    → IsParsedAs version kind t value → HasMember kind value → HasByte kind t
unfolding order.collapse
member_needs version item_field t value other h some = absurd (other refl)
member_needs version list_field t value other h some = elim (spaces_or_not t) [
  | inl blank ↦
      let none : value ≡ [] = h.holds ∙ ap (ordered list_field) (sym (h.only [] blank)) in
      absurd (let member : some.0 ∷ some.1 ≡ [] = sym some.2 ∙ none in cc)
  | inr one ↦ one
]
member_needs version dictionary_field t value other h some = elim (spaces_or_not t) [
  | inl blank ↦
      let none : value ≡ [] = h.holds ∙ ap (ordered dictionary_field) (sym (h.only [] blank)) in
      absurd (let member : some.0 ∷ some.1 ≡ [] = sym some.2 ∙ none in cc)
  | inr one ↦ one
]

pub needed : {T : Type 0} (kind : FieldKind) (t : List ℕ) (r : Result T Error) → HasByte kind t
    → IfErr r (NeedsMemory kind t)
needed kind t (Ok x) h = tt
needed kind t (Err e) h = λ same. h
