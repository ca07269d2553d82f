-- Only one thing is wanted after a text.
use Rattle.std.proofs.Common.{◌≡◌, ℕ, List, [], ◌++◌, Err, refl, sym, ap, ◌∙◌, inl, inr, ◌⊎◌, codes}
use Rattle.sfv_spec.specs.{Events.events, Faults.{WantedFault, bare_item, key, delimiter, end}, Grammar.IsAccepted}
use Rattle.sfv_spec.proofs.Marks.{comma, semicolon, is_space}
use Rattle.sfv_model.specs.{Bare.{token_at, bare_at}, Fields.{whole_field_at, ending, read_field}}
use Rattle.sfv_model.specs.{Items.key_at, Judgements.IsFault, Places.IsLike, Reader.{Fault, fail, branch, ahead}}
use Rattle.sfv_model.proofs.Types.{FieldKind, item_field, list_field, dictionary_field, Version, ErrorKind}
use Rattle.sfv_model.proofs.Types.{TrailingComma, TrailingCharactersAfterMember, TrailingCharactersAfterParsedValue}
use Rattle.sfv_model.proofs.Types.{ExpectedInnerListDelimiter, ExpectedStartOfBareItem, ExpectedStartOfKey}
use Rattle.sfv_model.proofs.complete.{Combinators.Apart-cons, Fields.{spaces_end, comma_ends, item_field_complete}}
use Rattle.sfv_model.proofs.faults.{NothingAfterField.not_longer, TrailingCommas.{comma_after, has_many}}
use Rattle.sfv_model.proofs.places.CalledIsWanted.{ends_faulty, not_accepted}
use Rattle.sfv_model.proofs.places.{Calls.Calls, WantedIsCalled.{calls_wanted, calls_wanted_key}}
use Rattle.sfv_model.proofs.places.Calls as calls

-- what is wanted, by the fault of a comma that stands there
abbrev by_comma : ErrorKind → ErrorKind
by_comma TrailingComma = TrailingCharactersAfterMember
by_comma k = k

-- a comma there is at fault, and an inner list doesn't go on
record Tells (version : Version) (kind : FieldKind) (u : List ℕ) (f : ErrorKind) : Type 0 where
  pub fault : Fault
  pub is_fault : read_field version kind (u ++ codes ",") ≡ Err fault
  pub kind_of : by_comma fault.kind ≡ f
  pub outside : ¬ IsAccepted version kind (u ++ codes ";a)")

-- by the fault of a comma, and one of what follows an inner list
tells_by : (version : Version) (kind : FieldKind) (u : List ℕ) (x : Fault)
    → (e : Fault) × (whole_field_at version kind (u ++ codes ",") ≡ Err e) × IsLike x e
    → IsFault (whole_field_at version kind (u ++ codes ";a)")) → Tells version kind u (by_comma x.kind)
tells_by version kind u x m n = record {
  fault = m.0;
  is_fault = ends_faulty version kind (u ++ codes ",") m.0 m.1;
  kind_of = ap by_comma (sym m.2.kind);
  outside = not_accepted version kind (u ++ codes ";a)") n;
}

tells_bare : (version : Version) (kind : FieldKind) (u : List ℕ)
    → Calls version calls.bare (whole_field_at version kind) u → Tells version kind u ExpectedStartOfBareItem
unfolding bare_at token_at branch ahead fail
tells_bare version kind u h = let n = h.follows semicolon (codes "a)") refl in
    tells_by version kind u _ (h.follows comma [] refl) (n.0, n.1)

tells_key : (version : Version) (kind : FieldKind) (u : List ℕ)
    → Calls version calls.key (whole_field_at version kind) u → Tells version kind u ExpectedStartOfKey
unfolding key_at branch fail
tells_key version kind u h = let n = h.follows semicolon (codes "a)") refl in
    tells_by version kind u _ (h.follows comma [] refl) (n.0, n.1)

tells_end : (version : Version) (kind : FieldKind) (u : List ℕ) → kind ≡ item_field → IsAccepted version kind u
    → Tells version kind u TrailingCharactersAfterParsedValue
unfolding read_field
tells_end version item_field u e a = record {
  fault = _;
  is_fault = ap (ending (events item_field)) (item_field_complete version a.0 u (codes ",") a.1
      (Apart-cons is_space comma [] refl) (spaces_end a.1.second.back (codes ",") a.1.second.second (comma_ends [])));
  kind_of = refl;
  outside = not_longer version item_field a.0 u tt a.1;
}
tells_end version list_field u e a = absurd cc
tells_end version dictionary_field u e a = absurd cc

tells : (version : Version) (kind : FieldKind) (u : List ℕ) (f : ErrorKind) → WantedFault version kind u f
    → ((f ≡ ExpectedInnerListDelimiter) × IsAccepted version kind (u ++ codes ";a)")) ⊎ Tells version kind u f
tells version kind u f (bare_item w) = inr (tells_bare version kind u (calls_wanted version kind u w))
tells version kind u f (key w) = inr (tells_key version kind u (calls_wanted_key version kind u w))
tells version kind u f (delimiter a) = inl (refl, a)
tells version kind u f (WantedFault.comma raw other h has) = inr (record {
  fault = _;
  is_fault = ends_faulty _ _ _ _ (comma_after _ _ _ _ _ (has_many _ other) has h refl);
  kind_of = refl;
  outside = not_longer _ _ _ _ has h;
})
tells version kind u f (end e a) = inr (tells_end version kind u e a)

pub one_wanted : (version : Version) (kind : FieldKind) (u : List ℕ) (f g : ErrorKind) → WantedFault version kind u f
    → WantedFault version kind u g → f ≡ g
one_wanted version kind u f g h k = on (tells version kind u f h) (tells version kind u g k)
  where
    on : ((f ≡ ExpectedInnerListDelimiter) × IsAccepted version kind (u ++ codes ";a)")) ⊎ Tells version kind u f
        → ((g ≡ ExpectedInnerListDelimiter) × IsAccepted version kind (u ++ codes ";a)")) ⊎ Tells version kind u g
        → f ≡ g
    on (inl x) (inl y) = x.0 ∙ sym y.0
    on (inl x) (inr y) = absurd (y.outside x.1)
    on (inr x) (inl y) = absurd (x.outside y.1)
    on (inr x) (inr y) =
        let both = sym x.is_fault ∙ y.is_fault in
        let same : x.fault ≡ y.fault = cc in
        sym x.kind_of ∙ ap (λ (e : Fault). by_comma e.kind) same ∙ y.kind_of
