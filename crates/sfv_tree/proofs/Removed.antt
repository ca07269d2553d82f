-- A key that is removed from a map has no pair, and the pairs of other keys stay.
use Rattle.std.proofs.Common.{◌≡◌, ℕ, false, List, [], ◌∷◌, refl, sym, ap, subst, inl, inr, bytes_eq}
use Rattle.std.specs.{List.{AllByRecursion, IsDistinct}, Map.keys_of}
use Rattle.std.proofs.lemmas.{Bool.cases_Bool, Slice.Eq.bytes_eq-Decides}
use Rattle.indexmap.specs.IndexMap.{shift_remove_entry}
use Rattle.sfv_spec.{specs.Ordered.without, proofs.Last.over}
use Rattle.sfv_values.specs.BareItems.{bare_value}
use Rattle.sfv_tree.specs.Trees.{OwnedBareItem, pairs_tree, member_tree, dictionary_tree}
use Rattle.sfv_tree.specs.declared.parsed.ListEntry.{ListEntry}

module _ {A B : Type 0} (f : A → B) (key : List ℕ) where
  -- pairs of other keys stay
  others_stay : (es : List (List ℕ × A)) → AllByRecursion (λ k. bytes_eq key k ≡ false) (keys_of es)
      → over f es ≡ without key (over f es)
  others_stay [] h = refl
  others_stay (e ∷ es) h = simp h.0 (ap (λ (ps : List (List ℕ × B)). (e.0, f e.1) ∷ ps) (others_stay es h.1))

  pub removed : (es : List (List ℕ × A)) → IsDistinct bytes_eq (keys_of es)
      → over f (shift_remove_entry (bytes_eq key) es) ≡ without key (over f es)
  unfolding IsDistinct
  removed [] h = refl
  removed (e ∷ es) h = elim (cases_Bool (bytes_eq key e.0)) [
    | inl q ↦ simp q (others_stay es
        (subst (λ (k : List ℕ). AllByRecursion (λ j. bytes_eq k j ≡ false) (keys_of es)) (sym ((bytes_eq-Decides key e.0).0 q)) h.0))
    | inr q ↦ simp q (ap (λ (ps : List (List ℕ × B)). (e.0, f e.1) ∷ ps) (removed es h.1))
  ]

-- the entries of a map without a key
pub member_removed : (key : List ℕ) (es : List (List ℕ × ListEntry)) → IsDistinct bytes_eq (keys_of es)
    → dictionary_tree (shift_remove_entry (bytes_eq key) es) ≡ without key (dictionary_tree es)
member_removed = removed member_tree

pub param_removed : (key : List ℕ) (es : List (List ℕ × OwnedBareItem)) → IsDistinct bytes_eq (keys_of es)
    → pairs_tree (shift_remove_entry (bytes_eq key) es) ≡ without key (pairs_tree es)
param_removed = removed bare_value
