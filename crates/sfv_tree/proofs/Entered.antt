-- Entering into a map is entering into its pairs.
use Rattle.std.proofs.Common.{◌≡◌, ℕ, Bool, true, false, cond, List, [], ◌∷◌, map, refl, ap, ◌∙◌, bytes_eq}
use Rattle.std.specs.{List.IsDistinct, Map.keys_of}
use Rattle.indexmap.specs.IndexMap.{insert_entry}
use Rattle.sfv_spec.specs.Ordered.{collapse}
use Rattle.sfv_spec.proofs.Collapse.{entered, entered_all, entered_all-collapse, collapse-distinct}
use Rattle.sfv_values.specs.BareItems.{bare_value}
use Rattle.sfv_tree.specs.Trees.{OwnedBareItem, pairs_tree, member_tree, dictionary_tree}
use Rattle.sfv_tree.{specs.declared.parsed.ListEntry.ListEntry, proofs.Distinct.pairs_distinct}

module _ {A B : Type 0} (f : A → B) where
  abbrev seen : List (List ℕ × A) → List (List ℕ × B)
  seen es = map (λ p. (p.0, f p.1)) es

  cond_seen : (b : Bool) (x y : List (List ℕ × A)) → seen (cond b x y) ≡ cond b (seen x) (seen y)
  cond_seen true x y = refl
  cond_seen false x y = refl

  seen-insert : (es : List (List ℕ × A)) (k : List ℕ) (v : A)
      → seen (insert_entry bytes_eq es k v) ≡ insert_entry bytes_eq (seen es) k (f v)
  seen-insert [] k v = refl
  seen-insert (e ∷ es) k v = cond_seen (bytes_eq k e.0) ((e.0, v) ∷ es) (e ∷ insert_entry bytes_eq es k v)
      ∙ ap (λ (rest : List (List ℕ × B)). cond (bytes_eq k e.0) ((e.0, f v) ∷ seen es) ((e.0, f e.1) ∷ rest))
      (seen-insert es k v)

pub pairs_tree-insert : (es : List (List ℕ × OwnedBareItem)) (k : List ℕ) (v : OwnedBareItem)
    → pairs_tree (insert_entry bytes_eq es k v) ≡ insert_entry bytes_eq (pairs_tree es) k (bare_value v)
pairs_tree-insert = seen-insert bare_value

pub dictionary_tree-insert : (es : List (List ℕ × ListEntry)) (k : List ℕ) (v : ListEntry)
    → dictionary_tree (insert_entry bytes_eq es k v) ≡ insert_entry bytes_eq (dictionary_tree es) k (member_tree v)
dictionary_tree-insert = seen-insert member_tree

-- entering is inserting
pub insert_entry-entered : {A : Type 0} (ps : List (List ℕ × A)) (k : List ℕ) (v : A)
    → insert_entry bytes_eq ps k v ≡ entered ps k v
insert_entry-entered [] k v = refl
insert_entry-entered {A} (p ∷ ps) k v = ap (λ (rest : List (List ℕ × A)).
    cond (bytes_eq k p.0) ((p.0, v) ∷ ps) (p ∷ rest)) (insert_entry-entered ps k v)

-- the pairs of a map, entered in turn, are these pairs
pub entered_again : (es : List (List ℕ × OwnedBareItem)) → IsDistinct bytes_eq (keys_of es)
    → entered_all [] (pairs_tree es) ≡ pairs_tree es
unfolding collapse
entered_again es distinct = entered_all-collapse [] (pairs_tree es)
    ∙ collapse-distinct (pairs_tree es) (pairs_distinct es distinct)
