-- A map has no key twice, so a look-up finds the last pair of a key.
use Rattle.std.proofs.Common.{◌≡◌, ℕ, Bool, true, false, List, [], ◌∷◌, refl, sym, subst, ◌∙◌, IsTrue, bytes_eq}
use Rattle.std.{proofs.Common.option_map, specs.List.{list_any, AllByRecursion, IsDistinct}}
use Rattle.std.{specs.Map.{keys_of, lookup}, proofs.lemmas.Map.Made.{lookup-map_values, keys_of-map_values}}
use Rattle.indexmap.specs.IndexMap.{insert_entry}
use Rattle.sfv_spec.specs.Ordered.{last_of}
use Rattle.sfv_spec.proofs.{Last.{over, lookup-last_of}, Marks.keys, Repeats.no_repeats}
use Rattle.sfv_values.specs.BareItems.{bare_value}
use Rattle.sfv_tree.specs.Trees.{OwnedBareItem, pairs_tree, member_tree, dictionary_tree}
use Rattle.sfv_tree.specs.declared.parsed.ListEntry.{ListEntry}

none_equal : (k : List ℕ) (ks : List (List ℕ)) → AllByRecursion (λ j. bytes_eq k j ≡ false) ks
    → list_any (bytes_eq k) ks ≡ false
none_equal k [] h = refl
none_equal k (j ∷ ks) h = rw (h.0, none_equal k ks h.1) refl

no_repeats-distinct : (ks : List (List ℕ)) → IsDistinct bytes_eq ks → IsTrue (no_repeats ks)
unfolding IsDistinct
no_repeats-distinct [] h = refl
no_repeats-distinct (k ∷ ks) h = rw (none_equal k ks h.0, no_repeats-distinct ks h.1) refl

module _ {A B : Type 0} (f : A → B) where
  over_distinct : (es : List (List ℕ × A)) → IsDistinct bytes_eq (keys_of es) → IsTrue (no_repeats (keys (over f es)))
  over_distinct es h = rw (keys_of-map_values f es) (no_repeats-distinct (keys_of es) h)

  found_last : (k : List ℕ) (es : List (List ℕ × A)) → IsDistinct bytes_eq (keys_of es)
      → option_map f (lookup (bytes_eq k) es) ≡ last_of k (over f es)
  found_last k es h = sym (lookup-map_values f (bytes_eq k) es) ∙ lookup-last_of k (over f es) (over_distinct es h)

pub pairs_distinct : (es : List (List ℕ × OwnedBareItem)) → IsDistinct bytes_eq (keys_of es)
    → IsTrue (no_repeats (keys (pairs_tree es)))
pairs_distinct = over_distinct bare_value

pub members_distinct : (es : List (List ℕ × ListEntry)) → IsDistinct bytes_eq (keys_of es)
    → IsTrue (no_repeats (keys (dictionary_tree es)))
members_distinct = over_distinct member_tree

pub param_found : (k : List ℕ) (es : List (List ℕ × OwnedBareItem)) → IsDistinct bytes_eq (keys_of es)
    → option_map bare_value (lookup (bytes_eq k) es) ≡ last_of k (pairs_tree es)
param_found = found_last bare_value

pub member_found : (k : List ℕ) (es : List (List ℕ × ListEntry)) → IsDistinct bytes_eq (keys_of es)
    → option_map member_tree (lookup (bytes_eq k) es) ≡ last_of k (dictionary_tree es)
member_found = found_last member_tree

-- ---- insertions

module _ {A : Type 0} (k : List ℕ) (v : A) where
  all_within : (P : List ℕ → Type 0) (es : List (List ℕ × A))
      → AllByRecursion P (keys_of (insert_entry bytes_eq es k v)) → AllByRecursion P (keys_of es)
  all_within P [] h = tt
  all_within P (e ∷ es) h = on (all_within P es) (bytes_eq k e.0) refl
    where
      on : (AllByRecursion P (keys_of (insert_entry bytes_eq es k v)) → AllByRecursion P (keys_of es))
          → (b : Bool) → bytes_eq k e.0 ≡ b → AllByRecursion P (keys_of (e ∷ es))
      on next true i = rw i at h
      on next false i = let g = rw i at h in (g.0, next g.1)

  distinct_before : (es : List (List ℕ × A)) → IsDistinct bytes_eq (keys_of (insert_entry bytes_eq es k v))
      → IsDistinct bytes_eq (keys_of es)
  unfolding IsDistinct
  distinct_before [] h = tt
  distinct_before (e ∷ es) h = on (distinct_before es) (bytes_eq k e.0) refl
    where
      on : (IsDistinct bytes_eq (keys_of (insert_entry bytes_eq es k v)) → IsDistinct bytes_eq (keys_of es))
          → (b : Bool) → bytes_eq k e.0 ≡ b → IsDistinct bytes_eq (keys_of (e ∷ es))
      on next true i = rw i at h
      on next false i = let g = rw i at h in (all_within (λ j. bytes_eq e.0 j ≡ false) es g.0, next g.1)

-- the old member or value of a key is the last of the key
pub entered_member : (es new : List (List ℕ × ListEntry)) (k : List ℕ) (v : ListEntry)
    → IsDistinct bytes_eq (keys_of new) → new ≡ insert_entry bytes_eq es k v
    → option_map member_tree (lookup (bytes_eq k) es) ≡ last_of k (dictionary_tree es)
entered_member es new k v distinct e =
    member_found k es (distinct_before k v es (subst (λ es. IsDistinct bytes_eq (keys_of es)) e distinct))

pub entered_value : (es new : List (List ℕ × OwnedBareItem)) (k : List ℕ) (v : OwnedBareItem)
    → IsDistinct bytes_eq (keys_of new) → new ≡ insert_entry bytes_eq es k v
    → option_map bare_value (lookup (bytes_eq k) es) ≡ last_of k (pairs_tree es)
entered_value es new k v distinct e =
    param_found k es (distinct_before k v es (subst (λ es. IsDistinct bytes_eq (keys_of es)) e distinct))
