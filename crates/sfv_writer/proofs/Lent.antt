-- Values that are lent by a slice or a map.
use Rattle.std.proofs.Common.{◌≡◌, List, [], ◌∷◌, ◌++◌, ℕ, length, map, refl, sym, ap, ◌∙◌, Iter, arith, Option, Bor}
use Rattle.std.proofs.Common.{append-nil}
use Rattle.std.specs.{Iterator.{Yields, Drains}, Map.Iter.{TakesFirst, deref_pair}, Slice.Iter.{iter_rest, iter_steps}}
use Rattle.std.proofs.lemmas.{List.map-append, Map.Iter.rest_so_far, Simd.map-map}
use Rattle.sfv_tree.specs.Trees.{OwnedBareItem, pairs_tree, member_tree, list_tree, dictionary_tree}
use Rattle.sfv_tree.{specs.declared.parsed.ListEntry.ListEntry, proofs.Words.{pair_tree, entry_tree}}
use Rattle.sfv_writer.{specs.Pairs.lent_pairs, proofs.Words.{lent_list_member, lent_dictionary_member}}

-- ---- the elements taken so far come before the rest

pub pairs_front : (s t : List (List ℕ × OwnedBareItem)) (xs : List (Bor (List ℕ) × Bor OwnedBareItem))
    → Yields (TakesFirst deref_pair) s xs t → pairs_tree s ≡ lent_pairs xs ++ pairs_tree t
pairs_front s t xs ran = ap pairs_tree (rest_so_far deref_pair xs s t ran) ∙ map-append pair_tree (map deref_pair xs) t

map_front : {A X B : Type 0} (shows : A → X) (tree : X → B) (s t : List X) (xs : List A)
    → Yields (TakesFirst shows) s xs t → map tree s ≡ map (λ x. tree (shows x)) xs ++ map tree t
map_front shows tree s t xs ran = ap (map tree) (rest_so_far shows xs s t ran)
    ∙ map-append tree (map shows xs) t ∙ ap (λ ys. ys ++ map tree t) (map-map tree shows xs)

pub members_front : (s t : List (List ℕ × ListEntry)) (xs : List (Bor (List ℕ) × Bor ListEntry))
    → Yields (TakesFirst deref_pair) s xs t → dictionary_tree s ≡ map lent_dictionary_member xs ++ dictionary_tree t
members_front s t xs ran = map_front deref_pair entry_tree s t xs ran

slice_so_far : {A : Type 0} (xs : List (Bor A)) (s t : Iter A) → Yields iter_steps s xs t
    → iter_rest s ≡ map (λ (x : Bor A). x.now) xs ++ iter_rest t
slice_so_far [] s t y = ap iter_rest y
slice_so_far (x ∷ xs) s t y = y.1 ∙ ap (λ l. x.now ∷ l) (slice_so_far xs y.0 t y.2)

slice_front : {A B : Type 0} (tree : A → B) (s t : Iter A) (xs : List (Bor A)) → Yields iter_steps s xs t
    → map tree (iter_rest s) ≡ map (λ (x : Bor A). tree x.now) xs ++ map tree (iter_rest t)
slice_front {A} tree s t xs ran =
    ap (map tree) (slice_so_far xs s t ran) ∙ map-append tree (map (λ (x : Bor A). x.now) xs) (iter_rest t)
    ∙ ap (λ ys. ys ++ map tree (iter_rest t)) (map-map tree (λ (x : Bor A). x.now) xs)

pub entries_front : (s t : Iter ListEntry) (xs : List (Bor ListEntry)) → Yields iter_steps s xs t
    → list_tree (iter_rest s) ≡ map lent_list_member xs ++ list_tree (iter_rest t)
entries_front s t xs ran = slice_front member_tree s t xs ran

-- ---- an iterator gives these elements, as it lends them

pub record GivesAll {A B S : Type 0} (gives : S → Option A → S → Type 0) (from : S) (lent : A → B) (ys : List B)
    : Type 0 where
  -- those so far, and more
  pub front : (xs : List A) (rest : S) → Yields gives from xs rest → (more : List B) × (ys ≡ map lent xs ++ more)
  -- all
  pub all : (xs : List A) → Drains gives from xs → map lent xs ≡ ys

-- the elements of a slice
pub slice_gives : {A B : Type 0} (tree : A → B) (s : Iter A) (items : List A) → iter_rest s ≡ items
    → GivesAll iter_steps s (λ (x : Bor A). tree x.now) (map tree items)
slice_gives {A} tree s items is = record {
  front = λ xs t ran. (map tree (iter_rest t), ap (map tree) (sym is) ∙ slice_front tree s t xs ran);
  all = λ xs d. sym (ap (map tree) (sym is) ∙ slice_front tree s d.1.0 xs d.1.1
      ∙ ap (λ ys. map (λ (x : Bor A). tree x.now) xs ++ map tree ys) (none_left (iter_rest d.1.0) d.1.2.0) ∙ append-nil _);
}
  where
    none_left : {X : Type 0} (xs : List X) → length xs ≡ 0 → xs ≡ []
    none_left [] e = refl
    none_left (x ∷ xs) e = absurd (omega (arith, e))

-- the elements of a map
pub map_gives : {A X B : Type 0} (shows : A → X) (tree : X → B) (s es : List X) → s ≡ es
    → GivesAll (TakesFirst shows) s (λ x. tree (shows x)) (map tree es)
map_gives shows tree s es is = record {
  front = λ xs t ran. (map tree t, ap (map tree) (sym is) ∙ map_front shows tree s t xs ran);
  all = λ xs d. sym (ap (map tree) (sym is) ∙ map_front shows tree s d.1.0 xs d.1.1
      ∙ ap (λ t. map (λ x. tree (shows x)) xs ++ map tree t) d.1.2.0 ∙ append-nil _);
}

-- all parameters of a map
pub lent_all : (es : List (List ℕ × OwnedBareItem)) (xs : List (Bor (List ℕ) × Bor OwnedBareItem))
    → Drains (TakesFirst deref_pair) es xs → lent_pairs xs ≡ pairs_tree es
lent_all es xs d =
    sym (pairs_front es d.1.0 xs d.1.1 ∙ ap (λ t. lent_pairs xs ++ pairs_tree t) d.1.2.0 ∙ append-nil (lent_pairs xs))
