-- Rows of a table: the first with a name, and a test that no two have the same name.
use Rattle.std.proofs.Common.{◌≡◌, ℕ, ◌+◌, ◌<◌, List, [], ◌∷◌, Bool, true, false, length, get_or, refl, inl, inr, ◌&&◌}
use Rattle.std.proofs.Common.{not, map, drop, Some}
use Rattle.std.specs.{List.{IsDistinct, AllByRecursion, list_any}, Map.lookup, Str.str_eq_ignore_ascii_case}
use Rattle.std.proofs.lemmas.{Bool.cases_Bool, List.drop_more}
use Rattle.sfv_http_fields.specs.Registry.{OneRow, registered}

-- the row at an index, after rows without this name
module _ {A K X : Type 0} (test : K → Bool) (f : A → K × X) (rows : List A) (i : ℕ) (d : A) (h : i < length rows)
    (so_far : lookup test (map f rows) ≡ lookup test (map f (drop i rows))) where
  pub row_found : true ≡ test (f (get_or rows i d)).0 → Some (f (get_or rows i d)).1 ≡ lookup test (map f rows)
  row_found is = rw (so_far, drop_more rows i d h, ← is) refl

  pub row_passed : false ≡ test (f (get_or rows i d)).0
      → lookup test (map f rows) ≡ lookup test (map f (drop (i + 1) rows))
  row_passed is = rw (so_far, drop_more rows i d h, ← is) refl

module _ {K : Type 0} (e : K → K → Bool) where
  abbrev are_distinct : List K → Bool
  are_distinct [] = true
  are_distinct (x ∷ xs) = not (list_any (e x) xs) && are_distinct xs

  apart : (x : K) (xs : List K) → not (list_any (e x) xs) ≡ true → AllByRecursion (λ y. e x y ≡ false) xs
  apart x [] h = tt
  apart x (y ∷ ys) h = elim (cases_Bool (e x y)) [
    | inl t ↦ absurd (let k = rw t at h in cc)
    | inr f ↦ (f, apart x ys (rw f at h))
  ]

  distinct_of_test : (xs : List K) → are_distinct xs ≡ true → IsDistinct e xs
  unfolding IsDistinct
  distinct_of_test [] h = tt
  distinct_of_test (x ∷ xs) h = elim (cases_Bool (not (list_any (e x) xs))) [
    | inl t ↦ (apart x xs t, distinct_of_test xs (rw t at h))
    | inr f ↦ absurd (let k = rw f at h in cc)
  ]

pub one_row : OneRow
one_row = distinct_of_test str_eq_ignore_ascii_case (map (λ row. row.0) registered) refl
