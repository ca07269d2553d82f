-- The lines of a field are joined one after the other.
use Rattle.std.proofs.Common.{◌≡◌, ℕ, ◌+◌, ◌<◌, List, [], ◌∷◌, ◌++◌, true, false, length, get_or, refl, sym, Option}
use Rattle.std.proofs.Common.{Some, None, arith, ◌≢◌, map, drop, codes, option_map}
use Rattle.std.specs.{Cow.{cow_slice_items, IsBorrowedSlice}, Str.str_eq_ignore_ascii_case}
use Rattle.std.specs.declared.{alloc.Global.Global, borrow.CowSlice.CowSlice}
use Rattle.std.proofs.lemmas.List.{drop_more}
use Rattle.sfv.specs.Texts.{joined}
use Rattle.sfv_headers.{specs.Lines.with_line, proofs.Joining.{IsSoFar, one_more, two_lines}}
use Rattle.sfv_http_fields.specs.Lines.{lines_of, text_of_lines}

-- the step of a loop over what is seen as lines
module _ {A : Type 0} (name : List ℕ) (f : A → List ℕ × List ℕ) (xs : List A) (i : ℕ) (h : i < length xs) (d : A)
    (text : Option (CowSlice ℕ Global))
    (so_far : IsSoFar (lines_of name (map f xs)) text (lines_of name (map f (drop i xs))))
    (found : List ℕ) (same_name : found ≡ (f (get_or xs i d)).0) where
  next_line : true ≡ str_eq_ignore_ascii_case found name
      → lines_of name (map f (drop i xs)) ≡ (f (get_or xs i d)).1 ∷ lines_of name (map f (drop (i + 1) xs))
  next_line named = rw (drop_more xs i d h) (rw (sym (rw same_name at named)) refl)

  no_line : false ≡ str_eq_ignore_ascii_case found name
      → lines_of name (map f (drop i xs)) ≡ lines_of name (map f (drop (i + 1) xs))
  no_line other = rw (drop_more xs i d h) (rw (sym (rw same_name at other)) refl)

  pub line_appended : (value : List ℕ) → value ≡ (f (get_or xs i d)).1 → true ≡ str_eq_ignore_ascii_case found name
      → (after : CowSlice ℕ Global) → cow_slice_items after ≡ with_line (option_map cow_slice_items text) value
      → (text ≡ None → IsBorrowedSlice after)
      → IsSoFar (lines_of name (map f xs)) (Some after) (lines_of name (map f (drop (i + 1) xs)))
  line_appended value same_value named after is borrowed =
      one_more (lines_of name (map f xs)) text (f (get_or xs i d)).1 (lines_of name (map f (drop (i + 1) xs))) after
      (rw (next_line named) at so_far) (rw same_value at is) borrowed

  pub line_left_out : false ≡ str_eq_ignore_ascii_case found name
      → IsSoFar (lines_of name (map f xs)) text (lines_of name (map f (drop (i + 1) xs)))
  line_left_out other = rw (no_line other) at so_far

  -- memory runs out only for a second line
  pub line_fails : true ≡ str_eq_ignore_ascii_case found name → text ≢ None → text_of_lines name (map f xs) ≢ []
  line_fails named more = some (lines_of name (map f xs)) (two_lines (lines_of name (map f xs)) text
      (f (get_or xs i d)).1 (lines_of name (map f (drop (i + 1) xs))) (rw (next_line named) at so_far) more)
    where
      never : (x : List ℕ) (c : ℕ) (s t : List ℕ) → x ++ (c ∷ s) ++ t ≡ [] → ⊥
      never [] c s t h = absurd (cc)
      never (y ∷ ys) c s t h = absurd (cc)

      some : (lines : List (List ℕ)) → 1 < length lines → joined (codes ", ") lines ≢ []
      some [] h = absurd (omega (arith, h))
      some (x ∷ []) h = absurd (omega (arith, h))
      some (x ∷ y ∷ ys) h = λ none. never x 44 (32 ∷ []) (joined (codes ", ") (y ∷ ys)) none
