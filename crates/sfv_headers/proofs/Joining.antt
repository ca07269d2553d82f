-- The lines of a field are joined one after the other.
use Rattle.std.proofs.Common.{◌≡◌, ℕ, ◌<◌, List, [], ◌∷◌, ◌++◌, length, Option, Some, None, refl, sym, ap, ◌∙◌}
use Rattle.std.proofs.Common.{append_assoc, arith, length-append, ◌≢◌, option_map, codes, IfSome}
use Rattle.std.specs.Cow.{cow_slice_items, IsBorrowedSlice}
use Rattle.std.specs.declared.{alloc.Global.Global, borrow.CowSlice.CowSlice}
use Rattle.sfv.specs.Texts.{joined}
use Rattle.sfv_headers.specs.Lines.{text_of_lines, with_line}

abbrev Text : Type 0
Text = CowSlice ℕ Global

joined_push : (s x y : List ℕ) (ys : List (List ℕ)) → joined s ((y ∷ ys) ++ x ∷ []) ≡ joined s (y ∷ ys) ++ s ++ x
joined_push s x y [] = refl
joined_push s x y (z ∷ zs) =
    let front = y ++ s in
    let back = joined s (z ∷ zs) in
    ap (λ (t : List ℕ). front ++ t) (joined_push s x z zs) ∙ sym (append_assoc front (back ++ s) x)
    ∙ ap (λ (t : List ℕ). t ++ x) (sym (append_assoc front back s))

-- the text of one more line
pub text_push : (lines : List (List ℕ)) (line : List ℕ)
    → text_of_lines (lines ++ line ∷ []) ≡ Some (with_line (text_of_lines lines) line)
text_push [] line = refl
text_push (x ∷ xs) line = ap Some (joined_push (codes ", ") line x xs)

-- the text of some of the lines, before those that are left
pub record IsSoFar (all : List (List ℕ)) (text : Option Text) (left : List (List ℕ)) : Type 0 where
  pub done : List (List ℕ)
  pub whole : all ≡ done ++ left
  pub text_is : option_map cow_slice_items text ≡ text_of_lines done
  pub one_is_borrowed : length done ≡ 1 → IfSome text IsBorrowedSlice

pub none_yet : (all : List (List ℕ)) → IsSoFar all None all
none_yet all = record { done = []; whole = refl; text_is = refl; one_is_borrowed = λ h. tt }

none_first : (text : Option Text) → option_map cow_slice_items text ≡ None → text ≡ None
none_first None h = refl
none_first (Some t) h = absurd (cc)

pub one_more : (all : List (List ℕ)) (text : Option Text) (line : List ℕ) (left : List (List ℕ)) (after : Text)
    → IsSoFar all text (line ∷ left) → cow_slice_items after ≡ with_line (option_map cow_slice_items text) line
    → (text ≡ None → IsBorrowedSlice after) → IsSoFar all (Some after) left
one_more all text line left after so_far is borrowed = record {
  done = so_far.done ++ line ∷ [];
  whole = so_far.whole ∙ sym (append_assoc so_far.done (line ∷ []) left);
  text_is = ap Some (is ∙ ap (λ (t : Option (List ℕ)). with_line t line) so_far.text_is)
      ∙ sym (text_push so_far.done line);
  one_is_borrowed = λ one. borrowed (none_first text (so_far.text_is ∙ ap text_of_lines (none so_far.done one)));
}
  where
    none : (done : List (List ℕ)) → length (done ++ line ∷ []) ≡ 1 → done ≡ []
    none [] h = refl
    none (x ∷ xs) h = absurd (omega (arith, h, length-append xs (line ∷ [])))

-- memory runs out only for the second line
pub two_lines : (all : List (List ℕ)) (text : Option Text) (line : List ℕ) (left : List (List ℕ))
    → IsSoFar all text (line ∷ left) → text ≢ None → 1 < length all
two_lines all text line left so_far more = rw so_far.whole (some so_far.done so_far.text_is)
  where
    some : (done : List (List ℕ)) → option_map cow_slice_items text ≡ text_of_lines done
        → 1 < length (done ++ line ∷ left)
    some [] h = absurd (more (none_first text h))
    some (x ∷ xs) h = omega (arith, length-append xs (line ∷ left))
