-- The text of a field, line after line.
use Rattle.std.proofs.Common.{◌≡◌, ℕ, ◌+◌, ◌-◌, ◌<◌, ◌≤◌, List, [], ◌∷◌, ◌++◌, length, take, refl, sym, ap, ◌∙◌}
use Rattle.std.proofs.Common.{append_assoc, append-nil, arith, Bool, true, false, eqb-true, map, filter, codes}
use Rattle.std.proofs.Common.{flat_map, ◌==◌, take_all}
use Rattle.std.proofs.lemmas.{Grind.common_steps, List.map-append, List.Elements.filter-append}
use Rattle.sfv_lint_head.specs.Heads.{first_line, after_line}
use Rattle.sfv_lint_head.specs.Lines.{joined_lines, lines_of_text, before_first, value_lines, without_return, has_any}

-- each line after a comma and a space
abbrev pub more_lines : List (List ℕ) → List ℕ
more_lines lines = flat_map (λ line. codes ", " ++ line) lines

pub joined_first : (line : List ℕ) (lines : List (List ℕ)) → joined_lines (line ∷ lines) ≡ line ++ more_lines lines
joined_first line [] = sym (append-nil line)
joined_first line (next ∷ lines) = rw (joined_first next lines) (grind (arith, common_steps))

pub joined_all : {A : Type 0} (g : A → List ℕ) (xs others : List A) (first : A) (n : ℕ) (start text : List ℕ)
    → xs ≡ first ∷ others → length others ≤ n → start ≡ g first → text ≡ start ++ more_lines (map g (take n others))
    → text ≡ joined_lines (map g xs)
joined_all g xs others first n start text e long same is = rw (e, joined_first, is, same, take_all n others long) refl

-- the first line of a text, and the lines of the rest
other_byte : (b : ℕ) (t : List ℕ) (more : before_first b (lines_of_text t) ≡ (b ∷ first_line t) ∷ lines_of_text (after_line t))
    (is : Bool) → b == 10 ≡ is → lines_of_text (b ∷ t) ≡ first_line (b ∷ t) ∷ lines_of_text (after_line (b ∷ t))
other_byte b t more true e = rw e refl
other_byte b t more false e = rw e more

pub lines_split : (b : ℕ) (t : List ℕ) → lines_of_text (b ∷ t) ≡ first_line (b ∷ t) ∷ lines_of_text (after_line (b ∷ t))
lines_split b [] = other_byte b [] refl (b == 10) refl
lines_split b (c ∷ t) = other_byte b (c ∷ t) (ap (before_first b) (lines_split c t)) (b == 10) refl

shorter : (b : ℕ) (t : List ℕ) (more : length (after_line t) ≤ length t) (is : Bool) → b == 10 ≡ is
    → length (after_line (b ∷ t)) < length (b ∷ t)
shorter b t more true e = rw e (omega arith)
shorter b t more false e = rw e (omega (arith, more))

after_shorter : (t : List ℕ) → length (after_line t) ≤ length t
after_shorter [] = omega arith
after_shorter (b ∷ t) = omega (arith, shorter b t (after_shorter t) (b == 10) refl)

pub after_less : (t after : List ℕ) → after ≡ after_line t → (length t == 0) ≡ false → length after < length t
after_less [] after e h = absurd (cc)
after_less (b ∷ t) after e h = rw e (shorter b t (after_shorter t) (b == 10) refl)

-- one more line of a pasted value
kept_lines : (t : List ℕ) → (length t == 0) ≡ false
    → value_lines t ≡ filter has_any (without_return (first_line t) ∷ []) ++ value_lines (after_line t)
kept_lines [] h = absurd (cc)
kept_lines (b ∷ t) h = ap (λ ls. filter has_any (map without_return ls)) (lines_split b t)
    ∙ filter-append has_any (without_return (first_line (b ∷ t)) ∷ []) (map without_return (lines_of_text (after_line (b ∷ t))))

module _ (text t line after : List ℕ) {A : Type 0} (g : A → List ℕ) (lines : List A)
    (so_far : value_lines text ≡ map g lines ++ value_lines t) (e : after ≡ after_line t) (h : (length t == 0) ≡ false)
    (is : line ≡ without_return (first_line t)) where
  pub line_added : (x : A) → g x ≡ line → (length line == 0) ≡ false
      → value_lines text ≡ map g (lines ++ x ∷ []) ++ value_lines after
  line_added x same some = so_far ∙ ap (λ ls. map g lines ++ ls) (kept_lines t h)
      ∙ rw (← e, ← is, map-append, same) (kept line some)
    where
      kept : (line : List ℕ) → (length line == 0) ≡ false
          → map g lines ++ (filter has_any (line ∷ []) ++ value_lines after) ≡ (map g lines ++ line ∷ []) ++ value_lines after
      kept [] some = absurd (cc)
      kept (b ∷ bs) some = sym (append_assoc (map g lines) ((b ∷ bs) ∷ []) (value_lines after))

  pub line_left_out : (length line == 0) ≡ true → value_lines text ≡ map g lines ++ value_lines after
  line_left_out none = so_far ∙ ap (λ ls. map g lines ++ ls) (kept_lines t h) ∙ rw (← e, ← is) (left line none)
    where
      left : (line : List ℕ) → (length line == 0) ≡ true
          → map g lines ++ (filter has_any (line ∷ []) ++ value_lines after) ≡ map g lines ++ value_lines after
      left [] none = refl
      left (b ∷ bs) none = let h : length (b ∷ bs) ≡ 0 = eqb-true (length (b ∷ bs)) 0 none in absurd (omega (arith, h))
