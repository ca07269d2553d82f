-- Lines, each with a line feed after it, and a last line without one.
use Rattle.std.proofs.Common.{◌≡◌, ℕ, List, [], ◌∷◌, ◌++◌, map, refl, sym, ap, ◌∙◌, append_assoc, flat_map, codes, Bool}
use Rattle.std.proofs.Common.{not, ◌==◌, true≢false}
use Rattle.std.{specs.List.{list_all, AllByRecursion}, proofs.lemmas.Bool.and_parts}
use Rattle.sfv.specs.{Ascii.byte, Texts.RunOf}

-- c is not a line feed
abbrev pub is_line_byte : ℕ → Bool
is_line_byte c = not (c == byte "\n")

abbrev pub Line : List ℕ → Type 0
Line = RunOf is_line_byte

-- a line with its line feed, and what follows
abbrev fed : {A : Type 0} → (A → List ℕ) → List A → List ℕ → List ℕ
fed f xs t = flat_map (λ x. f x ++ codes "\n") xs ++ t

regroup : {A : Type 0} (f : A → List ℕ) (x : A) (xs : List A) (t : List ℕ)
    → fed f (x ∷ xs) t ≡ f x ++ (codes "\n" ++ fed f xs t)
regroup f x xs t = simp append_assoc refl

-- a line contains no line feed
no_feed : (a t : List ℕ) → Line (a ++ (codes "\n" ++ t)) → ⊥
no_feed [] t h = true≢false (sym h)
no_feed (c ∷ a) t h = no_feed a t (and_parts (is_line_byte c) (list_all is_line_byte (a ++ (codes "\n" ++ t))) h).1

-- the first byte of a line is no line feed
first_byte : (c : ℕ) (a : List ℕ) → Line (c ∷ a) → byte "\n" ≡ c → ⊥
first_byte c a h e = true≢false (sym (and_parts (is_line_byte c) (list_all is_line_byte a) h).0
    ∙ ap is_line_byte (sym e))

-- two lines before line feeds are equal, and so are the rests
same_line : (a b s t : List ℕ) → Line a → Line b → a ++ (codes "\n" ++ s) ≡ b ++ (codes "\n" ++ t) → (a ≡ b) × (s ≡ t)
same_line [] [] s t h k e = (refl, cc)
same_line [] (c ∷ b) s t h k e = absurd (first_byte c b k (cc))
same_line (c ∷ a) [] s t h k e = absurd (first_byte c a h (cc))
same_line (c ∷ a) (d ∷ b) s t h k e =
    let rest : a ++ (codes "\n" ++ s) ≡ b ++ (codes "\n" ++ t) = cc in
    let r = same_line a b s t (and_parts (is_line_byte c) (list_all is_line_byte a) h).1
    (and_parts (is_line_byte d) (list_all is_line_byte b) k).1 rest in
    (let same : c ≡ d = cc in cc (r.0), r.1)

-- equal texts have equal lines
pub same_lines : {A : Type 0} (f : A → List ℕ) (xs ys : List A) (t u : List ℕ) → AllByRecursion (λ x. Line (f x)) xs
    → AllByRecursion (λ x. Line (f x)) ys → Line t → Line u → fed f xs t ≡ fed f ys u → (map f xs ≡ map f ys) × (t ≡ u)
same_lines f [] [] t u h k p q e = (refl, e)
same_lines f [] (y ∷ ys) t u h k p q e =
    let all : t ≡ f y ++ (codes "\n" ++ fed f ys u) = e ∙ regroup f y ys u in
    absurd (no_feed (f y) (fed f ys u) (rw (← all) p))
same_lines f (x ∷ xs) [] t u h k p q e =
    let all : u ≡ f x ++ (codes "\n" ++ fed f xs t) = sym e ∙ regroup f x xs t in
    absurd (no_feed (f x) (fed f xs t) (rw (← all) q))
same_lines f (x ∷ xs) (y ∷ ys) t u h k p q e =
    let m = same_line (f x) (f y) (fed f xs t) (fed f ys u) h.0 k.0 (sym (regroup f x xs t) ∙ e ∙ regroup f y ys u) in
    let r = same_lines f xs ys t u h.1 k.1 p q m.1 in
    (cc (m.0, r.0), r.1)
