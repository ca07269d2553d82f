-- Parts that are written in a row, with a separator between each two.
use Rattle.std.proofs.Common.{◌≡◌, ℕ, ◌+◌, ◌<◌, Bool, true, false, List, [], ◌∷◌, ◌++◌, length, get_or, map, take, refl}
use Rattle.std.proofs.Common.{sym, ap, ◌∙◌, append_assoc, Result, Ok, Err, arith, IfErr, OnOk, append-nil}
use Rattle.std.{specs.List.AllByRecursion, proofs.lemmas.List.{take_more, map-append}}
use Rattle.sfv_spec.specs.Texts.{joined}
use Rattle.sfv_writer.specs.Written.{separator_before, with_separators, is_first_after}

-- one more that is good
all_push : {A : Type 0} (P : A → Type 0) (xs : List A) (x : A) → AllByRecursion P xs → P x
    → AllByRecursion P (xs ++ x ∷ [])
all_push P [] x h p = (p, tt)
all_push P (y ∷ ys) x h p = (h.0, all_push P ys x h.1 p)

-- the values of one more of a list
pub mapped_more : {A B : Type 0} (f : A → B) (xs : List A) (i : ℕ) (x : A) → i < length xs → x ≡ get_or xs i x
    → map f (take (i + 1) xs) ≡ map f (take i xs) ++ f x ∷ []
mapped_more f xs i x lt e = ap (map f) (take_more xs i x lt) ∙ map-append f (take i xs) (get_or xs i x ∷ [])
    ∙ ap (λ y. map f (take i xs) ++ f y ∷ []) (sym e)

-- both of what holds of each
pub all_both : {A : Type 0} (P Q : A → Type 0) (xs : List A) → AllByRecursion (λ x. P x × Q x) xs
    → AllByRecursion P xs × AllByRecursion Q xs
all_both P Q [] h = (tt, tt)
all_both P Q (x ∷ xs) h = let rest = all_both P Q xs h.1 in ((h.0.0, rest.0), (h.0.1, rest.1))

-- a list that isn't empty has a first value
pub first_of_some : {A B : Type 0} (f : A → B) (xs : List A) → 0 < length xs
    → (y : B) × (ys : List B) × (map f xs ≡ y ∷ ys)
first_of_some f [] h = absurd (omega (arith, h))
first_of_some f (x ∷ xs) h = (f x, map f xs, refl)

-- and an empty list has none
pub first_of_none : {A B : Type 0} (f : A → B) (xs : List A) → length xs ≡ 0
    → ¬ ((y : B) × (ys : List B) × (map f xs ≡ y ∷ ys))
first_of_none f [] e = λ h. let e = h.2 in cc
first_of_none f (x ∷ xs) e = absurd (omega (arith, e))

-- what is known of the items of an inner list, and what its parameters are when they are written
pub parts_on_ok : {T E P R : Type 0} (Q S : Type 0) (r : Result T E) → P → (S → R) → OnOk r Q → OnOk r S
    → OnOk r ((P × Q) × R)
parts_on_ok Q S (Ok x) p q h k = ((p, h), q k)
parts_on_ok Q S (Err e) p q h k = tt

-- what holds anyway holds of an error
pub anyway : {A E : Type 0} (X : Type 0) (r : Result A E) → X → IfErr r (λ _. X)
anyway X (Ok v) x = tt
anyway X (Err e) x = x

-- What is known when these parts are written after others: whether none stands, the text, and that each is good.
pub record IsLed {A : Type 0} (text_of : A → List ℕ) (IsGood : A → Type 0) (separator : List ℕ) (xs : List A)
    (was_first is_first : Bool) (before output : List ℕ) : Type 0 where
  pub first : is_first ≡ is_first_after was_first xs
  pub text : output ≡ before ++ with_separators was_first separator (map text_of xs)
  pub good : AllByRecursion IsGood xs

is_first_after-push : {A : Type 0} (b : Bool) (xs : List A) (x : A) → is_first_after b (xs ++ x ∷ []) ≡ false
is_first_after-push b [] x = refl
is_first_after-push b (y ∷ ys) x = refl

-- when one stands, one stands from then on
pub is_first_after-false : {A : Type 0} (xs : List A) → is_first_after false xs ≡ false
is_first_after-false [] = refl
is_first_after-false (y ∷ ys) = refl

-- one more text, after the separator unless it is the first
pub in_a_row_push : {A : Type 0} (text_of : A → List ℕ) (s : List ℕ) (b : Bool) (xs : List A) (x : A)
    → with_separators b s (map text_of (xs ++ x ∷ []))
    ≡ (with_separators b s (map text_of xs) ++ separator_before (is_first_after b xs) s) ++ text_of x
in_a_row_push text_of s b [] x = append-nil (separator_before b s ++ text_of x)
in_a_row_push text_of s b (y ∷ ys) x =
    let rest : List ℕ = with_separators false s (map text_of ys) in
    let front : List ℕ = separator_before b s ++ text_of y in
    ap (λ (t : List ℕ). front ++ t) (in_a_row_push text_of s false ys x
    ∙ ap (λ (f : Bool). (rest ++ separator_before f s) ++ text_of x) (is_first_after-false ys)) ∙ sym
    (append_assoc front (rest ++ s) (text_of x)) ∙ ap (λ (t : List ℕ). t ++ text_of x) (sym (append_assoc front rest s))

-- one more part is written
pub in_a_row_more : {A : Type 0} (text_of : A → List ℕ) (IsGood : A → Type 0) (s : List ℕ) (xs : List A)
    (was_first is_first is_next : Bool) (before output front new : List ℕ) (x : A)
    → IsLed text_of IsGood s xs was_first is_first before output → is_next ≡ false
    → front ≡ output ++ separator_before is_first s → new ≡ front ++ text_of x → IsGood x
    → IsLed text_of IsGood s (xs ++ x ∷ []) was_first is_next before new
in_a_row_more text_of IsGood s xs was_first is_first is_next before output front new x row f l n g =
    let so_far : List ℕ = with_separators was_first s (map text_of xs) in
    let between : List ℕ = separator_before (is_first_after was_first xs) s in
    record {
      first = f ∙ sym (is_first_after-push was_first xs x);
      text = n ∙ ap (λ (t : List ℕ). t ++ text_of x) (l ∙ ap (λ (t : List ℕ). t ++ separator_before is_first s) row.text
          ∙ ap (λ (b : Bool). (before ++ so_far) ++ separator_before b s) row.first ∙ append_assoc before so_far between)
          ∙ append_assoc before (so_far ++ between) (text_of x)
          ∙ ap (λ (t : List ℕ). before ++ t) (sym (in_a_row_push text_of s was_first xs x));
      good = all_push IsGood xs x row.good g;
    }

-- the first part has no separator
pub in_a_row_first : (s : List ℕ) (xs : List (List ℕ)) → with_separators true s xs ≡ joined s xs
in_a_row_first s [] = refl
in_a_row_first s (x ∷ []) = append-nil x
in_a_row_first s (x ∷ y ∷ xs) =
    let after : List ℕ = with_separators false s xs in
    ap (λ (t : List ℕ). x ++ t) (append_assoc s y after) ∙ sym (append_assoc x s (y ++ after))
    ∙ ap (λ (t : List ℕ). (x ++ s) ++ t) (in_a_row_first s (y ∷ xs))
