-- A list that is not called empty has a first element.
use Rattle.std.proofs.Common.{◌≡◌, Bool, true, false, List, [], ◌∷◌, length, map, refl, ap, ◌∙◌, sym, arith, IsTrue}
use Rattle.std.proofs.Common.{◌↔◌, not}

pub first_unless_empty : {A B : Type 0} (f : A → B) (xs : List A) (empty : Bool) → IsTrue empty ↔ (length xs ≡ 0)
    → IsTrue (not empty) ↔ ((y : B) × (ys : List B) × (map f xs ≡ y ∷ ys))
first_unless_empty f [] empty e =
    (λ t. absurd (let wrong : false ≡ true = sym (ap not (e.1 refl)) ∙ t in cc), λ h. absurd (let none = h.2 in cc))
first_unless_empty f (x ∷ xs) true e = absurd (omega (arith, e.0 refl))
first_unless_empty f (x ∷ xs) false e = (λ t. (f x, map f xs, refl), λ h. refl)
