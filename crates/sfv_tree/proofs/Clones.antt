-- Copies of the elements of a list keep their values and seeds.
use Rattle.std.{proofs.Common.{◌≡◌, List, [], ◌∷◌, map, refl}, specs.List.AllZip}

module _ {A : Type 0} where
  -- each copy has the value of its source
  pub each_cloned : {B : Type 0} (f : A → B) (Q : A → A → Type 0) (xs ys : List A)
      → AllZip (λ x y. (f y ≡ f x) × Q x y) xs ys → map f ys ≡ map f xs
  each_cloned f Q [] [] h = refl
  each_cloned f Q [] (y ∷ ys) h = absurd h
  each_cloned f Q (x ∷ xs) [] h = absurd h
  each_cloned f Q (x ∷ xs) (y ∷ ys) h = rw (h.0.0, each_cloned f Q xs ys h.1) refl

  -- each copy hashes under the seed of its source
  pub each_seeded : {B : Type 0} (R : A → A → Type 0) (f : A → B) (xs ys : List A)
      → AllZip (λ x y. R x y × (f y ≡ f x)) xs ys → map f ys ≡ map f xs
  each_seeded R f [] [] h = refl
  each_seeded R f [] (y ∷ ys) h = absurd h
  each_seeded R f (x ∷ xs) [] h = absurd h
  each_seeded R f (x ∷ xs) (y ∷ ys) h = rw (h.0.1, each_seeded R f xs ys h.1) refl
