-- Facts of each element of a list, by recursion on the list.
use Rattle.std.{proofs.Common.{◌≡◌, List, [], ◌∷◌, ◌++◌, map, flat_map}, specs.List.AllByRecursion}

-- what holds of all values holds of each element
pub each : {A : Type 0} {P : A → Type 0} → ((x : A) → P x) → (xs : List A) → AllByRecursion P xs
each f [] = tt
each f (x ∷ xs) = (f x, each f xs)

-- what follows from a fact of each element
pub each_within : {A : Type 0} {P Q : A → Type 0} → ((x : A) → P x → Q x) → (xs : List A) → AllByRecursion P xs
    → AllByRecursion Q xs
each_within f [] h = tt
each_within f (x ∷ xs) h = (f x h.0, each_within f xs h.1)

-- what holds in front and after holds of the whole
pub each_append : {A : Type 0} (P : A → Type 0) (xs ys : List A) → AllByRecursion P xs → AllByRecursion P ys
    → AllByRecursion P (xs ++ ys)
each_append P [] ys h k = k
each_append P (x ∷ xs) ys h k = (h.0, each_append P xs ys h.1 k)

-- what holds of the whole holds in front and after
pub each_split : {A : Type 0} (P : A → Type 0) (xs ys : List A) → AllByRecursion P (xs ++ ys)
    → AllByRecursion P xs × AllByRecursion P ys
each_split P [] ys h = (tt, h)
each_split P (x ∷ xs) ys h = let rest = each_split P xs ys h.1 in ((h.0, rest.0), rest.1)

-- what holds of each image holds of the mapped list
pub each_map : {A B : Type 0} (P : B → Type 0) (f : A → B) (xs : List A) → AllByRecursion (λ x. P (f x)) xs
    → AllByRecursion P (map f xs)
each_map P f [] h = tt
each_map P f (x ∷ xs) h = (h.0, each_map P f xs h.1)

-- and what holds of the elements of each image holds of all in a row
pub each_flat_map : {A B : Type 0} (P : B → Type 0) (f : A → List B) (xs : List A)
    → AllByRecursion (λ x. AllByRecursion P (f x)) xs → AllByRecursion P (flat_map f xs)
each_flat_map P f [] h = tt
each_flat_map P f (x ∷ xs) h = each_append P (f x) (flat_map f xs) h.0 (each_flat_map P f xs h.1)

-- a list whose elements are kept is kept
pub map_own : {A : Type 0} (f : A → A) (xs : List A) → AllByRecursion (λ x. f x ≡ x) xs → map f xs ≡ xs
map_own f [] h = λ _. []
map_own f (x ∷ xs) h = λ j. h.0 j ∷ map_own f xs h.1 j
