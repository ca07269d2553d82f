-- The items of a list of bytes are bytes.
use Rattle.std.proofs.Common.{◌≡◌, ℕ, suc, true, List, [], ◌∷◌, get_or, Fits, w8, refl, arith}
use Rattle.std.proofs.lemmas.Bool.{and_from, Decides.nat_tests}
use Rattle.sfv_spec.specs.{Texts.RunOf, Values.is_byte}

below : (x : ℕ) → Fits w8 x → is_byte x ≡ true
below x h = grind (arith, nat_tests)

pub run_of_bytes : (xs : List ℕ) → ((i : ℕ) → Fits w8 (get_or xs i 0)) → RunOf is_byte xs
run_of_bytes [] h = refl
run_of_bytes (x ∷ xs) h = and_from _ _ (below x (h 0)) (run_of_bytes xs (λ i. h (suc i)))
