-- The first byte outside of a class is where the run of the class ends; where there is none, each byte is of it.
use Rattle.std.proofs.Common.{◌≡◌, ℕ, ◌+◌, Bool, true, false, not, List, [], ◌∷◌, Some, None, length, cond, nat_lt}
use Rattle.std.{proofs.Common.{arith, refl, sym, ap₂, ◌∙◌, position}, specs.List.{list_all, prefix_len}}
use Rattle.std.proofs.lemmas.{Bool.Decides.nat_tests, Grind.common_steps}

pub all_from_position : (p : ℕ → Bool) (cs : List ℕ) → position (λ b. not (p b)) cs ≡ None → list_all p cs ≡ true
all_from_position p [] h = refl
all_from_position p (c ∷ cs) h = let e = all_from_position p cs in grind (arith, nat_tests, common_steps)

twice_not : (b : Bool) → not (not b) ≡ b
twice_not true = refl
twice_not false = refl

same_run : (p : ℕ → Bool) (cs : List ℕ) → prefix_len (λ b. not (not (p b))) cs ≡ prefix_len p cs
same_run p [] = refl
same_run p (c ∷ cs) = ap₂ (λ b n. cond b (1 + n) 0) (twice_not (p c)) (same_run p cs)

pub run_is_position : (p : ℕ → Bool) (cs : List ℕ) (end : ℕ) → end ≡ prefix_len p cs
    → position (λ b. not (p b)) cs ≡ cond (nat_lt end (length cs)) (Some end) None
run_is_position p cs end e = rw (same_run p cs ∙ sym e) refl
