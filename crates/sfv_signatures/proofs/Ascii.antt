-- ASCII, by the clauses of std and by a test of each byte.
use Rattle.std.proofs.Common.{◌≡◌, ℕ, zero, suc, List, [], ◌∷◌, true, false, refl, arith, Ok, Err, nat_lt, Bool, ◌&&◌}
use Rattle.std.proofs.Common.{◌<◌, IsAscii, ltb-true}
use Rattle.std.{specs.List.{list_all, list_any}, specs.Str.IsNotAscii, proofs.lemmas.Bool.Decides.nat_tests}
use Rattle.std.proofs.lemmas.List.{Elements.All-weaker, Sums.{list_all-from_AllPass, AllPass-from_list_all}}
use Rattle.std.proofs.lemmas.Str.Ascii.{All-from_ascii, IsAscii-from_all}
use Rattle.sfv_signatures.specs.SignatureBase.{is_line_break, checked}
use Rattle.sfv_signatures.specs.declared.base_error.BaseErrorKind.TheVariants as kinds

pub all_ascii : (bs : List ℕ) → IsAscii bs → list_all (λ c. nat_lt c 128) bs ≡ true
all_ascii bs h = list_all-from_AllPass (λ c. nat_lt c 128) bs
    (All-weaker (λ c. c < 128) (λ c. nat_lt c 128 ≡ true) (λ c k. grind (arith, nat_tests)) bs (All-from_ascii bs h))

pub some_not_ascii : (bs : List ℕ) → IsNotAscii bs → list_all (λ c. nat_lt c 128) bs ≡ false
some_not_ascii [] h = absurd (omega (arith, h.1))
some_not_ascii (c ∷ bs) (zero, h) = let over : nat_lt c 128 ≡ false = grind (arith, nat_tests) in rw over refl
some_not_ascii (c ∷ bs) (suc i, h) = either (nat_lt c 128) (some_not_ascii bs (i, h))
  where
    either : (b : Bool) → list_all (λ c. nat_lt c 128) bs ≡ false → (b && list_all (λ c. nat_lt c 128) bs) ≡ false
    either true k = k
    either false k = refl

pub ascii_from : (v : List ℕ) → list_all (λ c. nat_lt c 128) v ≡ true → IsAscii v
ascii_from v h = IsAscii-from_all v (All-weaker (λ c. nat_lt c 128 ≡ true) (λ c. c < 128) (λ c k. ltb-true c 128 k) v
    (AllPass-from_list_all (λ c. nat_lt c 128) v h))

-- ---- checked values

pub ascii_checked : (v : List ℕ) → list_any is_line_break v ≡ false → IsAscii v → checked (Ok v) ≡ Ok v
ascii_checked v h k = rw (all_ascii v k, h) refl

pub broken_checked : (v : List ℕ) → list_any is_line_break v ≡ true → IsAscii v → checked (Ok v) ≡ Err kinds.LineBreak
broken_checked v h k = rw (all_ascii v k, h) refl

pub other_checked : (v : List ℕ) → IsNotAscii v → checked (Ok v) ≡ Err kinds.NotAscii
other_checked v k = rw (some_not_ascii v k) refl
