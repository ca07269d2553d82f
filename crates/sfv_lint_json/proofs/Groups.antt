-- The text of bytes in Base32, group by group.
use Rattle.std.proofs.Common.{◌≡◌, ◌<◌, ◌+◌, ◌*◌, ◌/◌, ◌%◌, ℕ, zero, suc, true, List, [], ◌∷◌, ◌++◌, length, refl}
use Rattle.std.proofs.Common.{arith, ltb, get_or, append_assoc, append-nil, min, IsAscii, ltb-true, lt-ltb}
use Rattle.std.{specs.List.list_all, proofs.lemmas.Bool.and_parts}
use Rattle.sfv_lint_json.specs.Base32.{symbols, symbol, group_symbols, base32_text}

-- ---- symbols are ASCII

below_each : (n : ℕ) (xs : List ℕ) (i : ℕ) → 0 < n → list_all (λ x. ltb x n) xs ≡ true → get_or xs i 0 < n
below_each n [] i some h = some
below_each n (x ∷ xs) zero some h = ltb-true x n (and_parts (ltb x n) (list_all (λ x. ltb x n) xs) h).0
below_each n (x ∷ xs) (suc i) some h = below_each n xs i some (and_parts (ltb x n) (list_all (λ x. ltb x n) xs) h).1

symbol_ascii : (v : ℕ) → ltb (symbol v) 128 ≡ true
symbol_ascii v = lt-ltb _ _ (below_each 128 symbols v (omega arith) refl)

each_ascii : (bytes : List ℕ) → list_all (λ x. ltb x 128) (base32_text bytes) ≡ true
unfolding base32_text
each_ascii [] = refl
each_ascii (a ∷ []) = rw (symbol_ascii (a / 8), symbol_ascii (a % 8 * 4 + 0)) refl
each_ascii (a ∷ b ∷ []) = rw (
  symbol_ascii (a / 8),
  symbol_ascii (a % 8 * 4 + b / 64),
  symbol_ascii (b / 2 % 32),
  symbol_ascii (b % 2 * 16 + 0),
) refl
each_ascii (a ∷ b ∷ c ∷ []) = rw (
  symbol_ascii (a / 8),
  symbol_ascii (a % 8 * 4 + b / 64),
  symbol_ascii (b / 2 % 32),
  symbol_ascii (b % 2 * 16 + c / 16),
  symbol_ascii (c % 16 * 2 + 0),
) refl
each_ascii (a ∷ b ∷ c ∷ d ∷ []) = rw (
  symbol_ascii (a / 8),
  symbol_ascii (a % 8 * 4 + b / 64),
  symbol_ascii (b / 2 % 32),
  symbol_ascii (b % 2 * 16 + c / 16),
  symbol_ascii (c % 16 * 2 + d / 128),
  symbol_ascii (d / 4 % 32),
  symbol_ascii (d % 4 * 8 + 0),
) refl
each_ascii (a ∷ b ∷ c ∷ d ∷ e ∷ rest) = rw (
  symbol_ascii (a / 8),
  symbol_ascii (a % 8 * 4 + b / 64),
  symbol_ascii (b / 2 % 32),
  symbol_ascii (b % 2 * 16 + c / 16),
  symbol_ascii (c % 16 * 2 + d / 128),
  symbol_ascii (d / 4 % 32),
  symbol_ascii (d % 4 * 8 + e / 32),
  symbol_ascii (e % 32),
) (each_ascii rest)

pub ascii : (bytes : List ℕ) → IsAscii (base32_text bytes)
ascii bytes i = below_each 128 (base32_text bytes) i (omega arith) (each_ascii bytes)

-- ---- the text of a group

pub five_bytes : (bs text : List ℕ) → length bs ≡ 5
    → text ≡ group_symbols (get_or bs 0 0) (get_or bs 1 0) (get_or bs 2 0) (get_or bs 3 0) (get_or bs 4 0)
    → text ≡ base32_text bs
unfolding base32_text
five_bytes [] text five is = absurd (omega (arith, five))
five_bytes (a ∷ []) text five is = absurd (omega (arith, five))
five_bytes (a ∷ b ∷ []) text five is = absurd (omega (arith, five))
five_bytes (a ∷ b ∷ c ∷ []) text five is = absurd (omega (arith, five))
five_bytes (a ∷ b ∷ c ∷ d ∷ []) text five is = absurd (omega (arith, five))
five_bytes (a ∷ b ∷ c ∷ d ∷ e ∷ []) text five is = is
five_bytes (a ∷ b ∷ c ∷ d ∷ e ∷ f ∷ bs) text five is = absurd (omega (arith, five))

group_first : (group after : List ℕ) → 0 < length group → length group ≡ min 5 (length (group ++ after))
    → base32_text group ++ base32_text after ≡ base32_text (group ++ after)
unfolding base32_text
group_first [] after some size = absurd (omega (arith, some))
group_first (a ∷ []) [] some size = refl
group_first (a ∷ b ∷ []) [] some size = refl
group_first (a ∷ b ∷ c ∷ []) [] some size = refl
group_first (a ∷ b ∷ c ∷ d ∷ []) [] some size = refl
group_first (a ∷ b ∷ c ∷ d ∷ e ∷ []) after some size = refl
group_first (a ∷ []) (x ∷ xs) some size = absurd (omega (arith, size))
group_first (a ∷ b ∷ []) (x ∷ xs) some size = absurd (omega (arith, size))
group_first (a ∷ b ∷ c ∷ []) (x ∷ xs) some size = absurd (omega (arith, size))
group_first (a ∷ b ∷ c ∷ d ∷ []) (x ∷ xs) some size = absurd (omega (arith, size))
group_first (a ∷ b ∷ c ∷ d ∷ e ∷ f ∷ bs) after some size = absurd (omega (arith, size))

-- one more group is appended
pub one_more : (old new bytes rest group after : List ℕ) → old ++ base32_text rest ≡ base32_text bytes
    → rest ≡ group ++ after → length group ≡ min 5 (length rest) → 0 < length rest → new ≡ old ++ base32_text group
    → new ++ base32_text after ≡ base32_text bytes
one_more old new bytes rest group after so_far parts size some is =
    let whole : base32_text group ++ base32_text after ≡ base32_text (group ++ after) =
    group_first group after (omega (arith, size, some)) (rw parts at size) in
    rw (is, append_assoc, whole, ← parts) so_far

pub all : (text bytes rest : List ℕ) → text ++ base32_text rest ≡ base32_text bytes → length rest ≡ 0
    → text ≡ base32_text bytes
unfolding base32_text
all text bytes [] so_far none = rw append-nil at so_far
all text bytes (x ∷ rest) so_far none = absurd (omega (arith, none))
