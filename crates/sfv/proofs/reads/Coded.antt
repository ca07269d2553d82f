-- The bytes of symbols, group by group.
use Rattle.std.proofs.Common.{◌≡◌, ℕ, ◌<◌, ◌≤◌, ◌+◌, ◌*◌, ◌/◌, ◌%◌, List, [], ◌∷◌, ◌++◌, length, map, append_assoc}
use Rattle.std.proofs.Common.{take, drop, refl, sym, ◌∙◌, ap, true, arith, suc, take-take, append-nil, length-take-le}
use Rattle.std.{proofs.Common.{length-drop, take-append-drop}, specs.List.list_all}
use Rattle.std.proofs.lemmas.{Bool.{and_parts, and_from}, List.{length-map, map-append}, List.Folds.list_all-append}
use Rattle.sfv_spec.proofs.Marks.{is_symbol}
use Rattle.sfv_model.specs.Content.{symbol_value, bytes_from}
use Rattle.sfv.specs.parser.Base64.{decoded_symbols}

-- groups of four one after the other
pub bytes_from-append : (vs ws : List ℕ) → length vs % 4 ≡ 0 → bytes_from (vs ++ ws) ≡ bytes_from vs ++ bytes_from ws
unfolding bytes_from
bytes_from-append [] ws n = refl
bytes_from-append (a ∷ []) ws n = absurd (omega (arith, n))
bytes_from-append (a ∷ b ∷ []) ws n = absurd (omega (arith, n))
bytes_from-append (a ∷ b ∷ c ∷ []) ws n = absurd (omega (arith, n))
bytes_from-append (a ∷ b ∷ c ∷ d ∷ rest) ws n =
    let m : length rest % 4 ≡ 0 = omega (arith, n) in
    cc (bytes_from-append rest ws m)

-- symbols up to a place, and from there on
pub all_parts : (n : ℕ) (cs : List ℕ) → list_all is_symbol cs ≡ true
    → (list_all is_symbol (take n cs) ≡ true) × (list_all is_symbol (drop n cs) ≡ true)
all_parts n cs h = and_parts _ _
    (sym (list_all-append is_symbol (take n cs) (drop n cs)) ∙ ap (list_all is_symbol) (take-append-drop n cs) ∙ h)

-- ---- the whole groups, and what is left

-- a list of symbols in front of place w, and from there on
symbols_from : (cs : List ℕ) (w : ℕ) → w ≤ length cs → w % 4 ≡ 0
    → decoded_symbols cs ≡ decoded_symbols (take w cs) ++ decoded_symbols (drop w cs)
symbols_from cs w l whole =
    let size : length (map symbol_value (take w cs)) ≡ w = length-map (take w cs) symbol_value
    ∙ length-take-le w cs l in
    ap decoded_symbols (sym (take-append-drop w cs)) ∙ ap bytes_from (map-append symbol_value (take w cs) (drop w cs))
    ∙ bytes_from-append (map symbol_value (take w cs)) (map symbol_value (drop w cs)) (rw size whole)

-- the values before others that make whole groups with them
front_bytes : (vs ws : List ℕ) → (length vs + length ws) % 4 ≡ 0
    → take (length vs * 3 / 4) (bytes_from (vs ++ ws)) ≡ bytes_from vs
unfolding bytes_from
front_bytes [] ws n = refl
front_bytes (a ∷ []) ws n = refl
front_bytes (a ∷ b ∷ []) [] n = absurd (omega (arith, n))
front_bytes (a ∷ b ∷ []) (c ∷ []) n = absurd (omega (arith, n))
front_bytes (a ∷ b ∷ []) (c ∷ d ∷ ws) n = refl
front_bytes (a ∷ b ∷ c ∷ []) [] n = absurd (omega (arith, n))
front_bytes (a ∷ b ∷ c ∷ []) (d ∷ ws) n = refl
front_bytes (a ∷ b ∷ c ∷ d ∷ vs) ws n =
    let m : (length vs + length ws) % 4 ≡ 0 = omega (arith, n) in
    let size : length (a ∷ b ∷ c ∷ d ∷ vs) * 3 / 4 ≡ suc (suc (suc (length vs * 3 / 4))) = omega arith in
    rw size (cc (front_bytes vs ws m))

-- a block of the symbol with the value 0
abbrev pub zeros : List ℕ
zeros = 65 ∷ 65 ∷ 65 ∷ 65 ∷ 65 ∷ 65 ∷ 65 ∷ 65 ∷ 65 ∷ 65 ∷ 65 ∷ 65 ∷ 65 ∷ 65 ∷ 65 ∷ 65 ∷ []

pub zeros_each : list_all is_symbol zeros ≡ true
unfolding is_symbol
zeros_each = refl

-- symbols that others fill up to a block
pub filled_each : (cs front fill : List ℕ) → front ≡ cs → list_all is_symbol cs ≡ true → list_all is_symbol fill ≡ true
    → list_all is_symbol (front ++ drop (length cs) fill) ≡ true
filled_each cs front fill is each filled = list_all-append is_symbol front (drop (length cs) fill)
    ∙ and_from _ _ (rw is each) ((all_parts (length cs) fill filled).1)

-- the bytes of such symbols, from the bytes of the block
pub filled_decoded : (cs front fill block : List ℕ) → front ≡ cs → length fill ≡ 16 → length cs < 16
    → take 12 block ≡ decoded_symbols (front ++ drop (length cs) fill)
    → take (length cs * 3 / 4) block ≡ decoded_symbols cs
filled_decoded cs front fill block is size few bytes =
    let vs : List ℕ = map symbol_value cs in
    let ws : List ℕ = map symbol_value (drop (length cs) fill) in
    let n : length vs ≡ length cs = length-map cs symbol_value in
    let m : length ws ≡ length (drop (length cs) fill) = length-map (drop (length cs) fill) symbol_value in
    let groups : (length vs + length ws) % 4 ≡ 0 = omega (arith, n, m, length-drop (length cs) fill, size, few) in
    let front_is : decoded_symbols (front ++ drop (length cs) fill) ≡ bytes_from (vs ++ ws) =
    ap (λ (l : List ℕ). decoded_symbols (l ++ drop (length cs) fill)) is
    ∙ ap bytes_from (map-append symbol_value cs (drop (length cs) fill)) in
    sym (take-take (length cs * 3 / 4) 12 block (omega (arith, few))) ∙ ap (λ (l : List ℕ). take (length cs * 3 / 4) l)
    (bytes ∙ front_is) ∙ ap (λ (k : ℕ). take (k * 3 / 4) (bytes_from (vs ++ ws))) (sym n) ∙ front_bytes vs ws groups

-- no symbol has no byte
pub none_after : (old cs : List ℕ) → length cs ≡ 0 → old ≡ old ++ decoded_symbols cs
unfolding bytes_from
none_after old [] none = sym (append-nil old)
none_after old (c ∷ cs) none = absurd (omega (arith, none))

-- What is known of the bytes and of the symbols that are left, when those before are decoded.
pub record IsDecodedUpTo (before symbols rest bytes : List ℕ) : Type 0 where
  pub each : list_all is_symbol rest ≡ true
  pub within : length rest ≤ length symbols
  pub all : bytes ++ decoded_symbols rest ≡ before ++ decoded_symbols symbols

-- some symbols more are decoded
pub more_decoded : (before symbols rest bytes part after new : List ℕ) (n : ℕ)
    → IsDecodedUpTo before symbols rest bytes → n ≤ length rest → n % 4 ≡ 0 → part ≡ take n rest
    → after ≡ drop n rest → new ≡ bytes ++ decoded_symbols part → IsDecodedUpTo before symbols after new
more_decoded before symbols rest bytes part after new n so_far fits groups front back is =
    let parts = symbols_from rest n fits groups in
    record {
      each = rw back ((all_parts n rest so_far.each).1);
      within = rw back (omega (arith, length-drop n rest, so_far.within));
      all = rw (is, front, back, append_assoc, ← parts) so_far.all;
    }
