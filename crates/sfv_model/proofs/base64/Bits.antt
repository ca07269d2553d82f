-- The bits of values and of bytes.
use Rattle.std.proofs.Common.{◌≡◌, ℕ, suc, ◌<◌, ◌+◌, ◌*◌, ◌/◌, ◌%◌, List, [], ◌∷◌, ◌++◌, length, refl, ◌∙◌, Bool, true}
use Rattle.std.proofs.Common.{append_assoc, arith, nat_lt, flat_map, ltb-true, lt-ltb, append-nil}
use Rattle.std.{specs.List.list_all, proofs.lemmas.Bool.and_parts}
use Rattle.sfv_spec.specs.{Base64.bits, Values.is_byte}
use Rattle.sfv_model.specs.Content.{bytes_from, most_padding}

abbrev pub is_value : ℕ → Bool
is_value v = nat_lt v 64

-- the bits past the last whole byte
unfoldable pub spare_of : List ℕ → List Bool
spare_of [] = []
spare_of (a ∷ []) = []
spare_of (a ∷ b ∷ []) = bits 4 b
spare_of (a ∷ b ∷ c ∷ []) = bits 2 c
spare_of (a ∷ b ∷ c ∷ d ∷ rest) = spare_of rest

first_byte : (a b : ℕ) → b < 64 → bits 6 a ++ bits 6 b ≡ bits 8 (a * 4 + b / 16) ++ bits 4 b
unfolding bits
first_byte a b lb =
    let e7 : (a * 4 + b / 16) / 128 ≡ a / 32 = omega arith in
    let e6 : (a * 4 + b / 16) / 64 ≡ a / 16 = omega arith in
    let e5 : (a * 4 + b / 16) / 32 ≡ a / 8 = omega arith in
    let e4 : (a * 4 + b / 16) / 16 ≡ a / 4 = omega arith in
    let e3 : (a * 4 + b / 16) / 8 ≡ a / 2 = omega arith in
    let e2 : (a * 4 + b / 16) / 4 ≡ a / 1 = omega arith in
    let e1 : (a * 4 + b / 16) / 2 % 2 ≡ b / 32 % 2 = omega arith in
    let e0 : (a * 4 + b / 16) / 1 % 2 ≡ b / 16 % 2 = omega arith in
    rw (e7, e6, e5, e4, e3, e2, e1, e0) refl

second_byte : (b c : ℕ) → c < 64 → bits 4 b ++ bits 6 c ≡ bits 8 (b % 16 * 16 + c / 4) ++ bits 2 c
unfolding bits
second_byte b c lc =
    let e7 : (b % 16 * 16 + c / 4) / 128 % 2 ≡ b / 8 % 2 = omega arith in
    let e6 : (b % 16 * 16 + c / 4) / 64 % 2 ≡ b / 4 % 2 = omega arith in
    let e5 : (b % 16 * 16 + c / 4) / 32 % 2 ≡ b / 2 % 2 = omega arith in
    let e4 : (b % 16 * 16 + c / 4) / 16 % 2 ≡ b / 1 % 2 = omega arith in
    let e3 : (b % 16 * 16 + c / 4) / 8 % 2 ≡ c / 32 % 2 = omega arith in
    let e2 : (b % 16 * 16 + c / 4) / 4 % 2 ≡ c / 16 % 2 = omega arith in
    let e1 : (b % 16 * 16 + c / 4) / 2 % 2 ≡ c / 8 % 2 = omega arith in
    let e0 : (b % 16 * 16 + c / 4) / 1 % 2 ≡ c / 4 % 2 = omega arith in
    rw (e7, e6, e5, e4, e3, e2, e1, e0) refl

third_byte : (c d : ℕ) → d < 64 → bits 2 c ++ bits 6 d ≡ bits 8 (c % 4 * 64 + d)
unfolding bits
third_byte c d ld =
    let e7 : (c % 4 * 64 + d) / 128 % 2 ≡ c / 2 % 2 = omega arith in
    let e6 : (c % 4 * 64 + d) / 64 % 2 ≡ c / 1 % 2 = omega arith in
    let e5 : (c % 4 * 64 + d) / 32 % 2 ≡ d / 32 % 2 = omega arith in
    let e4 : (c % 4 * 64 + d) / 16 % 2 ≡ d / 16 % 2 = omega arith in
    let e3 : (c % 4 * 64 + d) / 8 % 2 ≡ d / 8 % 2 = omega arith in
    let e2 : (c % 4 * 64 + d) / 4 % 2 ≡ d / 4 % 2 = omega arith in
    let e1 : (c % 4 * 64 + d) / 2 % 2 ≡ d / 2 % 2 = omega arith in
    let e0 : (c % 4 * 64 + d) / 1 % 2 ≡ d / 1 % 2 = omega arith in
    rw (e7, e6, e5, e4, e3, e2, e1, e0) refl

-- the values of a list, one by one
pub head_value : (v : ℕ) (vs : List ℕ) → list_all is_value (v ∷ vs) ≡ true → (v < 64) × (list_all is_value vs ≡ true)
head_value v vs h = let p = and_parts (is_value v) (list_all is_value vs) h in (ltb-true v 64 p.0, p.1)

pub two_bits : (a b : ℕ) → b < 64 → flat_map (bits 6) (a ∷ b ∷ [])
    ≡ flat_map (bits 8) (bytes_from (a ∷ b ∷ [])) ++ bits 4 b
unfolding bytes_from
two_bits a b lb = simp (append-nil) (first_byte a b lb)

pub three_bits : (a b c : ℕ) → b < 64 → c < 64 → flat_map (bits 6) (a ∷ b ∷ c ∷ [])
    ≡ flat_map (bits 8) (bytes_from (a ∷ b ∷ c ∷ [])) ++ bits 2 c
unfolding bytes_from bits
three_bits a b c lb lc = cc (first_byte a b lb, second_byte b c lc)

four_bits : (a b c d : ℕ) (t : List Bool) → b < 64 → c < 64 → d < 64
    → bits 6 a ++ (bits 6 b ++ (bits 6 c ++ (bits 6 d ++ t)))
    ≡ bits 8 (a * 4 + b / 16) ++ (bits 8 (b % 16 * 16 + c / 4) ++ (bits 8 (c % 4 * 64 + d) ++ t))
unfolding bits
four_bits a b c d t lb lc ld = cc (first_byte a b lb, second_byte b c lc, third_byte c d ld)

pub same_bits : (vs : List ℕ) → list_all is_value vs ≡ true → ¬ (length vs % 4 ≡ 1)
    → flat_map (bits 6) vs ≡ flat_map (bits 8) (bytes_from vs) ++ spare_of vs
unfolding bytes_from spare_of
same_bits [] h n = refl
same_bits (a ∷ []) h n = absurd (n refl)
same_bits (a ∷ b ∷ []) h n = two_bits a b (head_value b [] (head_value a (b ∷ []) h).1).0
same_bits (a ∷ b ∷ c ∷ []) h n =
    let p = head_value b (c ∷ []) (head_value a (b ∷ c ∷ []) h).1 in
    three_bits a b c p.0 (head_value c [] p.1).0
same_bits (a ∷ b ∷ c ∷ d ∷ rest) h n =
    let p = head_value b (c ∷ d ∷ rest) (head_value a (b ∷ c ∷ d ∷ rest) h).1 in
    let q = head_value c (d ∷ rest) p.1 in
    let r = head_value d rest q.1 in
    let m : ¬ (length rest % 4 ≡ 1) = λ e. n (omega arith) in
    rw (same_bits rest r.1 m) (four_bits a b c d (flat_map (bits 8) (bytes_from rest) ++ spare_of rest) p.0 q.0 r.0
    ∙ simp append_assoc)

pub spare_length : (vs : List ℕ) → ¬ (length vs % 4 ≡ 1) → length (spare_of vs) ≡ 2 * most_padding (length vs)
unfolding spare_of bits
spare_length [] n = refl
spare_length (a ∷ []) n = absurd (n refl)
spare_length (a ∷ b ∷ []) n = refl
spare_length (a ∷ b ∷ c ∷ []) n = refl
spare_length (a ∷ b ∷ c ∷ d ∷ rest) n =
    let e : suc (suc (suc (suc (length rest)))) % 4 ≡ length rest % 4 = omega arith in
    let m : ¬ (length rest % 4 ≡ 1) = λ e. n (omega arith) in
    spare_length rest m ∙ rw e refl

byte_below : (n : ℕ) → n < 256 → is_byte n ≡ true
byte_below n h = lt-ltb n 256 h

pub bytes_within : (vs : List ℕ) → list_all is_value vs ≡ true → list_all is_byte (bytes_from vs) ≡ true
unfolding bytes_from
bytes_within [] h = refl
bytes_within (a ∷ []) h = refl
bytes_within (a ∷ b ∷ []) h =
    let o = head_value a (b ∷ []) h in
    let p = head_value b [] o.1 in
    rw (byte_below (a * 4 + b / 16) (omega arith)) refl
bytes_within (a ∷ b ∷ c ∷ []) h =
    let o = head_value a (b ∷ c ∷ []) h in
    let p = head_value b (c ∷ []) o.1 in
    let q = head_value c [] p.1 in
    rw (byte_below (a * 4 + b / 16) (omega arith), byte_below (b % 16 * 16 + c / 4) (omega arith)) refl
bytes_within (a ∷ b ∷ c ∷ d ∷ rest) h =
    let o = head_value a (b ∷ c ∷ d ∷ rest) h in
    let p = head_value b (c ∷ d ∷ rest) o.1 in
    let q = head_value c (d ∷ rest) p.1 in
    let r = head_value d rest q.1 in
    rw (
      byte_below (a * 4 + b / 16) (omega arith),
      byte_below (b % 16 * 16 + c / 4) (omega arith),
      byte_below (c % 4 * 64 + d) (omega arith),
    ) (bytes_within rest r.1)
