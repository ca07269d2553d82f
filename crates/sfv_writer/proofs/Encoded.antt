-- The Base64 texts of bytes, part by part.
use Rattle.std.proofs.Common.{◌≡◌, ◌≤◌, ◌<◌, ◌+◌, ◌*◌, ◌/◌, ◌%◌, ℕ, zero, suc, true, List, [], ◌∷◌, ◌++◌, length, take}
use Rattle.std.proofs.Common.{drop, get_or, refl, sym, ap, ◌∙◌, arith, append_assoc, ltb, string_bytes, string_capacity}
use Rattle.std.proofs.Common.{IsAscii, ltb-true, lt-ltb, append-nil, length-append, length-take-le, take-append-drop}
use Rattle.std.{specs.List.list_all, specs.declared.string.String.String, proofs.lemmas.Bool.and_parts}
use Rattle.sfv_spec.specs.Base64.{symbols, symbol, base64_text}
use Rattle.sfv_writer.{specs.Written.LacksRoom, proofs.Room.len_of}

-- its text between colons, after what was written before
pub between_colons : (old a b new bytes : List ℕ) → a ≡ old ++ 58 ∷ [] → b ≡ a ++ base64_text bytes
    → new ≡ b ++ 58 ∷ [] → new ≡ old ++ 58 ∷ (base64_text bytes ++ 58 ∷ [])
between_colons old a b new bytes first second third = third ∙ rw (second, first) (simp append_assoc)

-- ---- symbols are ASCII

below_each : (n : ℕ) (xs : List ℕ) (i : ℕ) → 0 < n → list_all (λ x. ltb x n) xs ≡ true → get_or xs i 0 < n
below_each n [] i some h = some
below_each n (x ∷ xs) zero some h = ltb-true x n (and_parts (ltb x n) (list_all (λ x. ltb x n) xs) h).0
below_each n (x ∷ xs) (suc i) some h = below_each n xs i some (and_parts (ltb x n) (list_all (λ x. ltb x n) xs) h).1

symbol_ascii : (v : ℕ) → ltb (symbol v) 128 ≡ true
symbol_ascii v = lt-ltb _ _ (below_each 128 symbols v (omega arith) refl)

each_ascii : (bytes : List ℕ) → list_all (λ x. ltb x 128) (base64_text bytes) ≡ true
unfolding base64_text
each_ascii [] = refl
each_ascii (a ∷ []) = rw (symbol_ascii (a / 4), symbol_ascii (a % 4 * 16)) refl
each_ascii (a ∷ b ∷ []) = rw (symbol_ascii (a / 4), symbol_ascii (a % 4 * 16 + b / 16), symbol_ascii (b % 16 * 4)) refl
each_ascii (a ∷ b ∷ c ∷ rest) =
    rw (symbol_ascii (a / 4), symbol_ascii (a % 4 * 16 + b / 16), symbol_ascii (b % 16 * 4 + c / 64), symbol_ascii (c % 64))
    (each_ascii rest)

pub text_ascii : (bytes : List ℕ) → IsAscii (base64_text bytes)
text_ascii bytes i = below_each 128 (base64_text bytes) i (omega arith) (each_ascii bytes)

-- ---- the text of a part

group_parts : (bs : List ℕ) → length bs ≡ 3
    → symbol (get_or bs 0 0 / 4) ∷ symbol (get_or bs 0 0 % 4 * 16 + get_or bs 1 0 / 16)
    ∷ symbol (get_or bs 1 0 % 16 * 4 + get_or bs 2 0 / 64) ∷ symbol (get_or bs 2 0 % 64) ∷ [] ≡ base64_text bs
unfolding base64_text
group_parts [] three = absurd (omega (arith, three))
group_parts (a ∷ []) three = absurd (omega (arith, three))
group_parts (a ∷ b ∷ []) three = absurd (omega (arith, three))
group_parts (a ∷ b ∷ c ∷ []) three = refl
group_parts (a ∷ b ∷ c ∷ d ∷ bs) three = absurd (omega (arith, three))

pub group_encoded : (bs : List ℕ) (w x y z : ℕ) → length bs ≡ 3 → w ≡ symbol (get_or bs 0 0 / 4)
    → x ≡ symbol (get_or bs 0 0 % 4 * 16 + get_or bs 1 0 / 16)
    → y ≡ symbol (get_or bs 1 0 % 16 * 4 + get_or bs 2 0 / 64) → z ≡ symbol (get_or bs 2 0 % 64)
    → w ∷ x ∷ y ∷ z ∷ [] ≡ base64_text bs
group_encoded bs w x y z three first second third fourth = rw (first, second, third, fourth) (group_parts bs three)

one_parts : (bs : List ℕ) → length bs ≡ 1
    → symbol (get_or bs 0 0 / 4) ∷ symbol (get_or bs 0 0 % 4 * 16) ∷ 61 ∷ 61 ∷ [] ≡ base64_text bs
unfolding base64_text
one_parts [] one = absurd (omega (arith, one))
one_parts (a ∷ []) one = refl
one_parts (a ∷ b ∷ bs) one = absurd (omega (arith, one))

pub one_encoded : (bs : List ℕ) (w x : ℕ) → length bs ≡ 1 → w ≡ symbol (get_or bs 0 0 / 4)
    → x ≡ symbol (get_or bs 0 0 % 4 * 16) → w ∷ x ∷ 61 ∷ 61 ∷ [] ≡ base64_text bs
one_encoded bs w x one first second = rw (first, second) (one_parts bs one)

two_parts : (bs : List ℕ) → length bs ≡ 2
    → symbol (get_or bs 0 0 / 4) ∷ symbol (get_or bs 0 0 % 4 * 16 + get_or bs 1 0 / 16)
    ∷ symbol (get_or bs 1 0 % 16 * 4) ∷ 61 ∷ [] ≡ base64_text bs
unfolding base64_text
two_parts [] two = absurd (omega (arith, two))
two_parts (a ∷ []) two = absurd (omega (arith, two))
two_parts (a ∷ b ∷ []) two = refl
two_parts (a ∷ b ∷ c ∷ bs) two = absurd (omega (arith, two))

pub two_encoded : (bs : List ℕ) (w x y : ℕ) → length bs ≡ 2 → w ≡ symbol (get_or bs 0 0 / 4)
    → x ≡ symbol (get_or bs 0 0 % 4 * 16 + get_or bs 1 0 / 16) → y ≡ symbol (get_or bs 1 0 % 16 * 4)
    → w ∷ x ∷ y ∷ 61 ∷ [] ≡ base64_text bs
two_encoded bs w x y two first second third = rw (first, second, third) (two_parts bs two)

-- groups of three one after the other
pub text-append : (xs ys : List ℕ) → length xs % 3 ≡ 0 → base64_text (xs ++ ys) ≡ base64_text xs ++ base64_text ys
unfolding base64_text
text-append [] ys n = refl
text-append (a ∷ []) ys n = absurd (omega (arith, n))
text-append (a ∷ b ∷ []) ys n = absurd (omega (arith, n))
text-append (a ∷ b ∷ c ∷ rest) ys n =
    let m : length rest % 3 ≡ 0 = omega (arith, n) in
    cc (text-append rest ys m)

-- ---- the text so far

-- The text of the bytes before the rest is appended.
pub record IsEncodedUpTo {Z : Type 0} (before : String Z) (input rest : List ℕ) (output : String Z) : Type 0 where
  pub done : List ℕ
  pub text : string_bytes output ≡ string_bytes before ++ done
  pub whole : base64_text input ≡ done ++ base64_text rest
  pub grown : string_capacity before ≤ string_capacity output

-- some bytes more are encoded
pub more_encoded : {Z : Type 0} (before output new : String Z) (input rest part after : List ℕ)
    → IsEncodedUpTo before input rest output → base64_text rest ≡ part ++ base64_text after
    → string_bytes new ≡ string_bytes output ++ part → string_capacity output ≤ string_capacity new
    → IsEncodedUpTo before input after new
more_encoded before output new input rest part after so_far parts is grown = record {
  done = so_far.done ++ part;
  text = is ∙ rw (so_far.text, append_assoc) refl;
  whole = so_far.whole ∙ rw (parts, append_assoc) refl;
  grown = omega (arith, so_far.grown, grown);
}

-- where there is no room for more, there is none for all
pub none_for_all : {Z : Type 0} (before output : String Z) (input rest part after : List ℕ)
    → IsEncodedUpTo before input rest output → base64_text rest ≡ part ++ base64_text after
    → LacksRoom output part → LacksRoom before (base64_text input)
none_for_all before output input rest part after so_far parts lacks =
    omega (
      arith,
      len_of before,
      len_of output,
      ap (length {A = ℕ}) so_far.text,
      length-append (string_bytes before) so_far.done,
      ap (length {A = ℕ}) so_far.whole,
      length-append so_far.done (base64_text rest),
      ap (length {A = ℕ}) parts,
      length-append part (base64_text after),
      so_far.grown,
      lacks,
    )

-- all are encoded
pub all_encoded : {Z : Type 0} (before output : String Z) (input rest : List ℕ) → IsEncodedUpTo before input rest output
    → length rest ≡ 0 → string_bytes output ≡ string_bytes before ++ base64_text input
unfolding base64_text
all_encoded before output input [] so_far none = so_far.text ∙ rw (so_far.whole, append-nil) refl
all_encoded before output input (b ∷ rest) so_far none = absurd (omega (arith, none))

-- the text of whole groups in front, and of the rest
pub in_front : (rest part after : List ℕ) (n : ℕ) → n ≤ length rest → n % 3 ≡ 0 → part ≡ take n rest
    → after ≡ drop n rest → base64_text rest ≡ base64_text part ++ base64_text after
in_front rest part after n fits groups front back =
    let size : length part % 3 ≡ 0 = rw (front, length-take-le n rest fits) groups in
    ap base64_text (sym (take-append-drop n rest)) ∙ rw (← front, ← back, text-append part after size) refl

front_of_front : (n k : ℕ) (xs : List ℕ) → n ≤ k → take n (take k xs) ≡ take n xs
front_of_front zero k xs le = refl
front_of_front (suc n) zero xs le = absurd (omega arith)
front_of_front (suc n) (suc k) [] le = refl
front_of_front (suc n) (suc k) (x ∷ xs) le = ap (λ (l : List ℕ). x ∷ l) (front_of_front n k xs (omega arith))

-- the text of the first twelve bytes of a block in front, and of the rest
pub block_in_front : (rest block after : List ℕ) → 16 ≤ length rest → block ≡ take 16 rest → after ≡ drop 12 rest
    → base64_text rest ≡ base64_text (take 12 block) ++ base64_text after
block_in_front rest block after fits front back =
    let same : take 12 block ≡ take 12 rest = ap (take 12) front ∙ front_of_front 12 16 rest (omega arith) in
    in_front rest (take 12 block) after 12 (omega (arith, fits)) refl same back
