-- A run of a class, seen 32 bytes at a time through the mask of those outside it.
use Rattle.std.proofs.Common.{◌≡◌, ℕ, zero, suc, ◌+◌, ◌-◌, ◌*◌, ◌/◌, ◌<◌, ◌≤◌, Bool, true, false, not, cond, eqb, List}
use Rattle.std.proofs.Common.{[], ◌∷◌, ◌++◌, inl, inr, length, get_or, take, drop, refl, sym, ap, ap₂, ◌∙◌, arith}
use Rattle.std.proofs.Common.{drop-drop, length-drop, eq-eqb, ne_eqb, take_all, take-append-drop, length-take-le}
use Rattle.std.{proofs.Common.length-append, specs.Array.IsWholeChunk}
use Rattle.std.{specs.List.{prefix_len, list_all}, specs.Simd.first_chunks, proofs.lemmas.Bool.{and_from, cases_lt}}
use Rattle.std.proofs.lemmas.List.{Folds.prefix_len-append, Sums.{prefix_len-le-length, prefix_len_stops}}
use Rattle.std.proofs.lemmas.Simd.{chunk-drop, length-chunk, leading_from_mask_l, trailing_mask_l}
use lib.Count.{count_trailing_zeros}
use lib.Lanes.{chunk}
use Rattle.sfv_base.specs.Lanes.{outside_mask}

-- the chunk at an index
pub chunk_at : (n k : ℕ) (xs : List ℕ) (i : ℕ) → i < k → get_or (first_chunks n k xs) i [] ≡ chunk (n * i) n xs
chunk_at n zero xs i lt = absurd (omega arith)
chunk_at n (suc k) xs zero lt = let e : 0 ≡ n * 0 = grind arith in ap (λ j. take n (drop j xs)) e
chunk_at n (suc k) xs (suc i) lt =
    let e : n + n * i ≡ n * suc i = grind arith in
    chunk_at n k (drop n xs) i (omega arith) ∙ ap (take n) (drop-drop (n * i) n xs ∙ ap (λ j. drop j xs) e)

none_outside : (b : Bool) (n l m : ℕ) → n ≤ l → cond b (1 + n) 0 ≡ 1 + l → (n ≡ l → m ≡ 0)
    → cond (not b) 1 0 + 2 * m ≡ 0
none_outside false n l m le e ih = let no : ⊥ = omega arith in absurd no
none_outside true n l m le e ih = let z = ih (omega arith) in omega arith

module _ (class : ℕ → Bool) where
  abbrev other : ℕ → Bool
  other x = not (class x)

  same_run : (xs : List ℕ) → prefix_len class xs ≡ prefix_len (λ x. not (other x)) xs
  same_run [] = refl
  same_run (x ∷ xs) = ap₂ (λ b n. cond b (1 + n) 0) (twice_not (class x)) (same_run xs)
    where
      twice_not : (b : Bool) → b ≡ not (not b)
      twice_not true = refl
      twice_not false = refl

  whole : (xs : List ℕ) → prefix_len class xs ≡ length xs → outside_mask class xs ≡ 0
  whole [] e = refl
  whole (x ∷ xs) e = none_outside (class x) _ (length xs) _ (prefix_len-le-length class xs) (omega arith) (whole xs)

  split : (d : List ℕ) (i n : ℕ) → prefix_len class (drop i d)
      ≡ cond (eqb (prefix_len class (chunk i n d)) (length (chunk i n d)))
      (length (chunk i n d) + prefix_len class (drop (i + n) d)) (prefix_len class (chunk i n d))
  split d i n = ap (prefix_len class) (chunk-drop i n d) ∙ prefix_len-append class (chunk i n d) (drop (i + n) d)

  -- no byte of the chunk is outside
  pub run_through : (d : List ℕ) (i n : ℕ) → i + n ≤ length d → outside_mask class (chunk i n d) ≡ 0
      → prefix_len class (drop i d) ≡ n + prefix_len class (drop (i + n) d)
  run_through d i n room none =
      let c = chunk i n d in
      split d i n ∙ ap (λ b. cond b (length c + prefix_len class (drop (i + n) d)) (prefix_len class c))
      (eq-eqb _ _ (same_run c ∙ leading_from_mask_l other c none))
      ∙ ap (λ k. k + prefix_len class (drop (i + n) d)) (length-chunk i n d room)

  -- the lowest bit is the end
  pub run_stops : (d : List ℕ) (i n : ℕ) → i + n ≤ length d → n ≤ 64 → 0 < outside_mask class (chunk i n d)
      → prefix_len class (drop i d) ≡ count_trailing_zeros 64 (outside_mask class (chunk i n d))
  run_stops d i n room short some =
      let c = chunk i n d in
      split d i n ∙ ap (λ b. cond b (length c + prefix_len class (drop (i + n) d)) (prefix_len class c))
      (ne_eqb _ _ (λ (e : prefix_len class c ≡ length c). omega (arith, whole c e)))
      ∙ same_run c ∙ sym (trailing_mask_l other 64 c (omega (arith, length-chunk i n d room)) some)

  -- ---- one block of n bytes, of which those before let the run go on

  module _ (n : ℕ) (short : n ≤ 64) (xs : List ℕ) (blocks : List (List ℕ)) (i end mask : ℕ)
      (front : blocks ≡ first_chunks n (length xs / n) xs) (count : length blocks
      ≡ length xs / n) (lt : i < length blocks)
      (so_far : prefix_len class xs ≡ end + prefix_len class (drop end xs)) (place : end ≡ n * i)
      (room : end + n ≤ length xs)
      (masked : mask ≡ outside_mask class (get_or blocks i [])) where
    mask_is : mask ≡ outside_mask class (chunk end n xs)
    mask_is = masked ∙ ap (outside_mask class) (ap (λ l. get_or l i []) front ∙ chunk_at n
        (length xs / n) xs i (omega (arith, count, lt))) ∙ ap (λ k. outside_mask class (chunk k n xs)) (sym place)

    pub block_passed : mask ≡ 0 → prefix_len class xs ≡ end + n + prefix_len class (drop (end + n) xs)
    block_passed none = omega (arith, so_far, run_through xs end n room (sym mask_is ∙ none))

    pub block_ends : (mask ≡ 0 → ⊥) → prefix_len class xs ≡ end + count_trailing_zeros 64 mask
    block_ends some = so_far ∙ ap (λ k. end + k)
        (run_stops xs end n room short (omega (arith, some, mask_is)) ∙ ap (count_trailing_zeros 64) (sym mask_is))

  -- ---- the last n bytes, of which those before let the run go on

  -- a run that reaches an index goes on from each index before
  pub run_from : (xs : List ℕ) (i : ℕ) → i ≤ prefix_len class xs
      → prefix_len class xs ≡ i + prefix_len class (drop i xs)
  run_from xs zero le = omega arith
  run_from [] (suc i) le = absurd (omega (arith, le))
  run_from (x ∷ xs) (suc i) le = go (class x) (prefix_len class xs) le (run_from xs i)
    where
      go : (b : Bool) (l : ℕ) → suc i ≤ cond b (1 + l) 0 → (i ≤ l → l ≡ i + prefix_len class (drop i xs))
          → cond b (1 + l) 0 ≡ suc i + prefix_len class (drop i xs)
      go true l le rest = omega (arith, rest (omega (arith, le)))
      go false l le rest = absurd (omega (arith, le))

  module _ (n : ℕ) (short : n ≤ 64) (xs : List ℕ) (start end mask : ℕ) (room : start + n ≡ length xs)
      (so_far : prefix_len class xs ≡ end + prefix_len class (drop end xs)) (near : start ≤ end)
      (masked : mask ≡ outside_mask class (chunk start n xs)) where
    pub last_passed : mask ≡ 0 → prefix_len class xs ≡ length xs
    last_passed none =
        omega (
          arith,
          run_from xs start (omega (arith, so_far, near)),
          run_through xs start n (omega (arith, room)) (sym masked ∙ none),
          room,
          prefix_len-le-length class xs,
        )

    pub last_ends : (mask ≡ 0 → ⊥) → prefix_len class xs ≡ start + count_trailing_zeros 64 mask
    last_ends some = run_from xs start (omega (arith, so_far, near)) ∙ ap (λ k. start + k) (run_stops xs start n
        (omega (arith, room)) short (omega (arith, some, masked)) ∙ ap (count_trailing_zeros 64) (sym masked))

  -- the mask of a last chunk
  pub last_mask : (n : ℕ) (xs last : List ℕ) (start mask : ℕ) → mask ≡ outside_mask class last
      → IsWholeChunk (drop start xs) last n → mask ≡ outside_mask class (chunk start n xs)
  last_mask n xs last start mask e whole =
      e ∙ ap (outside_mask class) (whole.same ∙ sym (take_all n (drop start xs) (omega (arith, whole.long))))

  -- ---- what the mask of a whole vector tells

  -- no byte is outside
  pub mask_none : (xs : List ℕ) (mask n : ℕ) → mask ≡ outside_mask class xs → mask ≡ 0 → length xs ≡ n
      → prefix_len class xs ≡ n
  mask_none xs mask n e none long = same_run xs ∙ leading_from_mask_l other xs (sym e ∙ none) ∙ long

  -- the lowest bit is the end
  pub mask_first : (xs : List ℕ) (mask : ℕ) → mask ≡ outside_mask class xs → (mask ≡ 0 → ⊥) → length xs ≤ 64
      → prefix_len class xs ≡ count_trailing_zeros 64 mask
  mask_first xs mask e some long =
      same_run xs ∙ sym (trailing_mask_l other 64 xs long (omega (arith, e, some))) ∙ ap (count_trailing_zeros 64) (sym e)

  -- ---- the first k bytes and the last k, tested together

  module _ (k : ℕ) (xs both : List ℕ) (near : k ≤ length xs) (far : length xs ≤ k + k)
      (joined : both ≡ take k xs ++ drop (length xs - k) xs) where
    abbrev first : List ℕ
    first = take k xs

    abbrev last : List ℕ
    last = drop (length xs - k) xs

    first_long : length first ≡ k
    first_long = length-take-le k xs near

    pub both_long : length both ≡ k + k
    both_long =
        omega (
          arith,
          ap (length {A = ℕ}) joined,
          length-append first last,
          first_long,
          length-drop (length xs - k) xs,
          near,
        )

    ends_first : prefix_len class first < k
        → (prefix_len class both ≡ prefix_len class first) × (prefix_len class xs ≡ prefix_len class first)
    ends_first lt =
        let no = ne_eqb (prefix_len class first) (length first) (λ e. omega (arith, e, lt, first_long)) in (
          ap (prefix_len class) joined ∙ prefix_len-append class first last ∙ rw no refl,
          ap (prefix_len class) (sym (take-append-drop k xs)) ∙ prefix_len-append class first (drop k xs) ∙ rw no refl,
        )

    ends_last : k ≤ prefix_len class first
        → (prefix_len class both ≡ k + prefix_len class last)
        × (prefix_len class xs + k ≡ length xs + prefix_len class last)
    ends_last le =
        let whole : prefix_len class first ≡ length first =
        omega (arith, le, first_long, prefix_len-le-length class first) in
        let yes = eq-eqb (prefix_len class first) (length first) whole in
        let on : prefix_len class xs ≡ length first + prefix_len class (drop k xs) =
        ap (prefix_len class) (sym (take-append-drop k xs)) ∙ prefix_len-append class first (drop k xs) ∙ rw yes refl in
        let joined_on : prefix_len class both ≡ length first + prefix_len class last =
        ap (prefix_len class) joined ∙ prefix_len-append class first last ∙ rw yes refl in (
          omega (arith, joined_on, first_long),
          omega (arith, run_from xs (length xs - k) (omega (arith, on, first_long, near, far)), near),
        )

    pub pair_whole : prefix_len class both ≡ k + k → prefix_len class xs ≡ length xs
    pair_whole e = elim (cases_lt (prefix_len class first) k) [
      | inl below ↦ absurd (omega (arith, e, below, (ends_first below).0))
      | inr above ↦ omega (arith, e, (ends_last above).0, (ends_last above).1)
    ]

    pub pair_before : prefix_len class both < k → prefix_len class xs ≡ prefix_len class both
    pair_before lt = elim (cases_lt (prefix_len class first) k) [
      | inl below ↦ omega (arith, (ends_first below).0, (ends_first below).1)
      | inr above ↦ absurd (omega (arith, lt, (ends_last above).0))
    ]

    pub pair_after : k ≤ prefix_len class both → prefix_len class xs + k + k ≡ prefix_len class both + length xs
    pair_after le = elim (cases_lt (prefix_len class first) k) [
      | inl below ↦ absurd (omega (arith, le, below, (ends_first below).0))
      | inr above ↦ omega (arith, (ends_last above).0, (ends_last above).1)
    ]

  -- ---- what the end tells

  pub each_of : (xs : List ℕ) → list_all class (take (prefix_len class xs) xs) ≡ true
  each_of [] = refl
  each_of (x ∷ xs) = go (class x) refl (each_of xs)
    where
      go : (b : Bool) → class x ≡ b → list_all class (take (prefix_len class xs) xs) ≡ true
          → list_all class (take (cond b (1 + prefix_len class xs) 0) (x ∷ xs)) ≡ true
      go true e rest = let s : 1 + prefix_len class xs ≡ suc (prefix_len class xs) = omega arith in
          rw s (and_from _ _ e rest)
      go false e rest = refl

  pub end_within : (xs : List ℕ) (r : ℕ) → r ≡ prefix_len class xs → r ≤ length xs
  end_within xs r e = omega (arith, prefix_len-le-length class xs)

  pub end_each : (xs : List ℕ) (r : ℕ) → r ≡ prefix_len class xs → list_all class (take r xs) ≡ true
  end_each xs r e = rw e (each_of xs)

  pub end_stops : (xs : List ℕ) (r : ℕ) → r ≡ prefix_len class xs → r < length xs → class (get_or xs r 0) ≡ false
  end_stops xs r e lt = ap (λ n. class (get_or xs n 0)) e ∙ prefix_len_stops class xs 0 (omega arith)
