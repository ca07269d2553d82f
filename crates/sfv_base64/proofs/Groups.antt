-- The decoder of `base64` on symbols and padding, group by group.
use Rattle.std.proofs.Common.{◌≡◌, ℕ, zero, suc, ◌≤◌, ◌+◌, ◌*◌, ◌/◌, ◌%◌, true, false, List, [], ◌∷◌, ◌++◌, length, map}
use Rattle.std.proofs.Common.{take, drop, replicate, get_or, refl, sym, ◌∙◌, ap, arith, slice_index, get_or-drop}
use Rattle.std.proofs.Common.{length-take-le, length-drop, take-add}
use Rattle.std.specs.{List.list_all, declared.option.Option.TheVariants.None}
use Rattle.std.proofs.lemmas.{Bool.and_parts, List.{length-map, map-append}, List.Folds.list_all-append}
use Rattle.base64.specs.Decode.{group_error, group_bytes, groups_error, groups_bytes, scan, scan_steps, scan_error}
use Rattle.base64.specs.{Decode.{scan_bytes, no_leftover}, declared.engine.DecodePaddingMode.TheVariants.Indifferent}
use Rattle.base64.proofs.Decoding.{scan-cons_ok}
use Rattle.sfv_spec.proofs.Marks.{is_symbol}
use Rattle.sfv_model.specs.Content.{symbol_value, bytes_from, most_padding}
use Rattle.sfv.proofs.reads.Coded.{bytes_from-append}
use Rattle.sfv_base64.proofs.Symbols.{IsTable, IsSymbol, symbol_of}

-- ---- one group of four

first_four : (xs : List ℕ) → 4 ≤ length xs
    → take 4 xs ≡ get_or xs 0 0 ∷ get_or xs 1 0 ∷ get_or xs 2 0 ∷ get_or xs 3 0 ∷ []
first_four [] four = absurd (omega arith)
first_four (a ∷ []) four = absurd (omega arith)
first_four (a ∷ b ∷ []) four = absurd (omega arith)
first_four (a ∷ b ∷ c ∷ []) four = absurd (omega arith)
first_four (a ∷ b ∷ c ∷ d ∷ xs) four = refl

pub four_at : (s : List ℕ) (at : ℕ) → at + 4 ≤ length s
    → take 4 (drop at s) ≡ slice_index s at ∷ slice_index s (at + 1) ∷ slice_index s (at + 2) ∷ slice_index s (at + 3) ∷ []
four_at s at fits =
    let here : at + 0 ≡ at = omega arith in
    first_four (drop at s) (omega (arith, length-drop at s, fits))
    ∙ rw (get_or-drop at s 0 0, get_or-drop at s 1 0, get_or-drop at s 2 0, get_or-drop at s 3 0, here) refl

pub each_of_four : (a b c d : ℕ) → list_all is_symbol (a ∷ b ∷ c ∷ d ∷ []) ≡ true
    → (is_symbol a ≡ true) × (is_symbol b ≡ true) × (is_symbol c ≡ true) × (is_symbol d ≡ true)
each_of_four a b c d h =
    let p = and_parts _ _ h in
    let q = and_parts _ _ p.1 in
    let r = and_parts _ _ q.1 in
    let s = and_parts _ _ r.1 in
    (p.0, q.0, r.0, s.0)

group_decoded : (dec s : List ℕ) (at : ℕ) → IsTable dec → at + 4 ≤ length s → list_all is_symbol (take 4 (drop at s)) ≡ true
    → (group_error dec s at ≡ None) × (group_bytes dec s at ≡ bytes_from (map symbol_value (take 4 (drop at s))))
unfolding bytes_from
group_decoded dec s at table fits h =
    let four = four_at s at fits in
    let each = each_of_four _ _ _ _ (ap (list_all is_symbol) (sym four) ∙ h) in
    let a = symbol_of dec (slice_index s at) table each.0 in
    let b = symbol_of dec (slice_index s (at + 1)) table each.1 in
    let c = symbol_of dec (slice_index s (at + 2)) table each.2 in
    let d = symbol_of dec (slice_index s (at + 3)) table each.3 in
    (rw (a.found, b.found, c.found, d.found) refl, rw (four, a.value, b.value, c.value, d.value) refl)

-- ---- the groups before the last

pub groups : (dec s : List ℕ) (q : ℕ) → IsTable dec → 4 * q ≤ length s → list_all is_symbol (take (4 * q) s) ≡ true
    → (groups_error dec s q ≡ None) × (groups_bytes dec s q ≡ bytes_from (map symbol_value (take (4 * q) s)))
unfolding groups_error groups_bytes bytes_from
groups dec s zero table fits h = (refl, refl)
groups dec s (suc q) table fits h =
    let w : ℕ = 4 * q in
    let next : 4 * suc q ≡ w + 4 = omega arith in
    let parts : take (4 * suc q) s ≡ take w s ++ take 4 (drop w s) = rw next (take-add w 4 s) in
    let both = and_parts _ _ (sym (list_all-append is_symbol (take w s) (take 4 (drop w s)))
    ∙ ap (list_all is_symbol) (sym parts) ∙ h) in
    let held = groups dec s q table (omega (arith, fits)) both.0 in
    let here = group_decoded dec s w table (omega (arith, fits)) both.1 in
    let size : length (map symbol_value (take w s)) ≡ w = length-map (take w s) symbol_value
    ∙ length-take-le w s (omega (arith, fits)) in
    let whole : length (map symbol_value (take w s)) % 4 ≡ 0 = omega (arith, size) in (
      rw (held.0) here.0,
      rw (held.1, here.1, parts, map-append symbol_value (take w s) (take 4 (drop w s)))
          (sym (bytes_from-append (map symbol_value (take w s)) (map symbol_value (take 4 (drop w s))) whole)),
    )

-- ---- the last group

-- the state after the first symbols

pub one_scanned : (dec : List ℕ) (a at : ℕ) (t : List ℕ) → IsSymbol dec a
    → scan dec 61 at no_leftover 0 (a ∷ t) ≡ scan dec 61 at (record no_leftover {
      morsels = symbol_value a ∷ 0 ∷ 0 ∷ 0 ∷ [];
      morsels_count = 1;
      last_symbol = a;
      last_symbol_value = symbol_value a;
    }) 1 t
one_scanned dec a at t x = scan-cons_ok dec 61 at no_leftover 0 a t _ (rw (x.other, x.found, x.value) refl)

pub two_scanned : (dec : List ℕ) (a b at : ℕ) (t : List ℕ) → IsSymbol dec a → IsSymbol dec b
    → scan dec 61 at no_leftover 0 (a ∷ b ∷ t) ≡ scan dec 61 at (record no_leftover {
      morsels = symbol_value a ∷ symbol_value b ∷ 0 ∷ 0 ∷ [];
      morsels_count = 2;
      last_symbol = b;
      last_symbol_value = symbol_value b;
    }) 2 t
two_scanned dec a b at t x y =
    one_scanned dec a at (b ∷ t) x ∙ scan-cons_ok dec 61 at _ 1 b t _ (rw (y.other, y.found, y.value) refl)

pub three_scanned : (dec : List ℕ) (a b c at : ℕ) (t : List ℕ) → IsSymbol dec a → IsSymbol dec b → IsSymbol dec c
    → scan dec 61 at no_leftover 0 (a ∷ b ∷ c ∷ t) ≡ scan dec 61 at (record no_leftover {
      morsels = symbol_value a ∷ symbol_value b ∷ symbol_value c ∷ 0 ∷ [];
      morsels_count = 3;
      last_symbol = c;
      last_symbol_value = symbol_value c;
    }) 3 t
three_scanned dec a b c at t x y z = two_scanned dec a b at (c ∷ t) x y
    ∙ scan-cons_ok dec 61 at _ 2 c t _ (rw (z.other, z.found, z.value) refl)

four_scanned : (dec : List ℕ) (a b c d at : ℕ) (t : List ℕ) → IsSymbol dec a → IsSymbol dec b → IsSymbol dec c → IsSymbol dec d
    → scan dec 61 at no_leftover 0 (a ∷ b ∷ c ∷ d ∷ t) ≡ scan dec 61 at (record no_leftover {
      morsels = symbol_value a ∷ symbol_value b ∷ symbol_value c ∷ symbol_value d ∷ [];
      morsels_count = 4;
      last_symbol = d;
      last_symbol_value = symbol_value d;
    }) 4 t
four_scanned dec a b c d at t x y z w = three_scanned dec a b c at (d ∷ t) x y z
    ∙ scan-cons_ok dec 61 at _ 3 d t _ (rw (w.other, w.found, w.value) refl)

-- what is left is accepted, and has these bytes
abbrev pub IsDecodedLast : List ℕ → ℕ → List ℕ → List ℕ → Type 0
IsDecodedLast dec at cs bytes =
    (scan_error false at true Indifferent (scan dec 61 at no_leftover 0 cs) ≡ None)
    × (scan_bytes (scan dec 61 at no_leftover 0 cs) ≡ bytes)

two_last : (dec : List ℕ) (a b padding at : ℕ) → IsSymbol dec a → IsSymbol dec b → padding ≤ 2
    → IsDecodedLast dec at (a ∷ b ∷ replicate padding 61) ((symbol_value a * 4 + symbol_value b / 16) ∷ [])
unfolding scan_steps
two_last dec a b zero at x y few = let e = two_scanned dec a b at [] x y in
    (ap (scan_error false at true Indifferent) e, ap scan_bytes e)
two_last dec a b (suc zero) at x y few = let e = two_scanned dec a b at (61 ∷ []) x y in
    (ap (scan_error false at true Indifferent) e, ap scan_bytes e)
two_last dec a b (suc (suc zero)) at x y few = let e = two_scanned dec a b at (61 ∷ 61 ∷ []) x y in
    (ap (scan_error false at true Indifferent) e, ap scan_bytes e)
two_last dec a b (suc (suc (suc n))) at x y few = absurd (omega arith)

three_last : (dec : List ℕ) (a b c padding at : ℕ) → IsSymbol dec a → IsSymbol dec b → IsSymbol dec c → padding ≤ 1
    → IsDecodedLast dec at (a ∷ b ∷ c ∷ replicate padding 61)
    ((symbol_value a * 4 + symbol_value b / 16) ∷ (symbol_value b % 16 * 16 + symbol_value c / 4) ∷ [])
unfolding scan_steps
three_last dec a b c zero at x y z few = let e = three_scanned dec a b c at [] x y z in
    (ap (scan_error false at true Indifferent) e, ap scan_bytes e)
three_last dec a b c (suc zero) at x y z few = let e = three_scanned dec a b c at (61 ∷ []) x y z in
    (ap (scan_error false at true Indifferent) e, ap scan_bytes e)
three_last dec a b c (suc (suc n)) at x y z few = absurd (omega arith)

four_last : (dec : List ℕ) (a b c d padding at : ℕ) → IsSymbol dec a → IsSymbol dec b → IsSymbol dec c → IsSymbol dec d
    → padding ≤ 0
    → IsDecodedLast dec at (a ∷ b ∷ c ∷ d ∷ replicate padding 61)
    ((symbol_value a * 4 + symbol_value b / 16) ∷ (symbol_value b % 16 * 16 + symbol_value c / 4)
    ∷ (symbol_value c % 4 * 64 + symbol_value d) ∷ [])
unfolding scan_steps
four_last dec a b c d zero at x y z w few = let e = four_scanned dec a b c d at [] x y z w in
    (ap (scan_error false at true Indifferent) e, ap scan_bytes e)
four_last dec a b c d (suc n) at x y z w few = absurd (omega arith)

pub last : (dec rest : List ℕ) (padding at : ℕ) → IsTable dec → list_all is_symbol rest ≡ true → 2 ≤ length rest
    → length rest ≤ 4 → padding ≤ most_padding (length rest)
    → IsDecodedLast dec at (rest ++ replicate padding 61) (bytes_from (map symbol_value rest))
unfolding bytes_from
last dec [] padding at table h two four few = absurd (omega arith)
last dec (a ∷ []) padding at table h two four few = absurd (omega arith)
last dec (a ∷ b ∷ []) padding at table h two four few =
    let p = and_parts _ _ h in
    let q = and_parts _ _ p.1 in
    let x = symbol_of dec a table p.0 in
    let y = symbol_of dec b table q.0 in
    two_last dec a b padding at x y few
last dec (a ∷ b ∷ c ∷ []) padding at table h two four few =
    let p = and_parts _ _ h in
    let q = and_parts _ _ p.1 in
    let r = and_parts _ _ q.1 in
    three_last dec a b c padding at (symbol_of dec a table p.0) (symbol_of dec b table q.0) (symbol_of dec c table r.0) few
last dec (a ∷ b ∷ c ∷ d ∷ []) padding at table h two four few =
    let each = each_of_four a b c d h in
    four_last dec a b c d padding at (symbol_of dec a table each.0) (symbol_of dec b table each.1)
    (symbol_of dec c table each.2) (symbol_of dec d table each.3) few
last dec (a ∷ b ∷ c ∷ d ∷ e ∷ rest) padding at table h two four few = absurd (omega arith)
