-- Loops over bytes of a class, and over digits.
use Rattle.std.proofs.Common.{◌≡◌, ℕ, zero, suc, ◌+◌, ◌-◌, ◌*◌, ◌^◌, ◌<◌, ◌≤◌, Bool, true, false, List, [], ◌∷◌, ◌++◌}
use Rattle.std.proofs.Common.{length, get_or, take, drop, Ok, refl, sym, ap, subst, ◌∙◌, arith, append_assoc, zero-add}
use Rattle.std.proofs.Common.{add-one, inl, inr, length-append, pow-suc, take-append-drop, length-take, length-take-le}
use Rattle.std.proofs.{Common.leb-true, lemmas.Bool.{cases_lt, and_parts, and_from, or_from, or_left, or_right}}
use Rattle.std.proofs.lemmas.List.{take_more, drop_more, drop_all, Folds.list_all-append}
use Rattle.sfv_spec.{specs.Numbers.place_value, specs.Texts.RunOf, proofs.Marks.{is_digit, is_space_or_tab, space, tab}}
use Rattle.sfv_model.specs.Reader.{Apart, byte, up_to, span}
use Rattle.sfv_model.proofs.complete.Combinators.{Apart-nil, Apart-cons, up_to_taken, span_complete}
use Rattle.sfv.specs.{declared.parser.digits.Digits.Digits, parser.Cursor.TakesIf, parser.Values.Spells}

pub stops_at : (class : ℕ → Bool) (xs : List ℕ) (i : ℕ) → (i < length xs → class (get_or xs i 0) ≡ false)
    → Apart class (drop i xs)
stops_at class xs i h = elim (cases_lt i (length xs)) [
  | inl lt ↦ rw (drop_more xs i 0 lt) (Apart-cons class (get_or xs i 0) (drop (i + 1) xs) (h lt))
  | inr le ↦ rw (drop_all i xs le) (Apart-nil class)
]

-- how far a loop went
pub up_to_run : (class : ℕ → Bool) (most k : ℕ) (bytes : List ℕ) → k ≤ most → k ≤ length bytes
    → RunOf class (take k bytes) → (k < most → k < length bytes → class (get_or bytes k 0) ≡ false)
    → up_to class most bytes ≡ Ok (take k bytes, drop k bytes)
up_to_run class most k bytes le le' each h = ap (up_to class most) (sym (take-append-drop k bytes))
    ∙ up_to_taken class most (take k bytes) (drop k bytes) each (omega (arith, length-take k bytes))
    (λ lt. stops_at class bytes k (h (omega (arith, length-take k bytes))))

-- what a loop has skipped of t
abbrev pub Skipped : (ℕ → Bool) → List ℕ → List ℕ → Type 0
Skipped class t r = (s : List ℕ) × (t ≡ s ++ r) × RunOf class s

pub skipped_none : (class : ℕ → Bool) (t : List ℕ) → Skipped class t t
skipped_none class t = ([], refl, refl)

pub skipped_more : (class : ℕ → Bool) (t r q : List ℕ) (b : ℕ) → Skipped class t r → r ≡ b ∷ q → class b ≡ true
    → Skipped class t q
skipped_more class t r q b h e is = (
  h.0 ++ b ∷ [],
  h.1 ∙ ap (λ (l : List ℕ). h.0 ++ l) e ∙ sym (append_assoc h.0 (b ∷ []) q),
  rw (list_all-append class h.0 (b ∷ [])) (and_from _ _ h.2 (and_from _ _ is refl)),
)

pub skipped_all : (class : ℕ → Bool) (t r : List ℕ) → Skipped class t r → Apart class r
    → (s : List ℕ) × (span class t ≡ Ok (s, r))
skipped_all class t r h apart = (h.0, ap (span class) h.1 ∙ span_complete class h.0 r h.2 apart)

pub skipped_space : (t r q : List ℕ) → Skipped is_space_or_tab t r → TakesIf (byte space) true r q
    → Skipped is_space_or_tab t q
skipped_space t r q h a = skipped_more is_space_or_tab t r q a.0 h a.1 (or_left _ _ a.2)

pub skipped_tab : (t r q w : List ℕ) → Skipped is_space_or_tab t r → TakesIf (byte space) false r q
    → TakesIf (byte tab) true q w → Skipped is_space_or_tab t w
skipped_tab t r q w h a b = skipped_more is_space_or_tab t r w b.0 h (sym a.0 ∙ b.1) (or_right _ _ b.2)

pub neither_space_nor_tab : (t r q : List ℕ) → TakesIf (byte space) false t r → TakesIf (byte tab) false r q
    → Apart is_space_or_tab t
neither_space_nor_tab t r q a b = record { apart = λ c e. or_from _ _ (a.1.apart c e) (b.1.apart c (rw a.0 e)) }

-- ---- digits

value_push : (ds : List ℕ) (d : ℕ) → place_value (ds ++ d ∷ []) ≡ 10 * place_value ds + (d - 48)
value_push [] d = omega arith
value_push (x ∷ ds) d =
    let e : length (ds ++ d ∷ []) ≡ suc (length ds) = simp length-append (omega arith) in
    rw (e, pow-suc, value_push ds d) (omega arith)

pub pow_up : (i d : ℕ) → 10 ^ i ≤ 10 ^ (d + i)
pow_up i zero = rw zero-add (omega arith)
pow_up i (suc d) = let e : suc d + i ≡ suc (d + i) = omega arith in rw (e, pow-suc) (omega (arith, pow_up i d))

pub pow_within : (i n : ℕ) → i ≤ n → 10 ^ i ≤ 10 ^ n
pow_within i n le = let e : (n - i) + i ≡ n = omega arith in subst (λ n. 10 ^ i ≤ 10 ^ n) e (pow_up i (n - i))

pub digit_within : (d : ℕ) → is_digit d ≡ true → (48 ≤ d) × (d ≤ 57)
digit_within d e = let p = and_parts _ _ e in (leb-true 48 d p.0, leb-true d 57 p.1)

-- no digits yet
pub spells_none : (bytes : List ℕ) → Spells (take 0 bytes) (record { count = 0; value = 0 })
spells_none bytes = record { each = refl; count = refl; value = refl; below = omega arith }

-- and one more
pub spells_more : (bytes : List ℕ) (i n : ℕ) → i < length bytes → is_digit (get_or bytes i 0) ≡ true
    → Spells (take i bytes) (record { count = i; value = n })
    → Spells (take (i + 1) bytes) (record { count = i + 1; value = n * 10 + (get_or bytes i 0 - 48) })
spells_more bytes i n lt digit h =
    let d = digit_within (get_or bytes i 0) digit in
    let more : take (i + 1) bytes ≡ take i bytes ++ get_or bytes i 0 ∷ [] = take_more bytes i 0 lt in
    record {
      each = rw (more, list_all-append is_digit (take i bytes) (get_or bytes i 0 ∷ []))
          (and_from _ _ h.each (and_from _ _ digit refl));
      count = rw (length-take-le (i + 1) bytes (omega arith)) refl;
      value = rw (more, value_push (take i bytes) (get_or bytes i 0), h.value) (omega arith);
      below = rw (add-one, pow-suc) (omega (arith, d, h.below));
    }

-- what they spell fits
pub spelt_below : (ds : List ℕ) (d : Digits) (most : ℕ) → Spells ds d → d.count ≤ most → d.value < 10 ^ most
spelt_below ds d most h le = omega (arith, h.below, pow_within d.count most le)
