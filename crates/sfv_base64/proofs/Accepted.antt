-- What `base64` accepts is symbols and padding.
use Rattle.std.proofs.Common.{◌≡◌, ℕ, zero, suc, ◌<◌, ◌≤◌, ◌+◌, ◌*◌, true, false, List, [], ◌∷◌, ◌++◌, length, take}
use Rattle.std.proofs.Common.{drop, replicate, refl, sym, ◌∙◌, ap, arith, slice_index, inl, inr, ◌⊎◌, ◌==◌, eqb-true}
use Rattle.std.{proofs.Common.take-add, specs.List.list_all, specs.declared.option.Option.Option}
use Rattle.std.specs.declared.{option.Option.TheVariants.{None, Some}, result.Result.TheVariants.Err}
use Rattle.std.proofs.lemmas.{Bool.cases_Bool, List.Folds.list_all-append}
use Rattle.base64.specs.Decode.{or_else, symbol_error, group_error, groups_error, scan, scan_steps, scan_error}
use Rattle.base64.specs.Decode.{no_leftover}
use Rattle.base64.specs.declared.decode.DecodeError.{DecodeError, TheVariants.InvalidByte}
use Rattle.base64.specs.declared.engine.DecodePaddingMode.TheVariants.{Indifferent}
use Rattle.base64.proofs.Decoding.{scan-cons_ok, scan-cons_err}
use Rattle.sfv_spec.proofs.Marks.{is_symbol}
use Rattle.sfv_model.specs.Content.{most_padding}
use Rattle.sfv_base64.proofs.Groups.{four_at, one_scanned, two_scanned, three_scanned}
use Rattle.sfv_base64.proofs.Symbols.{IsTable, IsSymbol, symbol_of, no_symbol}

-- ---- the groups before the last

pub or_else_none : (x y : Option DecodeError) → or_else x y ≡ None → (x ≡ None) × (y ≡ None)
or_else_none None y h = (refl, h)
or_else_none (Some e) y h = cc h

symbol_at : (dec s : List ℕ) (i : ℕ) → IsTable dec → slice_index s i < 256 → symbol_error dec s i ≡ None
    → is_symbol (slice_index s i) ≡ true
symbol_at dec s i table byte none = elim (cases_Bool (is_symbol (slice_index s i))) [
  | inl y ↦ y
  | inr n ↦ cc (rw (no_symbol dec (slice_index s i) table byte n) at none)
]

group_symbols : (dec s : List ℕ) (at : ℕ) → IsTable dec → ((i : ℕ) → slice_index s i < 256) → at + 4 ≤ length s
    → group_error dec s at ≡ None → list_all is_symbol (take 4 (drop at s)) ≡ true
group_symbols dec s at table bytes fits none =
    let p = or_else_none (symbol_error dec s at) _ none in
    let q = or_else_none (symbol_error dec s (at + 1)) _ p.1 in
    let r = or_else_none (symbol_error dec s (at + 2)) (symbol_error dec s (at + 3)) q.1 in
    rw (
      four_at s at fits,
      symbol_at dec s at table (bytes at) p.0,
      symbol_at dec s (at + 1) table (bytes (at + 1)) q.0,
      symbol_at dec s (at + 2) table (bytes (at + 2)) r.0,
      symbol_at dec s (at + 3) table (bytes (at + 3)) r.1,
    ) refl

pub groups_symbols : (dec s : List ℕ) (q : ℕ) → IsTable dec → ((i : ℕ) → slice_index s i < 256) → 4 * q ≤ length s
    → groups_error dec s q ≡ None → list_all is_symbol (take (4 * q) s) ≡ true
unfolding groups_error
groups_symbols dec s zero table bytes fits none = refl
groups_symbols dec s (suc q) table bytes fits none =
    let w : ℕ = 4 * q in
    let next : 4 * suc q ≡ w + 4 = omega arith in
    let parts : take (4 * suc q) s ≡ take w s ++ take 4 (drop w s) = rw next (take-add w 4 s) in
    let both = or_else_none (groups_error dec s q) (group_error dec s w) none in
    rw (
      parts,
      list_all-append is_symbol (take w s) (take 4 (drop w s)),
      groups_symbols dec s q table bytes (omega (arith, fits)) both.0,
      group_symbols dec s w table bytes (omega (arith, fits)) both.1,
    ) refl

-- ---- the last group

-- what `base64` accepts as a last group
abbrev pub IsAcceptedLast : List ℕ → ℕ → List ℕ → Type 0
IsAcceptedLast dec at cs = scan_error false at true Indifferent (scan dec 61 at no_leftover 0 cs) ≡ None

not_accepted : (dec : List ℕ) (at : ℕ) (cs : List ℕ) (e : DecodeError) → scan dec 61 at no_leftover 0 cs ≡ Err e
    → IsAcceptedLast dec at cs → ⊥
not_accepted dec at cs e is h = cc (sym (ap (scan_error false at true Indifferent) is) ∙ h)

pad_first : (dec : List ℕ) (at : ℕ) (t : List ℕ) → scan dec 61 at no_leftover 0 (61 ∷ t) ≡ Err (InvalidByte (at + 0) 61)
unfolding scan_steps
pad_first dec at t = refl

first_symbol : (dec : List ℕ) (a at : ℕ) (t : List ℕ) → IsTable dec → a < 256 → IsAcceptedLast dec at (a ∷ t)
    → is_symbol a ≡ true
first_symbol dec a at t table byte h = elim (cases_Bool (is_symbol a)) [
  | inl y ↦ y
  | inr n ↦
      let found = no_symbol dec a table byte n in
      elim (cases_Bool (a == 61)) [
        | inl p ↦
            let is : a ≡ 61 = eqb-true a 61 p in
            absurd (not_accepted dec at (61 ∷ t) (InvalidByte (at + 0) 61) (pad_first dec at t) (rw is at h))
        | inr p ↦
            absurd (not_accepted dec at (a ∷ t) (InvalidByte (at + 0) a)
            (scan-cons_err dec 61 at no_leftover 0 a t (InvalidByte (at + 0) a) (rw (p, found) refl)) h)
      ]
]

second_symbol : (dec : List ℕ) (a b at : ℕ) (t : List ℕ) → IsTable dec → IsSymbol dec a → b < 256
    → IsAcceptedLast dec at (a ∷ b ∷ t) → is_symbol b ≡ true
second_symbol dec a b at t table x byte h = elim (cases_Bool (is_symbol b)) [
  | inl y ↦ y
  | inr n ↦
      let found = no_symbol dec b table byte n in
      elim (cases_Bool (b == 61)) [
        | inl p ↦
            absurd (not_accepted dec at (a ∷ b ∷ t) (InvalidByte (at + 1) b)
            (one_scanned dec a at (b ∷ t) x
            ∙ scan-cons_err dec 61 at _ 1 b t (InvalidByte (at + 1) b) (rw p refl)) h)
        | inr p ↦
            absurd (not_accepted dec at (a ∷ b ∷ t) (InvalidByte (at + 1) b)
            (one_scanned dec a at (b ∷ t) x
            ∙ scan-cons_err dec 61 at _ 1 b t (InvalidByte (at + 1) b) (rw (p, found) refl)) h)
      ]
]

third : (dec : List ℕ) (a b c at : ℕ) (t : List ℕ) → IsTable dec → IsSymbol dec a → IsSymbol dec b → c < 256
    → IsAcceptedLast dec at (a ∷ b ∷ c ∷ t) → (c ≡ 61) ⊎ (is_symbol c ≡ true)
third dec a b c at t table x y byte h = elim (cases_Bool (is_symbol c)) [
  | inl is ↦ inr is
  | inr n ↦
      let found = no_symbol dec c table byte n in
      elim (cases_Bool (c == 61)) [
        | inl p ↦ inl (eqb-true c 61 p)
        | inr p ↦
            absurd (not_accepted dec at (a ∷ b ∷ c ∷ t) (InvalidByte (at + 2) c)
            (two_scanned dec a b at (c ∷ t) x y
            ∙ scan-cons_err dec 61 at _ 2 c t (InvalidByte (at + 2) c) (rw (p, found) refl)) h)
      ]
]

fourth : (dec : List ℕ) (a b c d at : ℕ) → IsTable dec → IsSymbol dec a → IsSymbol dec b → IsSymbol dec c → d < 256
    → IsAcceptedLast dec at (a ∷ b ∷ c ∷ d ∷ []) → (d ≡ 61) ⊎ (is_symbol d ≡ true)
fourth dec a b c d at table x y z byte h = elim (cases_Bool (is_symbol d)) [
  | inl is ↦ inr is
  | inr n ↦
      let found = no_symbol dec d table byte n in
      elim (cases_Bool (d == 61)) [
        | inl p ↦ inl (eqb-true d 61 p)
        | inr p ↦
            absurd (not_accepted dec at (a ∷ b ∷ c ∷ d ∷ []) (InvalidByte (at + 3) d)
            (three_scanned dec a b c at (d ∷ []) x y z
            ∙ scan-cons_err dec 61 at _ 3 d [] (InvalidByte (at + 3) d) (rw (p, found) refl)) h)
      ]
]

padded_again : (dec : List ℕ) (a b d at : ℕ) → IsSymbol dec a → IsSymbol dec b
    → IsAcceptedLast dec at (a ∷ b ∷ 61 ∷ d ∷ []) → d ≡ 61
padded_again dec a b d at x y h = elim (cases_Bool (d == 61)) [
  | inl p ↦ eqb-true d 61 p
  | inr p ↦
      absurd (not_accepted dec at (a ∷ b ∷ 61 ∷ d ∷ []) (InvalidByte (at + 2) 61)
      (two_scanned dec a b at (61 ∷ d ∷ []) x y ∙ scan-cons_ok dec 61 at _ 2 61 (d ∷ []) _ refl
      ∙ scan-cons_err dec 61 at _ 3 d [] (InvalidByte (at + 2) 61) (rw p refl)) h)
]

lone_first : (dec : List ℕ) (a at : ℕ) → IsSymbol dec a → IsAcceptedLast dec at (a ∷ []) → ⊥
unfolding scan_steps
lone_first dec a at x h = cc (sym (ap (scan_error false at true Indifferent) (one_scanned dec a at [] x)) ∙ h)

-- two to four symbols, and the padding that may follow them
pub record IsLast (cs : List ℕ) : Type 0 where
  pub rest : List ℕ
  pub padding : ℕ
  pub text : cs ≡ rest ++ replicate padding 61
  pub each : list_all is_symbol rest ≡ true
  pub two : 2 ≤ length rest
  pub four : length rest ≤ 4
  pub few : padding ≤ most_padding (length rest)

after_two : (dec : List ℕ) (a b : ℕ) (t : List ℕ) (at : ℕ) → IsTable dec → ((i : ℕ) → slice_index (a ∷ b ∷ t) i < 256)
    → length t ≤ 2 → is_symbol a ≡ true → is_symbol b ≡ true → IsSymbol dec a → IsSymbol dec b
    → IsAcceptedLast dec at (a ∷ b ∷ t) → IsLast (a ∷ b ∷ t)
after_two dec a b [] at table bytes short p q x y h = record {
  rest = a ∷ b ∷ [];
  padding = 0;
  text = refl;
  each = rw (p, q) refl;
  two = omega arith;
  four = omega arith;
  few = omega arith;
}
after_two dec a b (c ∷ []) at table bytes short p q x y h = elim (third dec a b c at [] table x y (bytes 2) h) [
  | inl is ↦ record {
    rest = a ∷ b ∷ [];
    padding = 1;
    text = rw is refl;
    each = rw (p, q) refl;
    two = omega arith;
    four = omega arith;
    few = omega arith;
  }
  | inr r ↦ record {
    rest = a ∷ b ∷ c ∷ [];
    padding = 0;
    text = refl;
    each = rw (p, q, r) refl;
    two = omega arith;
    four = omega arith;
    few = omega arith;
  }
]
after_two dec a b (c ∷ d ∷ []) at table bytes short p q x y h = elim (third dec a b c at (d ∷ []) table x y (bytes 2) h) [
  | inl is ↦
      let again : d ≡ 61 = padded_again dec a b d at x y (rw is at h) in
      record {
        rest = a ∷ b ∷ [];
        padding = 2;
        text = rw (is, again) refl;
        each = rw (p, q) refl;
        two = omega arith;
        four = omega arith;
        few = omega arith;
      }
  | inr r ↦
      let z = symbol_of dec c table r in
      elim (fourth dec a b c d at table x y z (bytes 3) h) [
        | inl is ↦ record {
          rest = a ∷ b ∷ c ∷ [];
          padding = 1;
          text = rw is refl;
          each = rw (p, q, r) refl;
          two = omega arith;
          four = omega arith;
          few = omega arith;
        }
        | inr s ↦ record {
          rest = a ∷ b ∷ c ∷ d ∷ [];
          padding = 0;
          text = refl;
          each = rw (p, q, r, s) refl;
          two = omega arith;
          four = omega arith;
          few = omega arith;
        }
      ]
]
after_two dec a b (c ∷ d ∷ e ∷ t) at table bytes short p q x y h = absurd (omega arith)

pub last_symbols : (dec cs : List ℕ) (at : ℕ) → IsTable dec → ((i : ℕ) → slice_index cs i < 256) → 0 < length cs
    → length cs ≤ 4 → IsAcceptedLast dec at cs → IsLast cs
last_symbols dec [] at table bytes some four h = absurd (omega arith)
last_symbols dec (a ∷ []) at table bytes some four h =
    absurd (lone_first dec a at (symbol_of dec a table (first_symbol dec a at [] table (bytes 0) h)) h)
last_symbols dec (a ∷ b ∷ t) at table bytes some four h =
    let p = first_symbol dec a at (b ∷ t) table (bytes 0) h in
    let x = symbol_of dec a table p in
    let q = second_symbol dec a b at t table x (bytes 1) h in
    let y = symbol_of dec b table q in
    after_two dec a b t at table bytes (omega (arith, four)) p q x y h
