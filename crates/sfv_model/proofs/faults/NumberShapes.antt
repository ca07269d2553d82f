-- What the reader of numbers gives, by the shape of the text: each text has one.
use Rattle.std.proofs.Common.{◌≡◌, ℕ, zero, suc, ◌≤◌, ◌⊎◌, Bool, true, false, not, ℤ, List, [], ◌∷◌, ◌++◌, ◌||◌, length}
use Rattle.std.proofs.Common.{Ok, Err, refl, sym, ap, ◌∙◌, append_assoc, arith, inl, inr, ◌==◌, eqb-true, true≢false}
use Rattle.std.proofs.Common.{le-ltb, lt-ltb}
use Rattle.std.proofs.lemmas.{Bool.{cases_Bool, cases_lt, or_from}, List.nil_from_length}
use Rattle.sfv_spec.specs.Numbers.{AreDigits, signed, place_value, IsIntegerText, IsDecimalText}
use Rattle.sfv_spec.specs.{Texts.{begins_with, RunOf}, Values.{BareValue, integer, decimal}}
use Rattle.sfv_spec.proofs.Marks.{minus_sign, dot, is_digit, minus_text}
use Rattle.sfv_model.specs.Bare.{long_at, decimal_at, fraction_at, point_at, whole_at, number_at}
use Rattle.sfv_model.specs.Reader.{Apart, Answer, Reader, byte, give, fail, ruled, ahead, back, at_start, at_reach}
use Rattle.sfv_model.specs.Reader.{by_rule, placed}
use Rattle.sfv_model.proofs.Types.{ExpectedDigit, TooManyDigits, TooManyDigitsBeforeDecimalPoint}
use Rattle.sfv_model.proofs.Types.{TooManyDigitsAfterDecimalPoint, TrailingDecimalPoint}
use Rattle.sfv_model.proofs.complete.Combinators.{Apart-nil, Apart-cons, branch_take, ahead_past, ahead_take}
use Rattle.sfv_model.proofs.complete.Combinators.{bind_complete, up_to_taken}
use Rattle.sfv_model.proofs.complete.Numbers.{goes_on, minus_apart, start_read, start_complete, some_eqb}
use Rattle.sfv_model.proofs.complete.Numbers.{integer_complete, decimal_complete}
use Rattle.sfv_model.proofs.sound.{Combinators.run_cons, Numbers.thousandths}

-- ---- the next byte

pub none_apart : (class : ℕ → Bool) (t : List ℕ) → begins_with class t ≡ false → Apart class t
none_apart class [] h = Apart-nil class
none_apart class (c ∷ t) h = Apart-cons class c t h

-- the next byte is of neither class
pub begins_neither : (p q : ℕ → Bool) (t : List ℕ) → begins_with p t ≡ false → begins_with q t ≡ false
    → begins_with (λ c. p c || q c) t ≡ false
begins_neither p q [] n m = refl
begins_neither p q (c ∷ t) n m = or_from (p c) (q c) n m

-- a byte of the class stands next
pub record Next (class : ℕ → Bool) (t : List ℕ) : Type 0 where
  pub c : ℕ
  pub rest : List ℕ
  pub text : t ≡ c ∷ rest
  pub is : class c ≡ true

pub next_of : (class : ℕ → Bool) (t : List ℕ) → begins_with class t ≡ true → Next class t
next_of class [] h = absurd (true≢false (sym h))
next_of class (c ∷ t) h = record { c = c; rest = t; text = refl; is = h }

pub ahead_next : {A : Type 0} (class : ℕ → Bool) (taken other : Reader A) (t : List ℕ) → begins_with class t ≡ true
    → ahead class taken other t ≡ taken t
ahead_next class taken other t h = let n = next_of class t h in
    ap (ahead class taken other) n.text ∙ ahead_take class taken other n.c n.rest n.is ∙ ap taken (sym n.text)

-- ---- at most n bytes of a class: no more of them follow, or one more than n

pub record Taken (class : ℕ → Bool) (n : ℕ) (t : List ℕ) : Type 0 where
  pub front : List ℕ
  pub rest : List ℕ
  pub text : t ≡ front ++ rest
  pub each : RunOf class front
  pub most : length front ≤ n
  pub ends : (begins_with class rest ≡ false) ⊎ ((begins_with class rest ≡ true) × (n ≤ length front))

-- none of them
none_taken : (class : ℕ → Bool) (n : ℕ) (t : List ℕ)
    → (begins_with class t ≡ false) ⊎ ((begins_with class t ≡ true) × (n ≤ 0)) → Taken class n t
none_taken class n t ends =
    record { front = []; rest = t; text = refl; each = refl; most = omega arith; ends = ends }

pub taken : (class : ℕ → Bool) (n : ℕ) (t : List ℕ) → Taken class n t
taken class zero t = none_taken class zero t (elim (cases_Bool (begins_with class t)) [
  | inl y ↦ inr (y, omega arith)
  | inr m ↦ inl m
])
taken class (suc n) [] = none_taken class (suc n) [] (inl refl)
taken class (suc n) (c ∷ t) = elim (cases_Bool (class c)) [
  | inl y ↦ let m = taken class n t in record {
    front = c ∷ m.front;
    rest = m.rest;
    text = ap (λ (l : List ℕ). c ∷ l) m.text;
    each = run_cons class c m.front y m.each;
    most = omega (arith, m.most);
    ends = elim m.ends [ inl none ↦ inl none | inr (more, l) ↦ inr (more, omega (arith, l)) ];
  }
  | inr none ↦ none_taken class (suc n) (c ∷ t) (inl none)
]

-- ---- the shapes of a text that is read as a number

pub data NumberShape (dated : Bool) (t : List ℕ) : Answer BareValue → Type 0 where
  no_digits : (negative : Bool) (q : List ℕ) → t ≡ minus_text negative ++ q → begins_with is_digit q ≡ false
      → (negative ≡ false → begins_with (byte minus_sign) q ≡ false)
      → NumberShape dated t (Err (at_reach ExpectedDigit q))
  sixteen_digits : (negative : Bool) (whole q : List ℕ) → t ≡ minus_text negative ++ (whole ++ q)
      → AreDigits 15 15 whole → begins_with is_digit q ≡ true → NumberShape dated t (Err (at_reach TooManyDigits q))
  point_too_late : (negative : Bool) (whole q : List ℕ) → t ≡ minus_text negative ++ (whole ++ q)
      → AreDigits 13 15 whole → begins_with (byte dot) q ≡ true
      → NumberShape dated t (Err (at_reach TooManyDigitsBeforeDecimalPoint q))
  no_fraction : (negative : Bool) (whole q : List ℕ) → t ≡ minus_text negative ++ (whole ++ dot ∷ q)
      → AreDigits 1 12 whole → begins_with is_digit q ≡ false
      → NumberShape dated t (Err (by_rule TrailingDecimalPoint (dot ∷ q)))
  long_fraction : (negative : Bool) (whole fraction q : List ℕ)
      → t ≡ minus_text negative ++ (whole ++ dot ∷ (fraction ++ q)) → AreDigits 1 12 whole → AreDigits 3 3 fraction
      → begins_with is_digit q ≡ true → NumberShape dated t (Err (placed (not dated) TooManyDigitsAfterDecimalPoint q))
  a_decimal : (z : ℤ) (number q : List ℕ) → IsDecimalText z number → t ≡ number ++ q → begins_with is_digit q ≡ false
      → NumberShape dated t (Ok (decimal z, q))
  an_integer : (z : ℤ) (number q : List ℕ) → IsIntegerText z number → t ≡ number ++ q → begins_with goes_on q ≡ false
      → NumberShape dated t (Ok (integer z, q))

-- ---- each is read so

digits_whole : (least : ℕ) (digits : List ℕ) → AreDigits (suc least) 15 digits → AreDigits 1 15 digits
digits_whole least digits h = (omega (arith, h.0), h.1, h.2)

long_read : (dated : Bool) (q : List ℕ) → long_at dated q ≡ Err (placed (not dated) TooManyDigitsAfterDecimalPoint q)
unfolding long_at fail ruled
long_read true q = refl
long_read false q = refl

-- up to the point
up_to_point : (dated negative : Bool) (whole q : List ℕ) → AreDigits 1 12 whole
    → number_at dated (minus_text negative ++ (whole ++ dot ∷ q))
    ≡ at_start TrailingDecimalPoint (dot ∷ q) (fraction_at dated negative whole q)
unfolding whole_at point_at back
up_to_point dated negative whole q counted =
    let point : Apart is_digit (dot ∷ q) = Apart-cons _ _ _ refl in
    start_complete _ _ _ _ (counted.0, omega (arith, counted.1), counted.2) point ∙ rw
    (some_eqb (length whole) counted.0) (ahead_past _ _ _ _ point ∙ ahead_take _ _ _ _ _ refl ∙ rw
    (le-ltb 12 (length whole) counted.1) (ap (at_start TrailingDecimalPoint (dot ∷ q)) (branch_take _ _ _ _ _ refl)))

pub shape_read : (dated : Bool) (t : List ℕ) (a : Answer BareValue) → NumberShape dated t a → number_at dated t ≡ a
unfolding whole_at fraction_at decimal_at fail give
shape_read dated t _ (no_digits negative q text h plain) = ap (number_at dated) text ∙ start_read dated negative [] q
    refl (omega arith) (λ _. none_apart is_digit q h) (λ e. none_apart (byte minus_sign) q (plain e))
shape_read dated t _ (sixteen_digits negative whole q text counted h) = ap (number_at dated) text ∙ start_read dated
    negative whole q counted.2 counted.1 (λ l. absurd (omega (arith, l, counted.0))) (λ _. minus_apart whole q
    (digits_whole 14 whole counted)) ∙ rw (some_eqb (length whole) (omega (arith, counted.0))) (ahead_next _ _ _ q h)
shape_read dated t _ (point_too_late negative whole q text counted h) =
    let n = next_of (byte dot) q h in
    let apart : begins_with is_digit q ≡ false = rw (n.text, eqb-true n.c dot n.is) refl in
    ap (number_at dated) text ∙ start_complete dated negative whole q (digits_whole 12 whole counted)
    (none_apart is_digit q apart) ∙ rw (some_eqb (length whole) (omega (arith, counted.0))) (ahead_past _ _ _ q
    (none_apart is_digit q apart) ∙ ahead_next _ _ _ q h ∙ rw (lt-ltb 12 (length whole) counted.0) refl)
shape_read dated t _ (no_fraction negative whole q text counted h) = ap (number_at dated) text ∙ up_to_point dated
    negative whole q counted ∙ ap (at_start TrailingDecimalPoint (dot ∷ q)) (bind_complete _ _ _ _ _ (up_to_taken
    is_digit 3 [] q refl (omega arith) (λ _. none_apart is_digit q h)))
shape_read dated t _ (long_fraction negative whole fraction q text counted three h) =
    let after : fraction_at dated negative whole (fraction ++ q)
    ≡ Err (placed (not dated) TooManyDigitsAfterDecimalPoint q) = bind_complete _ _ _ _ _
    (up_to_taken is_digit 3 fraction q three.2 three.1 (λ l. absurd (omega (arith, l, three.0))))
    ∙ rw (some_eqb (length fraction) (omega (arith, three.0))) (ahead_next _ _ _ q h ∙ long_read dated q) in
    ap (number_at dated) text ∙ up_to_point dated negative whole (fraction ++ q) counted
    ∙ ap (at_start TrailingDecimalPoint (dot ∷ (fraction ++ q))) after
shape_read dated t _ (a_decimal z number q means text h) = ap (number_at dated) text
    ∙ decimal_complete dated number q z means (none_apart is_digit q h)
shape_read dated t _ (an_integer z number q means text h) = ap (number_at dated) text
    ∙ integer_complete dated number q z means (none_apart goes_on q h)

-- where none is taken, none is next
none_next : (class : ℕ → Bool) (n : ℕ) (t : List ℕ) (f : Taken class n t) → begins_with class f.rest ≡ false
    → length f.front ≤ 0 → begins_with class t ≡ false
none_next class n t f h none =
    let nil : f.front ≡ [] = nil_from_length f.front (omega (arith, none)) in
    rw (f.text, nil) h

-- ---- each text has one

abbrev Shaped : Bool → List ℕ → Type 0
Shaped dated t = (a : Answer BareValue) × NumberShape dated t a

fraction_shape : (dated negative : Bool) (t whole q : List ℕ) → AreDigits 1 12 whole
    → t ≡ minus_text negative ++ (whole ++ dot ∷ q) → Taken is_digit 3 q → Shaped dated t
fraction_shape dated negative t whole q counted text f =
    let all : t ≡ minus_text negative ++ (whole ++ dot ∷ (f.front ++ f.rest)) =
    text ∙ ap (λ (l : List ℕ). minus_text negative ++ (whole ++ dot ∷ l)) f.text in
    elim f.ends as (λ x. Shaped dated t) [
      | inl n ↦ elim (cases_lt 0 (length f.front)) as (λ x. Shaped dated t) [
        | inl one ↦ (
          _,
          a_decimal (signed negative (thousandths whole f.front)) (minus_text negative ++ (whole ++ dot ∷ f.front))
              f.rest (record {
                negative = negative;
                whole = whole;
                fraction = f.front;
                counted = (counted, (one, f.most, f.each));
                text = simp append_assoc;
                value = refl;
              }) (all ∙ simp append_assoc) n,
        )
        | inr none ↦ (_, no_fraction negative whole q text counted (none_next is_digit 3 q f n none))
      ]
      | inr (y, g) ↦ (_, long_fraction negative whole f.front f.rest all counted (g, f.most, f.each) y)
    ]

whole_shape : (dated negative : Bool) (t u : List ℕ) → t ≡ minus_text negative ++ u
    → (negative ≡ false → begins_with (byte minus_sign) u ≡ false) → Taken is_digit 15 u → Shaped dated t
whole_shape dated negative t u start plain w =
    let text : t ≡ minus_text negative ++ (w.front ++ w.rest) =
    start ∙ ap (λ (l : List ℕ). minus_text negative ++ l) w.text in
    elim w.ends as (λ x. Shaped dated t) [
      | inl n ↦ elim (cases_lt 0 (length w.front)) as (λ x. Shaped dated t) [
        | inl one ↦ elim (cases_Bool (begins_with (byte dot) w.rest)) as (λ x. Shaped dated t) [
          | inl y ↦ elim (cases_lt 12 (length w.front)) as (λ x. Shaped dated t) [
            | inl l ↦ (_, point_too_late negative w.front w.rest text (l, w.most, w.each) y)
            | inr g ↦
                let p = next_of (byte dot) w.rest y in
                let point : w.rest ≡ dot ∷ p.rest = p.text ∙ ap (λ (c : ℕ). c ∷ p.rest) (eqb-true p.c dot p.is) in
                fraction_shape dated negative t w.front p.rest (one, g, w.each) (rw point at text)
                (taken is_digit 3 p.rest)
          ]
          | inr m ↦ (
            _,
            an_integer (signed negative (place_value w.front)) (minus_text negative ++ w.front) w.rest
                (record {
                  negative = negative;
                  digits = w.front;
                  counted = (one, w.most, w.each);
                  text = refl;
                  value = refl;
                }) (text ∙ sym (append_assoc (minus_text negative) w.front w.rest))
                (begins_neither is_digit (byte dot) w.rest n m),
          )
        ]
        | inr none ↦ (_, no_digits negative u start (none_next is_digit 15 u w n none) plain)
      ]
      | inr (y, g) ↦ (_, sixteen_digits negative w.front w.rest text (g, w.most, w.each) y)
    ]

pub number_shape : (dated : Bool) (t : List ℕ) → Shaped dated t
number_shape dated [] = whole_shape dated false [] [] refl (λ _. refl) (taken is_digit 15 [])
number_shape dated (c ∷ t) = elim (cases_Bool (c == minus_sign)) as (λ x. Shaped dated (c ∷ t)) [
  | inl y ↦ whole_shape dated true (c ∷ t) t (ap (λ (c : ℕ). c ∷ t) (eqb-true c minus_sign y))
      (λ e. absurd (true≢false e)) (taken is_digit 15 t)
  | inr n ↦ whole_shape dated false (c ∷ t) (c ∷ t) refl (λ _. n) (taken is_digit 15 (c ∷ t))
]
