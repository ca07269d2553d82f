-- What the runs of symbols and of padding show of a content.
use Rattle.std.proofs.Common.{◌≡◌, ℕ, zero, suc, ◌<◌, ◌≤◌, ◌+◌, ◌-◌, ◌%◌, List, [], ◌∷◌, ◌++◌, length, take, drop}
use Rattle.std.proofs.Common.{replicate, get_or, Ok, Err, refl, sym, ◌∙◌, ap, subst, Bool, true, false, arith, ◌⊎◌, inl}
use Rattle.std.proofs.Common.{inr, ◌==◌, eqb-true, true≢false, append-nil, length-take-le, length-drop}
use Rattle.std.{proofs.Common.{take-append-drop, drop-drop, get_or-drop, take-add}, specs.List.list_any}
use Rattle.std.proofs.lemmas.{Bool.cases_Bool, List.{drop_more, drop_all, take_rest}}
use Rattle.sfv_spec.specs.declared.error_kind.ErrorKind.TheVariants.{InvalidByteSequence, UnterminatedByteSequence}
use Rattle.sfv_spec.proofs.{Marks.{colon, equals_sign, is_symbol}, Settled.NotBegun}
use Rattle.sfv_model.specs.Content.{most_padding, valid_from, fault_place, HasNoColon, bytes_at, IsContentAt, IsBytesAt}
use Rattle.sfv_model.specs.{Content.IsInvalidAt, Reader.Apart}
use Rattle.sfv_model.proofs.base64.Contents.{well_formed, gives_the_bytes, rejected_at, lone_symbol}
use Rattle.sfv_model.proofs.base64.Shape.{Shape, is_equals, shape_valid, valid_local}
use Rattle.sfv_model.proofs.faults.ByteSequences.{gives_value, gives_fault, gives_unclosed}
use Rattle.sfv_model.proofs.sound.ByteSequences.{symbols_apart, padding_apart, both_apart, no_colon}
use Rattle.sfv.specs.parser.{Base64.{IsSymbolRun, IsPaddingRun, decoded_symbols}, Cursor.located}

-- the first colon
first_colon : (u : List ℕ) → list_any (λ c. c == colon) u ≡ true
    → (k : ℕ) × (k < length u) × (get_or u k 0 ≡ colon) × HasNoColon (take k u)
first_colon [] h = absurd (true≢false (sym h))
first_colon (c ∷ u) h = elim (cases_Bool (c == colon)) [
  | inl p ↦ (0, omega arith, eqb-true c colon p, refl)
  | inr p ↦
      let r = first_colon u (rw p at h) in
      (suc r.0, omega (arith, r.1), r.2, rw p r.3)
]

begun : (class : ℕ → Bool) (u : List ℕ) → Apart class u → NotBegun class u
begun class [] h = refl
begun class (c ∷ u) h = h.apart c refl

-- the runs in front of t
pub record Runs (t : List ℕ) (n p : ℕ) : Type 0 where
  pub symbols : IsSymbolRun t n
  pub padding : IsPaddingRun (drop n t) (most_padding n) p

front : (t : List ℕ) (n p : ℕ) → Runs t n p → take (n + p) t ≡ take n t ++ replicate p equals_sign
front t n p r = take-add n p t ∙ ap (λ (u : List ℕ). take n t ++ u) r.padding.each

within : (t : List ℕ) (n p : ℕ) → Runs t n p → n + p ≤ length t
within t n p r = omega (arith, r.symbols.within, r.padding.within, length-drop n t)

front_apart : (t : List ℕ) (n p : ℕ) → Runs t n p → HasNoColon (take (n + p) t)
front_apart t n p r = rw (front t n p r) (both_apart (take n t) (replicate p equals_sign)
    (symbols_apart (take n t) r.symbols.each) (padding_apart p))

valid_runs : (t : List ℕ) (n p : ℕ) → Runs t n p → valid_from 0 t ≡ n + p
valid_runs t n p r =
    let size : length (take n t) ≡ n = length-take-le n t r.symbols.within in
    let z : 0 + length (take n t) ≡ n = omega (arith, size) in
    let after : drop n t ≡ replicate p equals_sign ++ drop (n + p) t = sym (take-append-drop p (drop n t))
    ∙ rw (r.padding.each, drop-drop p n t) refl in
    let s : Shape 0 t = record {
      run = take n t;
      padding = p;
      rest = drop (n + p) t;
      text = sym (take-append-drop n t) ∙ ap (λ (u : List ℕ). take n t ++ u) after;
      symbols = r.symbols.each;
      within = rw z r.padding.room;
      ends = rw z (elim r.padding.ends [
        | inl e ↦ inl e
        | inr a ↦ inr (subst (λ (u : List ℕ). NotBegun is_equals u) (drop-drop p n t) (begun _ _ a))
      ]);
      apart = subst (λ (u : List ℕ). NotBegun is_symbol u) after (begun _ _ r.symbols.ends);
    } in
    (shape_valid _ _ s).0 ∙ ap (λ k. k + p) size

-- a content from its place
closed_at : (input : List ℕ) (start m : ℕ) → m < length (drop start input) → get_or (drop start input) m 0 ≡ colon
    → HasNoColon (take m (drop start input)) → IsContentAt input start (start + m) (take m (drop start input))
closed_at input start m lt closes none =
    let t : List ℕ = drop start input in
    let sum : start + (m + 1) ≡ start + m + 1 = omega arith in
    record {
      text = sym (take-append-drop m t) ∙ ap (λ (u : List ℕ). take m t ++ u) (drop_more t m 0 lt
          ∙ rw (closes, drop-drop (m + 1) start input, sum) refl);
      no_colon = none;
      counted = ap (λ k. start + k) (sym (length-take-le m t (omega (arith, lt))));
    }

-- where a colon stands after the runs
bytes_closed : (input : List ℕ) (start n p : ℕ) → Runs (drop start input) n p → n + p < length (drop start input)
    → get_or (drop start input) (n + p) 0 ≡ colon
    → ¬ (n % 4 ≡ 1) → IsBytesAt input start (decoded_symbols (take n (drop start input))) (start + (n + p))
bytes_closed input start n p r lt closes lone =
    let t : List ℕ = drop start input in
    let size : length (take n t) ≡ n = length-take-le n t r.symbols.within in
    let w = well_formed (take n t) p r.symbols.each (rw size r.padding.room) (λ e. lone (omega (arith, size, e))) in
    record {
      content = take (n + p) t;
      closed = closed_at input start (n + p) lt closes (front_apart t n p r);
      value = rw (front t n p r) ((gives_the_bytes _ _).0 w);
    }

lone_closed : (input : List ℕ) (start n p : ℕ) → Runs (drop start input) n p → n + p < length (drop start input)
    → get_or (drop start input) (n + p) 0 ≡ colon → n % 4 ≡ 1 → IsInvalidAt input start (start + (n + p) - 1)
lone_closed input start n p r lt closes one =
    let t : List ℕ = drop start input in
    let size : length (take n t) ≡ n = length-take-le n t r.symbols.within in
    let none : p ≡ 0 = omega (arith, rw one at r.padding.room) in
    let z : n + p ≡ n = omega (arith, none) in
    let lone = lone_symbol (take n t) r.symbols.each (rw size one) in
    let place : fault_place (take (n + p) t) ≡ length (take n t) - 1 = ap (λ k. fault_place (take k t)) z ∙ lone.1 in
    record {
      content = take (n + p) t;
      end = start + (n + p);
      closed = closed_at input start (n + p) lt closes (front_apart t n p r);
      no_value = rw z lone.0;
      here = omega (arith, place, size, one, none);
    }

-- where another byte stands there, or the end
malformed_closed : (input : List ℕ) (start n p : ℕ) → Runs (drop start input) n p
    → (n + p ≡ length (drop start input)) ⊎ (get_or (drop start input) (n + p) 0 ≡ colon → ⊥)
    → list_any (λ c. c == colon) (drop (n + p) (drop start input)) ≡ true → IsInvalidAt input start (start + (n + p))
malformed_closed input start n p r other closes =
    let t : List ℕ = drop start input in
    let k = first_colon (drop (n + p) t) closes in
    let at : get_or t (n + p + k.0) 0 ≡ colon = sym (get_or-drop (n + p) t k.0 0) ∙ k.2 in
    let m : ℕ = n + p + k.0 in
    let fits : m < length t = omega (arith, k.1, length-drop (n + p) t) in
    let later : n + p < m = elim other [
      | inl e ↦ omega (arith, e, fits)
      | inr a ↦ elim k.0 as (λ j. get_or t (n + p + j) 0 ≡ colon → n + p < n + p + j) [
        | zero ↦ λ q. let z : n + p + 0 ≡ n + p = omega arith in absurd (a (rw z at q))
        | suc j ↦ λ q. omega arith
      ] at
    ] in
    let size : length (take m t) ≡ m = length-take-le m t (omega (arith, fits)) in
    let valid : valid_from 0 (take m t) ≡ n + p = ap (valid_from 0) (sym (append-nil (take m t)))
    ∙ valid_local 0 t m [] (rw (valid_runs t n p r) later) (omega (arith, fits)) ∙ valid_runs t n p r in
    let rejected = rejected_at (take m t) (n + p) valid (omega (arith, size, later)) in
    let apart : HasNoColon (take m t) = rw (take-add (n + p) k.0 t)
    (both_apart (take (n + p) t) (take k.0 (drop (n + p) t)) (front_apart t n p r) k.3) in
    record {
      content = take m t;
      end = start + m;
      closed = closed_at input start m fits at apart;
      no_value = rejected.0;
      here = ap (λ j. start + j) (sym rejected.1);
    }

-- ---- what the reader gives, and that its place is within the input

pub bytes_read : (input : List ℕ) (start n p : ℕ) → Runs (drop start input) n p → ¬ (n + p ≡ length (drop start input))
    → get_or (drop start input) (n + p) 0 ≡ colon → ¬ (n % 4 ≡ 1)
    → (bytes_at (drop start input) ≡ Ok (decoded_symbols (take n (drop start input)), drop (start + (n + p) + 1) input))
    × (start + (n + p) + 1 ≤ length input)
bytes_read input start n p r open_end closes lone =
    let l = within (drop start input) n p r in
    let lt : n + p < length (drop start input) = omega (arith, l, open_end) in (
      gives_value input _ start _ (bytes_closed input start n p r lt closes lone),
      omega (arith, lt, length-drop start input),
    )

pub lone_located : (input : List ℕ) (start n p : ℕ) → Runs (drop start input) n p
    → ¬ (n + p ≡ length (drop start input)) → get_or (drop start input) (n + p) 0 ≡ colon → n % 4 ≡ 1
    → (located (bytes_at (drop start input)) ≡ Err (InvalidByteSequence, drop (start + (n + p) - 1) input))
    × (start + (n + p) - 1 ≤ length input)
lone_located input start n p r open_end closes one =
    let l = within (drop start input) n p r in
    let lt : n + p < length (drop start input) = omega (arith, l, open_end) in (
      ap located (gives_fault input start _ (lone_closed input start n p r lt closes one)),
      omega (arith, lt, length-drop start input),
    )

pub malformed_located : (input : List ℕ) (start n p : ℕ) → Runs (drop start input) n p
    → (n + p ≡ length (drop start input)) ⊎ (get_or (drop start input) (n + p) 0 ≡ colon → ⊥)
    → list_any (λ c. c == colon) (drop (n + p) (drop start input)) ≡ true → start ≤ length input
    → (located (bytes_at (drop start input)) ≡ Err (InvalidByteSequence, drop (start + (n + p)) input))
    × (start + (n + p) ≤ length input)
malformed_located input start n p r other closes inside =
    let l = within (drop start input) n p r in (
      ap located (gives_fault input start _ (malformed_closed input start n p r other closes)),
      omega (arith, l, inside, length-drop start input),
    )

pub unterminated_located : (input : List ℕ) (start n p : ℕ) → Runs (drop start input) n p
    → list_any (λ c. c == colon) (drop (n + p) (drop start input)) ≡ false
    → (located (bytes_at (drop start input)) ≡ Err (UnterminatedByteSequence, drop (length input) input))
    × (length input ≤ length input)
unterminated_located input start n p r none =
    let t : List ℕ = drop start input in
    let apart : HasNoColon t = subst HasNoColon (take-append-drop (n + p) t)
    (both_apart (take (n + p) t) (drop (n + p) t) (front_apart t n p r) (no_colon (drop (n + p) t) none)) in
    (ap located (gives_unclosed input start apart) ∙ rw (drop_all (length input) input (omega arith)) refl, omega arith)

-- the runs in what stands from a place on, as the code cuts it out
abbrev pub cut : List ℕ → ℕ → List ℕ
cut t n = take (length t - n) (drop n t)

pub runs_of : (input : List ℕ) (start n most p : ℕ) → IsSymbolRun (cut input start) n → most ≡ most_padding n
    → IsPaddingRun (cut (cut input start) n) most p → Runs (drop start input) n p
runs_of input start n most p symbols e padding = record {
  symbols = simp take_rest at symbols;
  padding = simp (take_rest, e) at padding;
}
