-- The reader of fields and the grammar agree; where a fault is exact no field goes on.
use Rattle.std.proofs.Common.{◌≡◌, ℕ, ◌+◌, ◌<◌, true, false, List, [], ◌∷◌, ◌++◌, length, take, drop, Some, Ok, Err}
use Rattle.std.proofs.Common.{refl, sym, ap, ◌∙◌, append_assoc, arith, inl, inr, append-nil, length-append, take_at}
use Rattle.std.proofs.{Common.drop_at, lemmas.Bool.cases_Bool, lemmas.List.append_cancel_right}
use Rattle.sfv_spec.specs.{Events.TreeEvent, Reach.IsReach}
use Rattle.sfv_spec.proofs.{Reached.{reach_before, reach_end}, Valid.accepted_is_value_lem}
use Rattle.sfv_model.specs.{Claims.{ReadIsAccepted, FaultIsPlaced}, Fields.{ending, read_field}}
use Rattle.sfv_model.specs.{Judgements.{Reached, Lasts, Local}, Reader.{has_rule, first, Fault, Answer, Reader}}
use Rattle.sfv_model.proofs.Types.{FieldKind, Version, TrailingCharactersAfterParsedValue}
use Rattle.sfv_model.proofs.{complete.Fields.field_complete, local.Fields.Local-field}
use Rattle.sfv_model.proofs.sound.{Combinators.{Somewhere, Goes, Reads}, Fields.Sound-field}

-- a beginning of a text of the grammar
abbrev pub Starts : {A : Type 0} → (A → List ℕ → Type 0) → List ℕ → Type 0
Starts {A} P u = (more : List ℕ) × ((v : A) × P v (u ++ more))

module _ {A : Type 0} {f : Reader A} {P : A → List ℕ → Type 0} {parts : A → List TreeEvent}
    (s : Reads f P (Goes P parts)) (l : Local f) (again : (v : A) (t : List ℕ) → P v t → f t ≡ Ok (v, [])) where
  pub complete : (v : A) (t : List ℕ) → P v t → ending parts (f t) ≡ Ok v
  complete v t i = rw (again v t i) refl

  sound_on : (v : A) (t : List ℕ) (a : Answer A) → Reached P (Goes P parts) (Somewhere (Goes P parts)) t a
      → ending parts a ≡ Ok v → P v t
  sound_on v t (Ok (w, [])) h e = let same : w ≡ v = cc in
      rw (← same) (rw (h.1 ∙ append-nil h.0) h.2)
  sound_on v t (Ok (w, c ∷ r)) h e = absurd cc
  sound_on v t (Err x) h e = absurd cc

  pub sound : (v : A) (t : List ℕ) → ending parts (f t) ≡ Ok v → P v t
  sound v t e = sound_on v t (f t) (s.sound t) e

  -- the longest beginning that goes on ends where the rest begins
  pub record Reaches (t rest : List ℕ) : Type 0 where
    pub front : List ℕ
    pub parted : t ≡ front ++ rest
    pub begins : Starts P front
    pub no_further : (c : ℕ) (q : List ℕ) → rest ≡ c ∷ q → Starts P (front ++ c ∷ []) → ⊥

  none_so : (p : List ℕ) (c : ℕ) → ((d : List ℕ) (v : A) → f (p ++ c ∷ d) ≡ Ok (v, []) → ⊥) → Starts P (p ++ c ∷ []) → ⊥
  none_so p c never b = never b.0 b.1.0 (cc (append_assoc p (c ∷ []) b.0, again b.1.0 ((p ++ c ∷ []) ++ b.0) b.1.1))

  at_trailing : (t : List ℕ) (v : A) (c : ℕ) (q : List ℕ) → Reached P (Goes P parts)
      (Somewhere (Goes P parts)) t (Ok (v, c ∷ q)) → Lasts f t (Ok (v, c ∷ q)) → Reaches t (c ∷ q)
  at_trailing t v c q h m = record {
    front = m.0;
    parted = m.1;
    begins = let same : h.0 ≡ m.0 = append_cancel_right h.0 m.0 (c ∷ q) (sym h.1 ∙ m.1) in
        ([], (v, rw (append-nil m.0) (rw (← same) h.2)));
    no_further = λ b o e. let same : c ≡ b = cc in none_so m.0 b (λ d w i.
        let g : f (m.0 ++ b ∷ d) ≡ Ok (v, b ∷ d) = m.2 (b ∷ d) (ap (λ (n : ℕ). Some n) (sym same)) in
        let pairs : (w, []) ≡ (v, b ∷ d) = cc in
        let ends : [] ≡ b ∷ d = ap (λ (p : A × List ℕ). p.1) pairs in absurd cc);
  }

  at_fault : (t : List ℕ) (x : Fault) → x.exact ≡ true → Reached P (Goes P parts) (Somewhere (Goes P parts)) t (Err x)
      → Lasts f t (Err x) → Reaches t x.rest
  at_fault t x exact h m =
      let w = m exact in
      let g = h.0 exact in
      record {
        front = w.0;
        parted = w.1;
        begins = let same : g.front ≡ w.0 = append_cancel_right g.front w.0 x.rest (sym g.parts ∙ w.1) in
            rw (← same) (g.more, (g.holds.0, g.holds.1));
        no_further = λ b o e. none_so w.0 b (λ d v i. let k = w.2 (b ∷ d) (sym (ap first e)) in let fault = k.1 in
            absurd cc);
      }

  reaches_on : (t : List ℕ) (e : Fault) (a : Answer A) → Reached P (Goes P parts) (Somewhere (Goes P parts)) t a
      → Lasts f t a → ending parts a ≡ Err e → e.exact ≡ true → Reaches t e.rest
  reaches_on t e (Ok (v, [])) h m i exact = absurd cc
  reaches_on t e (Ok (v, c ∷ q)) h m i exact =
      let same : record { kind = TrailingCharactersAfterParsedValue; exact = true; rest = c ∷ q; events = parts v }
      ≡ e = cc in
      rw (← ap (λ (e : Fault). e.rest) same) (at_trailing t v c q h m)
  reaches_on t e (Err x) h m i exact =
      let same : x ≡ e = cc in
      rw (← ap (λ (e : Fault). e.rest) same) (at_fault t x (ap (λ (e : Fault). e.exact) same ∙ exact) h m)

  pub reaches : (t : List ℕ) (e : Fault) → ending parts (f t) ≡ Err e → e.exact ≡ true → Reaches t e.rest
  reaches t e i exact = reaches_on t e (f t) (s.sound t) (l.lasts t) i exact

  emitted_at : (t : List ℕ) (x : Fault) → Reached P (Goes P parts) (Somewhere (Goes P parts)) t (Err x)
      → Somewhere (Goes P parts) x.events
  emitted_at t x h = elim (cases_Bool x.exact) [
    | inl e ↦ let g = h.0 e in (g.front ++ g.more, g.holds)
    | inr e ↦ (h.1 e).0
  ]

  emitted_on : (t : List ℕ) (e : Fault) (a : Answer A) → Reached P (Goes P parts) (Somewhere (Goes P parts)) t a
      → ending parts a ≡ Err e → Somewhere (Goes P parts) e.events × (e.exact ≡ false → has_rule e.kind ≡ true)
  emitted_on t e (Ok (v, [])) h i = absurd cc
  emitted_on t e (Ok (v, c ∷ q)) h i =
      let same : record { kind = TrailingCharactersAfterParsedValue; exact = true; rest = c ∷ q; events = parts v }
      ≡ e = cc in (
        rw (← ap (λ (e : Fault). e.events) same) (h.0, (v, h.2, ([], sym (append-nil (parts v))))),
        λ x. let y : true ≡ false = cc in absurd cc,
      )
  emitted_on t e (Err x) h i =
      let same : x ≡ e = cc in (
        rw (← ap (λ (e : Fault). e.events) same) (emitted_at t x h),
        λ y. ap has_rule (ap (λ (e : Fault). e.kind) (sym same)) ∙ (h.1 (ap (λ (e : Fault). e.exact) same ∙ y)).1,
      )

  pub emitted : (t : List ℕ) (e : Fault) → ending parts (f t) ≡ Err e
      → Somewhere (Goes P parts) e.events × (e.exact ≡ false → has_rule e.kind ≡ true)
  emitted t e i = emitted_on t e (f t) (s.sound t) i

-- ---- fields

abbrev FieldReaches : Version → FieldKind → List ℕ → List ℕ → Type 0
FieldReaches version kind t rest =
    Reaches (Sound-field version kind) (Local-field version kind) (field_complete version kind) t rest

-- as an index
reach_of : (version : Version) (kind : FieldKind) (t rest : List ℕ) → FieldReaches version kind t rest
    → (n : ℕ) × (drop n t ≡ rest) × IsReach version kind t n
reach_of version kind t [] r = (
  length t,
  ap (drop (length t)) (sym (append-nil t)) ∙ drop_at t [] _ refl,
  reach_end version kind t (rw (r.parted ∙ append-nil r.front) r.begins),
)
reach_of version kind t (c ∷ q) r =
    let n : ℕ = length r.front in
    let lt : n < length t = omega (arith, ap length r.parted, length-append r.front (c ∷ q)) in
    let begun : take n t ≡ r.front = ap (take n) r.parted ∙ take_at r.front (c ∷ q) _ refl in
    let more : t ≡ (r.front ++ c ∷ []) ++ q = r.parted ∙ sym (append_assoc r.front (c ∷ []) q) in
    let longer = ap (take (n + 1)) more ∙ take_at (r.front ++ c ∷ []) q (n + 1) (length-append r.front (c ∷ [])) in (
      n,
      ap (drop n) r.parted ∙ drop_at r.front (c ∷ q) _ refl,
      reach_before version kind t n lt (rw begun r.begins) (λ b. r.no_further c q refl (rw (← longer) b)),
    )

pub read_is_accepted : ReadIsAccepted
unfolding read_field
read_is_accepted version kind t raw = (
  sound (Sound-field version kind) (Local-field version kind) (field_complete version kind) raw t,
  complete (Sound-field version kind) (Local-field version kind) (field_complete version kind) raw t,
)

pub fault_is_placed : FaultIsPlaced
unfolding read_field
fault_is_placed version kind t e i =
    let w = emitted (Sound-field _ _) (Local-field _ _) (field_complete _ _) t e i in
    let g = w.0.1 in
    record {
      emitted = record {
        raw = g.0;
        is_value = (accepted_is_value_lem version kind w.0.0 g.0 g.1).0;
        more = g.2.0;
        all = g.2.1;
      };
      exact = λ x. reach_of _ _ _ _ (reaches _ _ _ _ _ i x);
      ruled = w.1;
    }
