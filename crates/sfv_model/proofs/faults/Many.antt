-- Where the faults of many steps stand.
use Rattle.std.proofs.Common.{◌≡◌, ℕ, zero, suc, ◌<◌, List, [], ◌∷◌, ◌++◌, length, Option, Some, None, Err, sym, ◌∙◌}
use Rattle.std.proofs.Common.{append_assoc, arith, inl, inr, flat_map}
use Rattle.sfv_spec.specs.{Events.TreeEvent, Texts.IsJoining}
use Rattle.sfv_model.specs.{Judgements.Sound, Reader.{Fault, Reader, after_events, give, ◌>>=◌, go_on, many}}
use Rattle.sfv_model.proofs.{faults.Combinators.{Rules, led_fault, bind_fault}, sound.Many.{Step, Consumes, many_is}}
use Rattle.sfv_model.proofs.texts.Joining.{joining_none, joining_push, events_push}

module _ {A : Type 0} (P : A → List ℕ → Type 0) (E : List ℕ → Type 0)
    (W : List ℕ → List TreeEvent → Type 0) (T : List TreeEvent → Type 0) (parts : A
    → List TreeEvent) (step : Reader (Option A)) (c : Consumes step) (sound : Sound step (Step P E) W T)
    (V : List ℕ → Fault → Type 0) (h : (s : List ℕ) (vs : List A) → IsJoining P vs s
    → Rules step (λ u e. V (s ++ u) (after_events (flat_map parts vs) e))) where
  moved : (s u r : List ℕ) (vs : List A) (v : A) (y : Fault)
      → V ((s ++ u) ++ r) (after_events (flat_map parts (vs ++ v ∷ [])) y)
      → V (s ++ (u ++ r)) (after_events (flat_map parts vs) (after_events (parts v) y))
  moved s u r vs v y g = rw (← append_assoc s u r, ← events_push parts vs v y.events) g

  within : (n : ℕ) (t : List ℕ) → length t < n → (s : List ℕ) (vs : List A) → IsJoining P vs s → (e : Fault)
      → many parts step t ≡ Err e → V (s ++ t) (after_events (flat_map parts vs) e)
  unfolding give
  within zero t lt s vs j e i = absurd (omega arith)
  within (suc n) t lt s vs j e i =
      elim (bind_fault step (go_on parts (many parts step)) t e (sym (many_is parts step c t) ∙ i)) [
        | inl k ↦ (h s vs j).rules t e k
        | inr (None, q, k, l) ↦ absurd cc
        | inr (Some v, q, k, l) ↦
            let less : length q < length t = c.consumes t q v k in
            let m = rw k at (sound.sound t) in
            let y = led_fault (parts v) (many parts step >>= λ vs. give (v ∷ vs)) q e l in
            elim (bind_fault (many parts step) (λ vs. give (v ∷ vs)) q y.0 y.1) [
              | inl z ↦ rw (m.1, ← y.2) (moved s m.0 q vs v y.0 (within n q (omega arith) (s ++ m.0) (vs ++ v ∷ [])
                  (joining_push P vs v s m.0 j m.2) y.0 z))
              | inr z ↦ absurd (let w = z.3 in cc)
            ]
      ]

  pub Rules-many : Rules (many parts step) V
  Rules-many = record { rules = λ t e i. within (suc (length t)) t (omega arith) [] [] (joining_none P) e i }
