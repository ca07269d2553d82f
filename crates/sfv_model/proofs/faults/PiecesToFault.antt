-- Pieces are read up to a fault that a step meets.
use Rattle.std.proofs.Common.{◌≡◌, ℕ, List, [], ◌∷◌, ◌++◌, Option, Some, Ok, Err, refl, sym, ap, subst, ◌∙◌}
use Rattle.std.proofs.Common.{append_assoc, flat_map}
use Rattle.sfv_spec.{specs.Events.TreeEvent, specs.Texts.IsJoining, proofs.Settled.{joining-nil, joining-cons}}
use Rattle.sfv_model.specs.Reader.{Fault, Reader, after_events, and_then, give, ◌>>=◌, bind, led_answer, led, many}
use Rattle.sfv_model.proofs.sound.Many.{Consumes, many_is}

pub after_twice : (es fs : List TreeEvent) (e : Fault) → after_events es (after_events fs e) ≡ after_events (es ++ fs) e
after_twice es fs e = simp append_assoc

pub bind_met : {A B : Type 0} (f : Reader A) (g : A → Reader B) (t : List ℕ) (e : Fault) → f t ≡ Err e
    → (f >>= g) t ≡ Err e
unfolding bind
bind_met f g t e h = ap (λ a. and_then a g) h

pub led_met : {A : Type 0} (es : List TreeEvent) (f : Reader A) (t : List ℕ) (e : Fault) → f t ≡ Err e
    → led es f t ≡ Err (after_events es e)
unfolding led
led_met es f t e h = ap (led_answer es) h

module _ {A : Type 0} (parts : A → List TreeEvent) (step : Reader (Option A)) (c : Consumes step)
    (P : A → List ℕ → Type 0) (F : List ℕ → Type 0) (again : (v : A) (a q : List ℕ) → P v a → F q
    → (step (a ++ q) ≡ Ok (Some v, q)) × F (a ++ q))
    (q : List ℕ) (e : Fault) (fault : step q ≡ Err e) (f : F q) where
  pub many_met : (vs : List A) (s : List ℕ) → IsJoining P vs s
      → (many parts step (s ++ q) ≡ Err (after_events (flat_map parts vs) e)) × F (s ++ q)
  unfolding bind give led
  many_met [] s j =
      let n : s ++ q ≡ q = ap (λ (l : List ℕ). l ++ q) (joining-nil j) in
      (ap (many parts step) n ∙ many_is parts step c q ∙ rw fault refl, subst F (sym n) f)
  many_met (v ∷ vs) s j =
      let h = joining-cons j in
      let rest = many_met vs h.back h.second in
      let one = again v h.front (h.back ++ q) h.first rest.1 in
      let all : s ++ q ≡ h.front ++ (h.back ++ q) = ap (λ (l : List ℕ). l ++ q) h.text
      ∙ append_assoc h.front h.back q in (
        ap (many parts step) all ∙ many_is parts step c (h.front ++ (h.back ++ q))
            ∙ rw (one.0, rest.0) (ap (λ (x : Fault). Err x) (after_twice (parts v) (flat_map parts vs) e)),
        subst F (sym all) one.1,
      )
