-- Steps whose values are visited.
use Rattle.std.proofs.Common.{ℕ, List, [], ◌∷◌, ◌++◌, Option, Some, None, refl, sym, ap, subst, ◌∙◌, append_assoc}
use Rattle.std.proofs.Common.{flat_map, append-nil}
use Rattle.sfv_spec.specs.{Events.TreeEvent, Texts.IsJoining}
use Rattle.sfv_model.specs.Reader.{Reader, many}
use Rattle.sfv_model.proofs.sound.Combinators.{Sound-within, Begins, Goes, Reads, begins_after}
use Rattle.sfv_model.proofs.sound.Many.{Step, Sound-many}
use Rattle.sfv_model.proofs.texts.Joining.{joining_push, Joined, joined_split, events_push}

abbrev pub step_events : {A : Type 0} → (A → List TreeEvent) → Option A → List TreeEvent
step_events parts (Some v) = parts v
step_events parts None = []

abbrev pub StepGoes : {A : Type 0} → (A → List ℕ → Type 0) → (List ℕ → Type 0) → (A → List TreeEvent) → List ℕ
    → List TreeEvent → Type 0
StepGoes P E parts = Goes (Step P E) (step_events parts)

abbrev pub ManyGoes : {A : Type 0} → (A → List ℕ → Type 0) → (List ℕ → Type 0) → (A → List TreeEvent) → List ℕ
    → List TreeEvent → Type 0
ManyGoes P E parts = Goes (Joined P E) (λ vs. flat_map parts vs)

module _ {A : Type 0} (P : A → List ℕ → Type 0) (E : List ℕ → Type 0) (parts : A
    → List TreeEvent) (z : List ℕ) (e : E z) where
  -- after pieces, a step goes on to an end
  goes_on : (s : List ℕ) (vs : List A) → IsJoining P vs s → (u : List ℕ) (es : List TreeEvent) (o : Option A)
      → Step P E o u → Begins (step_events parts o) es
      → (d : List ℕ) × ManyGoes P E parts (s ++ (u ++ d)) (flat_map parts vs ++ es)
  goes_on s vs j u es None h b = (
    [],
    (
      vs,
      joined_split P E vs s (u ++ []) j (rw (append-nil u) h),
      subst (λ (l : List TreeEvent). Begins l (flat_map parts vs ++ es)) (append-nil (flat_map parts vs))
          (begins_after (flat_map parts vs) [] es b),
    ),
  )
  goes_on s vs j u es (Some v) h b = (
    z,
    (
      vs ++ v ∷ [],
      rw (← append_assoc s u z) (joined_split _ _ _ _ _ (joining_push _ _ _ _ _ j h) e),
      rw (sym (append-nil (flat_map parts (vs ++ v ∷ []))) ∙ events_push parts vs v [] ∙ ap
          (λ (l : List TreeEvent). flat_map parts vs ++ l) (append-nil (parts v))) (begins_after _ _ _ b),
    ),
  )

  pub Sound-steps : (step : Reader (Option A)) → Reads step (Step P E) (StepGoes P E parts)
      → Reads (many parts step) (Joined P E) (ManyGoes P E parts)
  Sound-steps step k = Sound-many _ _ _ _ _ _ (λ s vs j. Sound-within (λ u. s ++ u) (λ es. flat_map parts vs ++ es)
      (ManyGoes P E parts) k (λ v t p. p) (λ u es g. goes_on _ _ j _ _ _ g.1 g.2)) (λ s vs j. let m = goes_on _ _ j _ _
      None e ([], refl) in (s ++ (z ++ m.0), m.1))
