-- A state that keeps of each key only what its last pair gives, for callers: what is kept over the events of a field hangs
-- on the last pairs alone, as the ordered value does.
use Rattle.std.proofs.Common.{◌≡◌, ℕ, List, [], ◌∷◌, false, refl, ap, subst, ◌∙◌, inl, inr, bytes_eq, fold, map, Option}
use Rattle.std.{proofs.Common.{Some, None, option_map, unwrap_or}, specs.List.AllByRecursion, specs.Option.option_or}
use Rattle.std.proofs.lemmas.{Bool.cases_Bool, List.Folds.fold-map, List.Sums.fold-append, Slice.Eq.bytes_eq-Decides}
use Rattle.sfv_spec.specs.Events.{TreeEvent, parameter, parameters_end, parameters_events, keyed_events, events}
use Rattle.sfv_spec.specs.{Ordered.last_of, Values.{RawParameters, RawMember}}
use Rattle.sfv_spec.specs.declared.field_kind.FieldKind.TheVariants.{Dictionary as dictionary_field}
use Rattle.sfv_spec.proofs.{Collapse.or_none, Runs.IsInside}

-- What is looked at is left alone by the pairs of other keys, and set by each pair of the key, wherever `holds` is true of
-- the state, and so it stays. Then it is what the last pair of the key sets.
pub last_kept : {A S X : Type 0} (holds : S → Type 0) (step : S → List ℕ × A → S) (look : S
    → X) (key : List ℕ) (of : A → X)
    → ((s : S) (k : List ℕ) (v : A) → holds s → bytes_eq key k ≡ false → (look (step s (k, v)) ≡ look s)
    × holds (step s (k, v)))
    → ((s : S) (v : A) → holds s → (look (step s (key, v)) ≡ of v) × holds (step s (key, v)))
    → (pairs : List (List ℕ × A)) (s : S) → holds s
    → (look (fold step s pairs) ≡ unwrap_or (option_map of (last_of key pairs)) (look s)) × holds (fold step s pairs)
unfolding last_of
last_kept holds step look key of other own [] s h = (refl, h)
last_kept {A} {S} {X} holds step look key of other own ((k, v) ∷ pairs) s h = elim (cases_Bool (bytes_eq key k)) [
  | inl y ↦
      let same : key ≡ k = (bytes_eq-Decides key k).0 y in
      let now = own s v h in
      let here : (look (step s (k, v)) ≡ of v) × holds (step s (k, v)) =
      subst (λ (k : List ℕ). (look (step s (k, v)) ≡ of v) × holds (step s (k, v))) same now in
      let rest = last_kept holds step look key of other own pairs (step s (k, v)) here.1 in
      (rest.0 ∙ rw (y, here.0) (set (last_of key pairs)), rest.1)
  | inr n ↦
      let here = other s k v h n in
      let rest = last_kept holds step look key of other own pairs (step s (k, v)) here.1 in
      (rest.0 ∙ rw (n, here.0, ← or_none (last_of key pairs)) refl, rest.1)
]
  where
    set : (o : Option A) → unwrap_or (option_map of o) (of v)
        ≡ unwrap_or (option_map of (option_or o (Some v))) (look s)
    set None = refl
    set (Some w) = refl

-- a dictionary's events are those of its members, one after the other
pub fold_members : {S : Type 0} (step : S → TreeEvent → S) (raw : List (List ℕ × RawMember)) (s : S)
    → fold step s (events dictionary_field raw) ≡ fold (λ s m. fold step s (keyed_events m)) s raw
fold_members step [] s = refl
fold_members step (m ∷ raw) s = fold-append step s (keyed_events m) (events dictionary_field raw)
    ∙ fold_members step raw (fold step s (keyed_events m))

-- and those of parameters, one for each and their end
pub fold_parameters : {S : Type 0} (step : S → TreeEvent → S) (ps : RawParameters) (s : S)
    → fold step s (parameters_events ps) ≡ step (fold (λ s p. step s (parameter p.0 p.1)) s ps) parameters_end
fold_parameters step ps s = fold-append step s (map (λ p. parameter p.0 p.1) ps) (parameters_end ∷ [])
    ∙ ap (λ s. step s parameters_end) (fold-map step (λ p. parameter p.0 p.1) s ps)

-- a state that no event within a member changes stays over such events
pub idle_within : {S : Type 0} (step : S → TreeEvent → S) (s : S) → ((e : TreeEvent) → IsInside e → step s e ≡ s)
    → (es : List TreeEvent) → AllByRecursion IsInside es → fold step s es ≡ s
idle_within step s idle [] h = refl
idle_within step s idle (e ∷ es) h = ap (λ s. fold step s es) (idle e h.0) ∙ idle_within step s idle es h.1
