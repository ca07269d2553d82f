-- What was built is under the seed of its builder.
use Rattle.std.{proofs.Common.{◌≡◌, ℕ, List, [], ◌∷◌, map, refl, subst}, specs.List.FoldsTo}
use Rattle.sfv.{specs.Field.{FieldKind, Version, TreeEvent}, specs.Types.HashSeed, proofs.Relations.Answers}

-- events that are taken are taken in a weaker sense
pub runs_weaker : {S : Type 0} (takes less : S → TreeEvent → S → Type 0)
    → ((s : S) (e : TreeEvent) (t : S) → takes s e t → less s e t) → (es : List TreeEvent) (from to : S)
    → FoldsTo takes from es to → FoldsTo less from es to
runs_weaker takes less w [] from to h = h
runs_weaker takes less w (e ∷ es) from to h = (h.0, w from e h.0 h.1, runs_weaker takes less w es h.0 to h.2)

-- a list whose elements are mapped to none has none
pub map_none : {A B : Type 0} (f : A → B) (xs : List A) → map f xs ≡ [] → xs ≡ []
map_none f [] h = refl
map_none f (x ∷ xs) h = absurd (let none : map f (x ∷ xs) ≡ [] = h in cc)

module _ {S : Type 0} (is_under : HashSeed → S → Type 0) (takes : S → TreeEvent → S → Type 0) where
  -- a builder under a seed stays under it over all events
  pub runs_stay : ((s : S) (e : TreeEvent) (t : S) → takes s e t → (seed : HashSeed) → is_under seed s → is_under seed t)
      → (es : List TreeEvent) (from to : S) → FoldsTo takes from es to → (seed : HashSeed) → is_under seed from
      → is_under seed to
  runs_stay each [] from to h seed start = subst (is_under seed) h start
  runs_stay each (e ∷ es) from to h seed start = runs_stay each es h.0 to h.2 seed (each from e h.0 h.1 seed start)

  -- the answer is under the seed that the builder was made with
  pub answer_seeded : {O : Type 0} (finishes : S → O → Type 0) (has : HashSeed → O → Type 0)
      → ((s : S) (e : TreeEvent) (t : S) → takes s e t → (seed : HashSeed) → is_under seed s → is_under seed t)
      → ((s : S) (out : O) → finishes s out → (seed : HashSeed) → is_under seed s → has seed out)
      → (version : Version) (kind : FieldKind) (t : List ℕ) (from : S) (out : O) (seed : HashSeed) → is_under seed from
      → Answers takes finishes version kind t from out → has seed out
  answer_seeded finishes has each answers version kind t from out seed start h =
      answers h.holds.0 out h.holds.2 seed (runs_stay each _ from h.holds.0 h.holds.1 seed start)

  -- what the builder held grows over all events
  pub runs_grow : {X : Type 0} (held : S → X) (grows : HashSeed → X → X → Type 0)
      → ((seed : HashSeed) (x : X) → grows seed x x)
      → ((seed : HashSeed) (x y z : X) → grows seed x y → grows seed y z → grows seed x z)
      → ((s : S) (e : TreeEvent) (t : S) → takes s e t → (seed : HashSeed) → is_under seed s
      → is_under seed t × grows seed (held s) (held t))
      → (es : List TreeEvent) (from to : S) → FoldsTo takes from es to → (seed : HashSeed) → is_under seed from
      → grows seed (held from) (held to)
  runs_grow held grows same more each [] from to h seed start =
      subst (λ (s : S). grows seed (held from) (held s)) h (same seed (held from))
  runs_grow held grows same more each (e ∷ es) from to h seed start =
      let first = each from e h.0 h.1 seed start in
      more seed (held from) (held h.0) (held to) first.1
      (runs_grow held grows same more each es h.0 to h.2 seed first.0)
