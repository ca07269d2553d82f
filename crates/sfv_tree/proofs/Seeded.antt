-- What is under a seed stays under it.
use Rattle.std.proofs.Common.{List, [], ◌∷◌, ◌++◌, ◌⊎◌, inl, inr, All, Bool, true, false, cond, Contains}
use Rattle.std.proofs.lemmas.List.Elements.{All-append, All-cons, All-nil, All-head, All-tail, All-weaker, All-contains}
use Rattle.std.proofs.lemmas.List.Elements.{All-contains_itself}
use Rattle.indexmap.specs.IndexMap.{insert_entry}

-- one more stands last
pub all_push : {X : Type 0} (P : X → Type 0) (xs : List X) (x : X) → P x → All P xs → All P (xs ++ x ∷ [])
all_push P xs x p h = All-append P xs (x ∷ []) h (All-cons P x [] p (All-nil P))

-- one is entered by its key
pub all_entered : {K V : Type 0} (eq : K → K → Bool) (P : K × V → Type 0) (es : List (K × V)) (k : K) (v : V)
    → ((l : K) → P (l, v)) → All P es → All P (insert_entry eq es k v)
all_entered eq P [] k v p h = All-cons P (k, v) [] (p k) (All-nil P)
all_entered {K} {V} eq P (e ∷ es) k v p h = on (eq k e.0) (all_entered eq P es k v p (All-tail P e es h))
  where
    on : (b : Bool) → All P (insert_entry eq es k v) → All P (cond b ((e.0, v) ∷ es) (e ∷ insert_entry eq es k v))
    on true more = All-cons P (e.0, v) es (p e.0) (All-tail P e es h)
    on false more = All-cons P e (insert_entry eq es k v) (All-head P e es h) more

-- each element was there before, or `P` holds of it
abbrev pub AddsTo : {A : Type 0} → (A → Type 0) → List A → List A → Type 0
AddsTo P before after = All (λ x. Contains before x ⊎ P x) after

module _ {X : Type 0} (P : X → Type 0) where
  -- nothing is added
  pub adds_none : (xs : List X) → AddsTo P xs xs
  adds_none xs = All-weaker (Contains xs) (λ x. Contains xs x ⊎ P x) (λ x h. inl h) xs (All-contains_itself xs)

  -- what is added to what is added
  pub adds_more : (xs ys zs : List X) → AddsTo P xs ys → AddsTo P ys zs → AddsTo P xs zs
  adds_more xs ys zs first second =
      All-weaker (λ x. Contains ys x ⊎ P x) (λ x. Contains xs x ⊎ P x) (λ x. on x) zs second
    where
      on : (x : X) → Contains ys x ⊎ P x → Contains xs x ⊎ P x
      on x (inl here) = All-contains (λ x. Contains xs x ⊎ P x) ys x first here
      on x (inr p) = inr p

  -- what holds of all held and of each added one holds of all
  pub adds_all : (xs ys : List X) → All P xs → AddsTo P xs ys → All P ys
  adds_all xs ys held h = All-weaker (λ x. Contains xs x ⊎ P x) P (λ x. on x) ys h
    where
      on : (x : X) → Contains xs x ⊎ P x → P x
      on x (inl here) = All-contains P xs x held here
      on x (inr p) = p

-- one is added by its key
pub adds_entered : {K V : Type 0} (eq : K → K → Bool) (P : V → Type 0) (es : List (K × V)) (k : K) (v : V) → P v
    → AddsTo (λ (e : K × V). P e.1) es (insert_entry eq es k v)
adds_entered {K} {V} eq P es k v p = all_entered eq (λ e. Contains es e ⊎ P e.1) es k v (λ l. inr p)
    (adds_none (λ (e : K × V). P e.1) es)
