-- Pairs that are put one after another are the ordered pairs.
use Rattle.std.proofs.Common.{◌≡◌, ℕ, List, [], ◌∷◌, ◌++◌, Bool, true, false, cond, Option, Some, None, refl, sym, ap}
use Rattle.std.proofs.Common.{◌∙◌, append_assoc, append-nil, bytes_eq, unwrap_or, option_map, fold}
use Rattle.std.proofs.lemmas.{List.Sums.fold-append, Slice.Eq.bytes_eq-Decides}
use Rattle.sfv_spec.specs.Ordered.{collapse, without}
use Rattle.sfv_spec.proofs.Collapse.{symmetric, entered, collapse-push, collapse-distinct, no_repeats-collapse}
use Rattle.sfv_spec.proofs.{Collapse.{last_of-collapse, last_of-push}, Last.{over, last_of-over}}
use Rattle.sfv_readers.specs.{Field.last_of, Words.put}

put-collapse : {A : Type 0} (ps : List (List ℕ × A)) (k : List ℕ) (v : A)
    → put (collapse ps) k v ≡ collapse (ps ++ (k, v) ∷ [])
unfolding put
put-collapse ps k v = collapse-push (collapse ps) k v
    ∙ ap (λ es. entered es k v) (collapse-distinct (collapse ps) (no_repeats-collapse ps)) ∙ sym (collapse-push ps k v)

-- all pairs put in order
abbrev pub put_all : {A : Type 0} → List (List ℕ × A) → List (List ℕ × A) → List (List ℕ × A)
put_all es [] = es
put_all es (p ∷ ps) = put_all (put es p.0 p.1) ps

put_all-collapse : {A : Type 0} (ps qs : List (List ℕ × A)) → put_all (collapse ps) qs ≡ collapse (ps ++ qs)
put_all-collapse ps [] = ap collapse (sym (append-nil ps))
put_all-collapse {A} ps (q ∷ qs) = ap (λ (es : List (List ℕ × A)). put_all es qs) (put-collapse ps q.0 q.1)
    ∙ put_all-collapse (ps ++ q ∷ []) qs ∙ ap collapse (append_assoc ps (q ∷ []) qs)

pub all_put : {A : Type 0} (ps : List (List ℕ × A)) → put_all [] ps ≡ collapse ps
unfolding collapse
all_put ps = put_all-collapse [] ps

without-over : {A B : Type 0} (f : A → B) (k : List ℕ) (ps : List (List ℕ × A))
    → without k (over f ps) ≡ over f (without k ps)
without-over f k [] = refl
without-over {A} {B} f k ((j, w) ∷ ps) = go (bytes_eq k j) refl (without-over f k ps)
  where
    go : (b : Bool) → bytes_eq k j ≡ b → without k (over f ps) ≡ over f (without k ps)
        → without k (over f ((j, w) ∷ ps)) ≡ over f (without k ((j, w) ∷ ps))
    go true e ih = simp e ih
    go false e ih = simp e (ap (λ (x : List (List ℕ × B)). (j, f w) ∷ x) ih)

pub collapse-over : {A B : Type 0} (f : A → B) (ps : List (List ℕ × A)) → collapse (over f ps) ≡ over f (collapse ps)
unfolding collapse
collapse-over f [] = refl
collapse-over {A} {B} f ((k, v) ∷ ps) = rw (last_of-over f k ps, collapse-over f ps, without-over f k (collapse ps))
    (ap (λ (x : B). (k, x) ∷ over f (without k (collapse ps))) (by_default (last_of k ps)))
  where
    by_default : (o : Option A) → unwrap_or (option_map f o) (f v) ≡ f (unwrap_or o v)
    by_default None = refl
    by_default (Some x) = refl

-- A function of a key's last pair after one more pair: its value at that pair, if the pair has this key.
pub of_put : {A X : Type 0} (of : Option A → X) (key : List ℕ) (ps : List (List ℕ × A)) (k : List ℕ) (v : A)
    → of (last_of key (put ps k v)) ≡ cond (bytes_eq k key) (of (Some v)) (of (last_of key ps))
unfolding put
of_put {A} {X} of key ps k v = ap of (last_of-collapse key (ps ++ (k, v) ∷ []) ∙ last_of-push key ps k v)
    ∙ rw (symmetric key k) (within (bytes_eq k key))
  where
    within : (b : Bool) → of (cond b (Some v) (last_of key ps)) ≡ cond b (of (Some v)) (of (last_of key ps))
    within true = refl
    within false = refl

pub last_of_put : {A : Type 0} (key : List ℕ) (ps : List (List ℕ × A)) (k : List ℕ) (v : A)
    → last_of key (put ps k v) ≡ cond (bytes_eq k key) (Some v) (last_of key ps)
last_of_put key ps k v = of_put (λ o. o) key ps k v

-- the pair with this key, where the key is known at run time
pub last_of_same : {A : Type 0} (key : List ℕ) (ps : List (List ℕ × A)) (v : A) → last_of key (put ps key v) ≡ Some v
last_of_same {A} key ps v = last_of_put key ps key v
    ∙ ap (λ (b : Bool). cond b (Some v) (last_of key ps)) ((bytes_eq-Decides key key).1 refl)

-- a fold over one more element
pub fold_more : {A B : Type 0} (f : B → A → B) (x : B) (ys : List A) (y : A) → fold f x (ys ++ y ∷ []) ≡ f (fold f x ys) y
fold_more f x ys y = fold-append f x ys (y ∷ [])
