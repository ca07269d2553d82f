-- What is added to a text to which another was added.
use Rattle.std.proofs.Common.{◌≡◌, ℕ, List, [], ◌++◌, sym, ap, subst, ◌∙◌, append_assoc, Result, Ok, Err, MatchResult}
use Rattle.std.proofs.{Common.{OnErr, IsErr, append-nil}, lemmas.Result.MatchResult-from_err}
use Rattle.sfv_writer.specs.Written.{Extends}

-- it stands after both
pub next : (old text mid more new : List ℕ) → mid ≡ old ++ text → new ≡ mid ++ more → new ≡ old ++ (text ++ more)
next old text mid more new e f = f ∙ ap (λ (l : List ℕ). l ++ more) e ∙ append_assoc old text more

-- the text that is added, by an equation
pub put : (old text same new : List ℕ) → new ≡ old ++ text → text ≡ same → new ≡ old ++ same
put old text same new n e = n ∙ ap (λ (l : List ℕ). old ++ l) e

-- what is written of a value, between two marks
pub between : {A : Type 0} (f : A → List ℕ) (old front first : List ℕ) (x same : A) (second back new : List ℕ)
    → first ≡ old ++ front → x ≡ same → second ≡ first ++ f x → new ≡ second ++ back
    → new ≡ old ++ (front ++ f same ++ back)
between f old front first x same second back new a e b d = next _ _ _ _ _ (next _ _ _ _ _ a (put _ _ _ _ b (ap f e))) d

-- the same of what may fail
pub after : {T E : Type 0} (old text mid more new : List ℕ) (r : Result T E) → mid ≡ old ++ text
    → MatchResult r (λ _. new ≡ mid ++ more) (λ _. Extends mid new)
    → MatchResult r (λ _. new ≡ old ++ (text ++ more)) (λ _. Extends old new)
after old text mid more new (Ok x) e h = next old text mid more new e h
after old text mid more new (Err y) e h = (text ++ h.0, next old text mid h.0 new e h.1)

-- two texts, of which a call adds both
pub both_after : {T E : Type 0} (old text mid more rest new : List ℕ) (r : Result T E) → mid ≡ old ++ text
    → MatchResult r (λ _. new ≡ mid ++ (more ++ rest)) (λ _. Extends mid new)
    → MatchResult r (λ _. new ≡ old ++ (text ++ more ++ rest)) (λ _. Extends old new)
both_after {T} {E} old text mid more rest new r e h = subst (λ t. MatchResult r (λ _. new ≡ old ++ t)
    (λ _. Extends old new)) (sym (append_assoc text more rest)) (after old text mid (more ++ rest) new r e h)

-- a text that extends a longer one extends the old one
pub grows : (old text mid new : List ℕ) → mid ≡ old ++ text → Extends mid new → Extends old new
grows old text mid new e h = (text ++ h.0, next old text mid h.0 new e h.1)

-- what may have been added after both
pub grows_after : {T E : Type 0} (old text mid new : List ℕ) (r : Result T E) → mid ≡ old ++ text
    → OnErr r (Extends mid new) → OnErr r (Extends old new)
grows_after old text mid new (Ok x) e h = tt
grows_after old text mid new (Err y) e h = (text ++ h.0, next old text mid h.0 new e h.1)

-- a text that was left as it was
pub unchanged : (old new : List ℕ) → new ≡ old → Extends old new
unchanged old new e = ([], e ∙ sym (append-nil old))

-- an error is returned after a text was added, and maybe more
pub stops : {T E : Type 0} (old text mid new all : List ℕ) (r : Result T E) → IsErr r → mid ≡ old ++ text
    → Extends mid new → MatchResult r (λ _. new ≡ old ++ all) (λ _. Extends old new)
stops old text mid new all r err e h = MatchResult-from_err _ _ _ err (λ _. (text ++ h.0, next _ _ _ _ _ e h.1))

pub stops_grown : {T E : Type 0} (old text mid new : List ℕ) (r : Result T E) → mid ≡ old ++ text → Extends mid new
    → OnErr r (Extends old new)
stops_grown old text mid new (Ok x) e h = tt
stops_grown old text mid new (Err y) e h = (text ++ h.0, next old text mid h.0 new e h.1)
