-- Properties of readers: sound, local, complete.
use Rattle.std.specs.Prelude.{◌≡◌, ℕ, true, false, List, [], ◌++◌, Ok, Err}
use Rattle.sfv_spec.specs.Events.{TreeEvent}
use Rattle.sfv_spec.specs.declared.error_kind.ErrorKind.TheVariants.{InvalidUtf8InDisplayString}
use Rattle.sfv_model.specs.Reader.{has_rule, Fault, Answer, Reader, first}

-- The text before the fault, with some continuation, is a text of `W`, with the fault's events. `W u es`: `u` is a text
-- of the grammar, and `es` is a prefix of its events.
pub record GoesOn (W : List ℕ → List TreeEvent → Type 0) (t : List ℕ) (e : Fault) : Type 0 where
  pub front : List ℕ
  pub more : List ℕ
  pub parts : t ≡ front ++ e.rest
  pub holds : W (front ++ more) e.events

-- `P v s`: the text `s` has the value `v`. `V es`: `es` is a prefix of the events of some text.
abbrev pub Reached : {A : Type 0} → (A → List ℕ → Type 0) → (List ℕ → List TreeEvent → Type 0)
    → (List TreeEvent → Type 0) → List ℕ → Answer A → Type 0
Reached P W V t (Ok x) = (s : List ℕ) × (t ≡ s ++ x.1) × P x.0 s
Reached P W V t (Err e) = (e.exact ≡ true → GoesOn W t e) × (e.exact ≡ false → V e.events × (has_rule e.kind ≡ true))

-- a value's text is of `P`; the text before an exact fault is a prefix of a text of `W`
pub record Sound {A : Type 0} (f : Reader A) (P : A → List ℕ → Type 0)
    (W : List ℕ → List TreeEvent → Type 0) (V : List TreeEvent → Type 0) : Type 0 where
  pub sound : (t : List ℕ) → Reached P W V t (f t)

-- a text of `P`, without events
abbrev pub Mute : {A : Type 0} → (A → List ℕ → Type 0) → List ℕ → List TreeEvent → Type 0
Mute {A} P u es = (v : A) × P v u × (es ≡ [])

-- no events
abbrev pub Quiet : List TreeEvent → Type 0
Quiet es = es ≡ []

-- the result is a fault
abbrev pub IsFault : {A : Type 0} → Answer A → Type 0
IsFault a = (e : Fault) × (a ≡ Err e)

-- a value depends only on the bytes up to its position and on the next byte; so does the existence of an exact fault
abbrev pub Lasts : {A : Type 0} → Reader A → List ℕ → Answer A → Type 0
Lasts f t (Ok x) = (p : List ℕ) × (t ≡ p ++ x.1) × ((r : List ℕ) → first r ≡ first x.1 → f (p ++ r) ≡ Ok (x.0, r))
Lasts f t (Err e) = e.exact ≡ true → (p : List ℕ) × (t ≡ p ++ e.rest)
    × ((r : List ℕ) → first r ≡ first e.rest → IsFault (f (p ++ r)))

-- this holds of all results of a reader
pub record Local {A : Type 0} (f : Reader A) : Type 0 where
  pub lasts : (t : List ℕ) → Lasts f t (f t)

-- the reader parses each text of `P`, whatever follows it
abbrev pub Complete : {A : Type 0} → Reader A → (A → List ℕ → Type 0) → Type 0
Complete {A} f P = (v : A) (t q : List ℕ) → P v t → f (t ++ q) ≡ Ok (v, q)

-- the same fault, with another rest
abbrev pub with_rest : Fault → List ℕ → Fault
with_rest e r = record { kind = e.kind; exact = e.exact; rest = r; events = e.events }

-- the result is the same, whatever follows its bytes; a fault, exact or not, also depends on the next byte
abbrev pub Stays : {A : Type 0} → Reader A → List ℕ → Answer A → Type 0
Stays f t (Ok x) = (p : List ℕ) × (t ≡ p ++ x.1) × ((r : List ℕ) → f (p ++ r) ≡ Ok (x.0, r))
Stays f t (Err e) = (p : List ℕ) × (t ≡ p ++ e.rest)
    × ((r : List ℕ) → first r ≡ first e.rest → f (p ++ r) ≡ Err (with_rest e r))

-- the same, except for bytes that are not UTF-8: this fault depends on the closing quote
abbrev pub StaysButText : {A : Type 0} → Reader A → List ℕ → Answer A → Type 0
StaysButText f t (Ok x) = Stays f t (Ok x)
StaysButText f t (Err e) = ¬ (e.kind ≡ InvalidUtf8InDisplayString) → Stays f t (Err e)
