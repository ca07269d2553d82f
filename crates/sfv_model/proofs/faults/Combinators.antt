-- Where the faults of a reader stand: V t e is known of the text that is read and of its fault.
use Rattle.std.proofs.Common.{◌≡◌, ℕ, Bool, true, false, cond, List, [], ◌∷◌, ◌++◌, Option, Some, None, Ok, Err, refl}
use Rattle.std.proofs.Common.{sym, subst, ◌∙◌, ◌⊎◌, inl, inr}
use Rattle.sfv_spec.specs.{Events.TreeEvent, Texts.RunOf, declared.error_kind.ErrorKind.ErrorKind}
use Rattle.sfv_model.specs.Judgements.{Reached, Sound}
use Rattle.sfv_model.specs.Reader.{Fault, Answer, Reader, any, at_reach, by_rule, after_events, and_then, give, fail}
use Rattle.sfv_model.specs.Reader.{◌>>=◌, bind, led_answer, led, span, branch, ahead, at_start, back}
use Rattle.sfv_model.proofs.sound.Combinators.{Steady, Steady-span, Sound-steady}

pub record Rules {A : Type 0} (f : Reader A) (V : List ℕ → Fault → Type 0) : Type 0 where
  pub rules : (t : List ℕ) (e : Fault) → f t ≡ Err e → V t e

pub Rules-give : {A : Type 0} (v : A) (V : List ℕ → Fault → Type 0) → Rules (give v) V
unfolding give
Rules-give v V = record { rules = λ t e h. absurd cc }

-- the fault of an answer
pub fault_at : {A : Type 0} (V : List ℕ → Fault → Type 0) (t : List ℕ) (x e : Fault) (a : Answer A) → a ≡ Err x → V t x
    → a ≡ Err e → V t e
fault_at V t x e a i h j = let both = sym i ∙ j in let same : x ≡ e = cc in subst (V t) same h

pub Rules-steady : {A : Type 0} (f : Reader A) (P : A → List ℕ → Type 0) (V : List ℕ → Fault → Type 0) → Steady f P
    → Rules f V
Rules-steady f P V s = record { rules = λ t e h. let m = s.steady t in let o = m.3 in absurd cc }

-- the fault of a reader under which events were visited
pub led_fault : {A : Type 0} (ds : List TreeEvent) (f : Reader A) (t : List ℕ) (e : Fault) → led ds f t ≡ Err e
    → (x : Fault) × (f t ≡ Err x) × (after_events ds x ≡ e)
unfolding led
led_fault {A} ds f t e i = on (f t) refl i
  where
    on : (a : Answer A) → f t ≡ a → led_answer ds a ≡ Err e
        → (x : Fault) × (f t ≡ Err x) × (after_events ds x ≡ e)
    on (Ok x) h j = absurd cc
    on (Err x) h j = (x, h, cc)

pub Rules-led : {A : Type 0} (ds : List TreeEvent) (f : Reader A) (V : List ℕ → Fault → Type 0)
    → Rules f (λ t x. V t (after_events ds x)) → Rules (led ds f) V
Rules-led ds f V h =
    record { rules = λ t e i. let x = led_fault ds f t e i in subst (V t) x.2 (h.rules t x.0 x.1) }

-- the fault of two readers is that of the first, or of the second after it
pub bind_fault : {A B : Type 0} (f : Reader A) (g : A → Reader B) (t : List ℕ) (e : Fault) → (f >>= g) t ≡ Err e
    → (f t ≡ Err e) ⊎ ((v : A) × (q : List ℕ) × (f t ≡ Ok (v, q)) × (g v q ≡ Err e))
unfolding bind
bind_fault {A} f g t e i = on (f t) refl i
  where
    on : (a : Answer A) → f t ≡ a → and_then a g ≡ Err e
        → (f t ≡ Err e) ⊎ ((v : A) × (q : List ℕ) × (f t ≡ Ok (v, q)) × (g v q ≡ Err e))
    on (Ok x) h j = inr (x.0, x.1, h, j)
    on (Err x) h j = inl (let same : x ≡ e = cc in cc)

pub Rules-bind : {A B : Type 0} (P : A → List ℕ → Type 0) (W : List ℕ → List TreeEvent → Type 0)
    (T : List TreeEvent → Type 0) (f : Reader A) (g : A → Reader B) (V : List ℕ → Fault → Type 0)
    → Sound f P W T → Rules f V → ((s : List ℕ) (v : A) → P v s → Rules (g v) (λ u x. V (s ++ u) x)) → Rules (f >>= g) V
Rules-bind P W T f g V s h k = record {
  rules = λ t e i. elim (bind_fault f g t e i) [
    | inl j ↦ h.rules t e j
    | inr (v, q, j, l) ↦
        let m : Reached P W T t (Ok (v, q)) = subst (λ a. Reached P W T t a) j (s.sound t) in
        rw m.1 ((k m.0 v m.2).rules q e l)
  ];
}

-- after a run of a class
pub Rules-span : {B : Type 0} (class : ℕ → Bool) (g : List ℕ → Reader B) (V : List ℕ → Fault → Type 0)
    → ((v : List ℕ) → RunOf class v → Rules (g v) (λ u x. V (v ++ u) x)) → Rules (span class >>= g) V
Rules-span class g V h = Rules-bind _ (λ _ _. Unit {0}) (λ _. Unit {0}) _ _ _ (Sound-steady _ _ _ _ (Steady-span _))
    (Rules-steady _ _ _ (Steady-span _)) (λ s v i. rw i.0 (h v i.1))

cond_on : {A : Type 0} (V : List ℕ → Fault → Type 0) (t : List ℕ) (e : Fault) (b : Bool) (x y : Answer A)
    → (b ≡ true → x ≡ Err e → V t e) → (b ≡ false → y ≡ Err e → V t e) → cond b x y ≡ Err e → V t e
cond_on V t e true x y h k i = h refl i
cond_on V t e false x y h k i = k refl i

pub Rules-branch : {A : Type 0} (class : ℕ → Bool) (taken : ℕ → Reader A) (other : Reader A)
    (V : List ℕ → Fault → Type 0) → ((c : ℕ) → class c ≡ true → Rules (taken c) (λ u x. V (c ∷ u) x)) → Rules other V
    → Rules (branch class taken other) V
unfolding branch
Rules-branch {A} class taken other V h k = record { rules = on }
  where
    on : (t : List ℕ) (e : Fault) → branch class taken other t ≡ Err e → V t e
    on [] e i = k.rules [] e i
    on (c ∷ r) e i = cond_on V (c ∷ r) e (class c) (taken c r) (other (c ∷ r)) (λ y j. (h c y).rules r e j)
        (λ _ j. k.rules (c ∷ r) e j) i

-- before a byte
pub ahead_at : {A : Type 0} (class : ℕ → Bool) (taken other : Reader A) (V : List ℕ → Fault → Type 0) (c : ℕ)
    (r : List ℕ) (e : Fault) → (class c ≡ true → taken (c ∷ r) ≡ Err e → V (c ∷ r) e)
    → (class c ≡ false → other (c ∷ r) ≡ Err e → V (c ∷ r) e) → ahead class taken other (c ∷ r) ≡ Err e → V (c ∷ r) e
unfolding ahead
ahead_at class taken other V c r e h k i = cond_on V (c ∷ r) e (class c) (taken (c ∷ r)) (other (c ∷ r)) h k i

-- with the byte that stands there
pub Rules-ahead : {A : Type 0} (class : ℕ → Bool) (taken other : Reader A) (V : List ℕ → Fault → Type 0)
    → ((c : ℕ) (r : List ℕ) (e : Fault) → class c ≡ true → taken (c ∷ r) ≡ Err e → V (c ∷ r) e)
    → ((c : ℕ) (r : List ℕ) (e : Fault) → class c ≡ false → other (c ∷ r) ≡ Err e → V (c ∷ r) e)
    → ((e : Fault) → other [] ≡ Err e → V [] e) → Rules (ahead class taken other) V
unfolding ahead
Rules-ahead {A} class taken other V h k n = record { rules = on }
  where
    on : (t : List ℕ) (e : Fault) → ahead class taken other t ≡ Err e → V t e
    on [] e i = n e i
    on (c ∷ r) e i = ahead_at class taken other V c r e (λ y j. h c r e y j) (λ y j. k c r e y j) i

-- unless the text ends
pub Rules-any : {A : Type 0} (f other : Reader A) (V : List ℕ → Fault → Type 0) → Rules f V
    → ((e : Fault) → other [] ≡ Err e → V [] e) → Rules (ahead any f other) V
Rules-any f other V h n = Rules-ahead any f other V (λ c r e _ i. h.rules (c ∷ r) e i) (λ c r e y i. absurd cc) n

back_on : {A : Type 0} (k : ErrorKind) (V : List ℕ → Fault → Type 0) (t : List ℕ) (e : Fault) (a : Answer (Option A))
    → ((r : List ℕ) → a ≡ Ok (None, r) → V t (by_rule k t)) → ((x : Fault) → a ≡ Err x → V t x)
    → at_start k t a ≡ Err e → V t e
back_on k V t e (Ok (Some v, r)) n h i = absurd cc
back_on k V t e (Ok (None, r)) n h i = let same : by_rule k t ≡ e = cc in subst (V t) same (n r refl)
back_on k V t e (Err x) n h i = let same : x ≡ e = cc in subst (V t) same (h x refl)

pub Rules-back : {A : Type 0} (k : ErrorKind) (f : Reader (Option A)) (V : List ℕ → Fault → Type 0)
    → ((t r : List ℕ) → f t ≡ Ok (None, r) → V t (by_rule k t)) → Rules f V → Rules (back k f) V
unfolding back
Rules-back k f V n h = record { rules = λ t e i. back_on k V t e (f t) (λ r j. n t r j) (λ y j. h.rules t y j) i }

pub Rules-weaker : {A : Type 0} (f : Reader A) (U V : List ℕ → Fault → Type 0) → Rules f U
    → ((t : List ℕ) (e : Fault) → U t e → V t e) → Rules f V
Rules-weaker f U V h k = record { rules = λ t e i. k t e (h.rules t e i) }

-- the fault of one text
pub fail_at : (A : Type 0) (k : ErrorKind) (V : List ℕ → Fault → Type 0) (t : List ℕ) (e : Fault)
    → fail {A = A} k t ≡ Err e → V t (at_reach k t) → V t e
unfolding fail
fail_at A k V t e i h = fault_at {A = A} V t (at_reach k t) e (Err (at_reach k t)) refl h i

-- a value is no fault
pub no_fault : {A : Type 0} (v : A) (t : List ℕ) (e : Fault) → give v t ≡ Err e → ⊥
unfolding give
no_fault v t e i = absurd cc
