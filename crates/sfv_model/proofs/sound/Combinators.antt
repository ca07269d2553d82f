-- Readers give what the grammar has, and a fault carries a text that shows how far the reading was right.
use Rattle.std.proofs.Common.{subst, ◌≡◌, ℕ, zero, suc, ◌≤◌, Bool, true, false, cond, List, [], ◌∷◌, ◌++◌, length}
use Rattle.std.proofs.Common.{Option, Some, None, Ok, Err, refl, sym, ap, ◌∙◌, append_assoc, arith, inl, inr}
use Rattle.std.proofs.Common.{true≢false, eqb-true, append-nil}
use Rattle.std.{specs.List.list_all, specs.Prelude.⊤, proofs.lemmas.Bool.{and_from, and_parts, cases_Bool}}
use Rattle.sfv_spec.specs.{Events.TreeEvent, Texts.RunOf, declared.error_kind.ErrorKind.ErrorKind}
use Rattle.sfv_model.specs.Judgements.{GoesOn, Reached, Sound}
use Rattle.sfv_model.specs.Reader.{has_rule, Fault, Answer, Reader, and_then, give, fail, ruled, ◌>>=◌, bind}
use Rattle.sfv_model.specs.Reader.{led_answer, led, branch, ahead, at_start, back, up_to, span, byte}

further : (W : List ℕ → List TreeEvent → Type 0) (s q : List ℕ) (e : Fault) → GoesOn (λ u es. W (s ++ u) es) q e
    → GoesOn W (s ++ q) e
further W s q e g = record {
  front = s ++ g.front;
  more = g.more;
  parts = ap (λ (l : List ℕ). s ++ l) g.parts ∙ sym (append_assoc s g.front e.rest);
  holds = rw (append_assoc s g.front g.more) g.holds;
}

-- after a text that was read before
pub after : {A : Type 0} (P : A → List ℕ → Type 0) (W : List ℕ → List TreeEvent → Type 0) (V : List TreeEvent → Type 0)
    (s q : List ℕ) (a : Answer A) → Reached (λ v u. P v (s ++ u)) (λ u es. W (s ++ u) es) V q a
    → Reached P W V (s ++ q) a
after P W V s q (Ok x) h = (s ++ h.0, ap (λ (l : List ℕ). s ++ l) h.1 ∙ sym (append_assoc s h.0 x.1), h.2)
after P W V s q (Err e) h = ((λ x. further W s q e (h.0 x)), h.1)

-- what is known of an answer of a sound reader
pub sound_at : {A : Type 0} {f : Reader A} {P : A → List ℕ → Type 0} {W : List ℕ → List TreeEvent → Type 0}
    {V : List TreeEvent → Type 0} → Sound f P W V → (t : List ℕ) (a : Answer A) → f t ≡ a → Reached P W V t a
sound_at {P = P} {W} {V} h t a e = subst (Reached P W V t) e (h.sound t)

pub Sound-give : {A : Type 0} (v : A) (P : A → List ℕ → Type 0)
    (W : List ℕ → List TreeEvent → Type 0) (V : List TreeEvent → Type 0) → P v [] → Sound (give v) P W V
unfolding give
Sound-give v P W V q = record { sound = λ t. ([], refl, q) }

pub Sound-fail : {A : Type 0} (k : ErrorKind) (P : A → List ℕ → Type 0)
    (W : List ℕ → List TreeEvent → Type 0) (V : List TreeEvent → Type 0) (c : List ℕ) → W c [] → Sound (fail k) P W V
unfolding fail
Sound-fail k P W V c q = record {
  sound = λ t. ((λ _. record { front = []; more = c; parts = refl; holds = q }), λ e. absurd (true≢false e));
}

pub Sound-ruled : {A : Type 0} (k : ErrorKind) (P : A → List ℕ → Type 0) (W : List ℕ → List TreeEvent → Type 0)
    (V : List TreeEvent → Type 0) → has_rule k ≡ true → V [] → Sound (ruled k) P W V
unfolding ruled
Sound-ruled k P W V r q = record { sound = λ t. ((λ e. absurd (true≢false (sym e))), λ _. (q, r)) }

led_on : {A : Type 0} (es : List TreeEvent) (P : A → List ℕ → Type 0)
    (W : List ℕ → List TreeEvent → Type 0) (V : List TreeEvent → Type 0) (t : List ℕ) (a : Answer A)
    → Reached P (λ u fs. W u (es ++ fs)) (λ fs. V (es ++ fs)) t a → Reached P W V t (led_answer es a)
led_on es P W V t (Ok x) h = h
led_on es P W V t (Err e) h = (
  (λ x. let g = h.0 x in record { front = g.front; more = g.more; parts = g.parts; holds = g.holds }),
  h.1,
)

pub Sound-led : {A : Type 0} (es : List TreeEvent) {f : Reader A} {P : A → List ℕ → Type 0}
    {W : List ℕ → List TreeEvent → Type 0} {V : List TreeEvent → Type 0}
    → Sound f P (λ u fs. W u (es ++ fs)) (λ fs. V (es ++ fs)) → Sound (led es f) P W V
unfolding led
Sound-led es {f} {P} {W} {V} h = record { sound = λ t. led_on es P W V t (f t) (h.sound t) }

pub Sound-branch : {A : Type 0} (class : ℕ → Bool) (taken : ℕ → Reader A) (other : Reader A)
    (P : A → List ℕ → Type 0) (W : List ℕ → List TreeEvent → Type 0) (V : List TreeEvent → Type 0)
    → ((c : ℕ) → class c ≡ true → Sound (taken c) (λ v s. P v (c ∷ s)) (λ s es. W (c ∷ s) es) V) → Sound other P W V
    → Sound (branch class taken other) P W V
unfolding branch
Sound-branch {A} class taken other P W V h k = record {
  sound = λ t. elim t as (λ (t : List ℕ). Reached P W V t (branch class taken other t)) [
    | [] ↦ k.sound []
    | c ∷ r ↦ elim (cases_Bool (class c)) [
      | inl e ↦ rw e (after P W V (c ∷ []) r (taken c r) ((h c e).sound r))
      | inr e ↦ rw e (k.sound (c ∷ r))
    ]
  ];
}

pub Sound-ahead : {A : Type 0} (class : ℕ → Bool) (taken other : Reader A) (P : A → List ℕ → Type 0) (W : List ℕ
    → List TreeEvent → Type 0) (V : List TreeEvent → Type 0) → Sound taken P W V → Sound other P W V
    → Sound (ahead class taken other) P W V
unfolding ahead
Sound-ahead class taken other P W V h k = record {
  sound = λ t. elim t as (λ (t : List ℕ). Reached P W V t (ahead class taken other t)) [
    | [] ↦ k.sound []
    | c ∷ r ↦ elim (cases_Bool (class c)) [ inl e ↦ rw e (h.sound (c ∷ r)) | inr e ↦ rw e (k.sound (c ∷ r)) ]
  ];
}

pub Sound-cond : {A : Type 0} {b : Bool} {x y : Reader A} {P : A → List ℕ → Type 0}
    {W : List ℕ → List TreeEvent → Type 0} {V : List TreeEvent → Type 0} → (b ≡ true → Sound x P W V)
    → (b ≡ false → Sound y P W V) → Sound (cond b x y) P W V
Sound-cond {b = true} h k = h refl
Sound-cond {b = false} h k = k refl

-- of a reader that may find nothing
abbrev pub Found : {A : Type 0} → (A → List ℕ → Type 0) → Option A → List ℕ → Type 0
Found P (Some v) s = P v s
Found P None s = ⊤

from_start : {A : Type 0} (P : A → List ℕ → Type 0) (W : List ℕ → List TreeEvent → Type 0)
    (V : List TreeEvent → Type 0) (k : ErrorKind) (t : List ℕ) (a : Answer (Option A)) → has_rule k ≡ true → V []
    → Reached (Found P) W V t a → Reached P W V t (at_start k t a)
from_start P W V k t (Ok (Some v, r)) late q h = h
from_start P W V k t (Ok (None, r)) late q h = ((λ e. absurd (true≢false (sym e))), λ _. (q, late))
from_start P W V k t (Err e) late q h = h

pub Sound-back : {A : Type 0} (k : ErrorKind) (f : Reader (Option A)) (P : A → List ℕ → Type 0) (W : List ℕ
    → List TreeEvent → Type 0) (V : List TreeEvent → Type 0) → has_rule k ≡ true → V [] → Sound f (Found P) W V
    → Sound (back k f) P W V
unfolding back
Sound-back k f P W V late q h = record { sound = λ t. from_start P W V k t (f t) late q (h.sound t) }

bind_on : {A B : Type 0} (P : A → List ℕ → Type 0) (Q : B → List ℕ → Type 0)
    (W : List ℕ → List TreeEvent → Type 0) (V : List TreeEvent → Type 0) (g : A → Reader B) (t : List ℕ) (a : Answer A)
    → ((s : List ℕ) (v : A) → P v s → Sound (g v) (λ w u. Q w (s ++ u)) (λ u es. W (s ++ u) es) V) → Reached P W V t a
    → Reached Q W V t (and_then a g)
bind_on P Q W V g t (Ok x) h m = rw m.1 (after Q W V m.0 x.1 (g x.0 x.1) ((h m.0 x.0 m.2).sound x.1))
bind_on P Q W V g t (Err e) h m = m

pub Sound-bind : {A B : Type 0} (P : A → List ℕ → Type 0) (f : Reader A) (g : A → Reader B)
    (Q : B → List ℕ → Type 0) (W : List ℕ → List TreeEvent → Type 0) (V : List TreeEvent → Type 0)
    → Sound f P W V → ((s : List ℕ) (v : A) → P v s → Sound (g v) (λ w u. Q w (s ++ u)) (λ u es. W (s ++ u) es) V)
    → Sound (f >>= g) Q W V
unfolding bind
Sound-bind P f g Q W V a h = record { sound = λ t. bind_on P Q W V g t (f t) h (a.sound t) }

map_on : {A B : Type 0} (Q : B → List ℕ → Type 0) (W : List ℕ → List TreeEvent → Type 0)
    (V : List TreeEvent → Type 0) (m : A → B) (t : List ℕ) (a : Answer A) → Reached (λ v s. Q (m v) s) W V t a
    → Reached Q W V t (and_then a (λ v. give (m v)))
unfolding give
map_on Q W V m t (Ok x) h = h
map_on Q W V m t (Err e) h = h

-- a value made of what was read
pub Sound-map : {A B : Type 0} {f : Reader A} (m : A → B) {Q : B → List ℕ → Type 0}
    {W : List ℕ → List TreeEvent → Type 0} {V : List TreeEvent → Type 0} → Sound f (λ v s. Q (m v) s) W V
    → Sound (f >>= λ v. give (m v)) Q W V
unfolding bind
Sound-map {f = f} m {Q} {W} {V} a = record { sound = λ t. map_on Q W V m t (f t) (a.sound t) }

longer : (U W : List ℕ → List TreeEvent → Type 0) (t : List ℕ) (e : Fault)
    → ((u : List ℕ) (es : List TreeEvent) → U u es → (d : List ℕ) × W (u ++ d) es) → GoesOn U t e → GoesOn W t e
longer U W t e l g =
    let m = l (g.front ++ g.more) e.events g.holds in
    record {
      front = g.front;
      more = g.more ++ m.0;
      parts = g.parts;
      holds = rw (← append_assoc g.front g.more m.0) m.1;
    }

weaker_on : {A : Type 0} (P Q : A → List ℕ → Type 0) (U W : List ℕ → List TreeEvent → Type 0)
    (T V : List TreeEvent → Type 0) (t : List ℕ) (a : Answer A)
    → ((v : A) (s : List ℕ) → P v s → Q v s) → ((u : List ℕ) (es : List TreeEvent) → U u es
    → (d : List ℕ) × W (u ++ d) es) → ((es : List TreeEvent) → T es → V es) → Reached P U T t a → Reached Q W V t a
weaker_on P Q U W T V t (Ok x) k l m h = (h.0, h.1, k x.0 h.0 h.2)
weaker_on P Q U W T V t (Err e) k l m h = ((λ x. longer U W t e l (h.0 x)), λ x. let n = h.1 x in (m e.events n.0, n.1))

pub Sound-weaker : {A : Type 0} {P : A → List ℕ → Type 0} {U : List ℕ → List TreeEvent → Type 0}
    {T : List TreeEvent → Type 0} {f : Reader A} {Q : A → List ℕ → Type 0} {W : List ℕ → List TreeEvent → Type 0}
    {V : List TreeEvent → Type 0} → Sound f P U T → ((v : A) (s : List ℕ) → P v s → Q v s)
    → ((u : List ℕ) (es : List TreeEvent) → U u es → (d : List ℕ) × W (u ++ d) es)
    → ((es : List TreeEvent) → T es → V es) → Sound f Q W V
Sound-weaker {P = P} {U} {T} {f} {Q} {W} {V} h k l m =
    record { sound = λ t. weaker_on P Q U W T V t (f t) k l m (h.sound t) }

-- a reader that never faults
pub record Steady {A : Type 0} (f : Reader A) (P : A → List ℕ → Type 0) : Type 0 where
  pub steady : (t : List ℕ) → (s : List ℕ) × (v : A) × (r : List ℕ) × (f t ≡ Ok (v, r)) × (t ≡ s ++ r) × P v s

pub Sound-steady : {A : Type 0} (P : A → List ℕ → Type 0) (f : Reader A)
    (W : List ℕ → List TreeEvent → Type 0) (V : List TreeEvent → Type 0) → Steady f P → Sound f P W V
Sound-steady P f W V h = record { sound = λ t. let m = h.steady t in rw m.3 (m.0, m.4, m.5) }

-- ---- bytes of a class

pub run_cons : (class : ℕ → Bool) (c : ℕ) (cs : List ℕ) → class c ≡ true → RunOf class cs → RunOf class (c ∷ cs)
run_cons class c cs e h = and_from (class c) (list_all class cs) e h

pub run_head : (class : ℕ → Bool) (c : ℕ) (cs : List ℕ) → RunOf class (c ∷ cs) → class c ≡ true
run_head class c cs h = (and_parts (class c) (list_all class cs) h).0

pub run_tail : (class : ℕ → Bool) (c : ℕ) (cs : List ℕ) → RunOf class (c ∷ cs) → RunOf class cs
run_tail class c cs h = (and_parts (class c) (list_all class cs) h).1

-- the very bytes, each of the class, and no more of them than n
pub record IsRun (class : ℕ → Bool) (n : ℕ) (v s : List ℕ) : Type 0 where
  pub same : s ≡ v
  pub each : RunOf class v
  pub most : length v ≤ n

run_none : (class : ℕ → Bool) (n : ℕ) → IsRun class n [] []
run_none class n = record { same = refl; each = refl; most = omega arith }

run_more : (class : ℕ → Bool) (n c : ℕ) (s v : List ℕ) → class c ≡ true → IsRun class n v s
    → IsRun class (suc n) (c ∷ v) (c ∷ s)
run_more class n c s v e h = record {
  same = ap (λ (l : List ℕ). c ∷ l) h.same;
  each = run_cons class c v e h.each;
  most = omega (arith, h.most);
}

abbrev Run : (ℕ → Bool) → ℕ → List ℕ → Answer (List ℕ) → Type 0
Run class n t a = (s : List ℕ) × (v : List ℕ) × (r : List ℕ) × (a ≡ Ok (v, r)) × (t ≡ s ++ r) × IsRun class n v s

run_at : (class : ℕ → Bool) (n : ℕ) (t : List ℕ) → Run class n t (up_to class n t)
unfolding up_to branch give bind
run_at class zero t = ([], [], t, refl, refl, run_none class zero)
run_at class (suc n) [] = ([], [], [], refl, refl, run_none class (suc n))
run_at class (suc n) (c ∷ r) = elim (cases_Bool (class c)) [
  | inl e ↦ let h = run_at class n r in rw e (
    c ∷ h.0,
    c ∷ h.1,
    h.2,
    ap (λ x. and_then x (λ cs. give (c ∷ cs))) h.3,
    ap (λ (l : List ℕ). c ∷ l) h.4,
    run_more class n c h.0 h.1 e h.5,
  )
  | inr e ↦ rw e ([], [], c ∷ r, refl, refl, run_none class (suc n))
]

pub Steady-up_to : (class : ℕ → Bool) (n : ℕ) → Steady (up_to class n) (IsRun class n)
Steady-up_to class n = record { steady = run_at class n }

abbrev pub IsSpan : (ℕ → Bool) → List ℕ → List ℕ → Type 0
IsSpan class v s = (s ≡ v) × RunOf class v

abbrev Spanned : (ℕ → Bool) → List ℕ → Answer (List ℕ) → Type 0
Spanned class t a = (s : List ℕ) × (v : List ℕ) × (r : List ℕ) × (a ≡ Ok (v, r)) × (t ≡ s ++ r) × IsSpan class v s

span_at : (class : ℕ → Bool) (t : List ℕ) → Spanned class t (span class t)
unfolding span give
span_at class [] = ([], [], [], refl, refl, (refl, refl))
span_at class (c ∷ r) = elim (cases_Bool (class c)) [
  | inl e ↦ let h = span_at class r in rw e (
    c ∷ h.0,
    c ∷ h.1,
    h.2,
    ap (λ x. and_then x (λ cs. give (c ∷ cs))) h.3,
    ap (λ (l : List ℕ). c ∷ l) h.4,
    (ap (λ (l : List ℕ). c ∷ l) h.5.0, run_cons class c h.1 e h.5.1),
  )
  | inr e ↦ rw e ([], [], c ∷ r, refl, refl, (refl, refl))
]

pub Steady-span : (class : ℕ → Bool) → Steady (span class) (IsSpan class)
Steady-span class = record { steady = λ t. span_at class t }

-- after a run of a class
pub Sound-span : {B : Type 0} (class : ℕ → Bool) (g : List ℕ → Reader B) (Q : B → List ℕ → Type 0) (W : List ℕ
    → List TreeEvent → Type 0) (V : List TreeEvent → Type 0)
    → ((v : List ℕ) → RunOf class v → Sound (g v) (λ w u. Q w (v ++ u)) (λ u es. W (v ++ u) es) V)
    → Sound (span class >>= g) Q W V
Sound-span class g Q W V h = Sound-bind _ _ _ _ _ _ (Sound-steady _ _ _ _ (Steady-span _)) (λ s v k. rw k.0 (h v k.1))

pub Sound-up_to : {B : Type 0} (class : ℕ → Bool) (n : ℕ) (g : List ℕ → Reader B) (Q : B → List ℕ → Type 0) (W : List ℕ
    → List TreeEvent → Type 0) (V : List TreeEvent → Type 0)
    → ((v : List ℕ) → RunOf class v → length v ≤ n → Sound (g v) (λ w u. Q w (v ++ u)) (λ u es. W (v ++ u) es) V)
    → Sound (up_to class n >>= g) Q W V
Sound-up_to class n g Q W V h = Sound-bind (IsRun class n) (up_to class n) g Q W V
    (Sound-steady _ _ W V (Steady-up_to class n)) (λ s v k. rw k.same (h v k.each k.most))

-- after a byte that is named
pub Sound-byte : {A : Type 0} (n : ℕ) {f other : Reader A} {P : A → List ℕ → Type 0}
    {W : List ℕ → List TreeEvent → Type 0} {V : List TreeEvent → Type 0} → Sound f (λ v s. P v (n ∷ s))
    (λ s es. W (n ∷ s) es) V → Sound other P W V → Sound (branch (byte n) (λ _. f) other) P W V
Sound-byte n h k = Sound-branch (byte n) _ _ _ _ _ (λ c e. rw (eqb-true c n e) h) k

-- some text shows it
abbrev pub Somewhere : (List ℕ → List TreeEvent → Type 0) → List TreeEvent → Type 0
Somewhere W es = (u : List ℕ) × W u es

-- es begins these events
abbrev pub Begins : List TreeEvent → List TreeEvent → Type 0
Begins all es = (more : List TreeEvent) × (all ≡ es ++ more)

-- a text of P, and a beginning of the events of its value
abbrev pub Goes : {A : Type 0} → (A → List ℕ → Type 0) → (A → List TreeEvent) → List ℕ → List TreeEvent → Type 0
Goes {A} P parts u es = (v : A) × P v u × Begins (parts v) es

-- the form that the readers of the grammar have
abbrev pub Reads : {A : Type 0} → Reader A → (A → List ℕ → Type 0) → (List ℕ → List TreeEvent → Type 0) → Type 0
Reads f P W = Sound f P W (Somewhere W)

pub begins_after : (front all es : List TreeEvent) → Begins all es → Begins (front ++ all) (front ++ es)
begins_after front all es b = (b.0, ap (λ (l : List TreeEvent). front ++ l) b.1 ∙ sym (append_assoc front es b.0))

pub begins_longer : (all es more : List TreeEvent) → Begins all es → Begins (all ++ more) es
begins_longer all es more b = (b.0 ++ more, ap (λ (l : List TreeEvent). l ++ more) b.1 ∙ append_assoc es b.0 more)

-- A reader where another has begun: at shows where its texts stand, out what was visited before.
pub Sound-within : {A : Type 0} {f : Reader A} {P Q : A → List ℕ → Type 0} {U : List ℕ → List TreeEvent → Type 0}
    (at : List ℕ → List ℕ) (out : List TreeEvent → List TreeEvent) (W : List ℕ → List TreeEvent → Type 0)
    → Reads f P U → ((v : A) (s : List ℕ) → P v s → Q v s)
    → ((u : List ℕ) (es : List TreeEvent) → U u es → (d : List ℕ) × W (at (u ++ d)) (out es))
    → Sound f Q (λ u es. W (at u) (out es)) (λ es. Somewhere W (out es))
Sound-within at out W h k l = Sound-weaker h k l (λ es g. let m = l g.0 es g.1 in (at (g.0 ++ m.0), m.1))

-- the same, where no text need follow
pub Sound-here : {A : Type 0} {f : Reader A} {P Q : A → List ℕ → Type 0} {U : List ℕ → List TreeEvent → Type 0}
    (at : List ℕ → List ℕ) (out : List TreeEvent → List TreeEvent) (W : List ℕ → List TreeEvent → Type 0) → Reads f P U
    → ((v : A) (s : List ℕ) → P v s → Q v s) → ((u : List ℕ) (es : List TreeEvent) → U u es → W (at u) (out es))
    → Sound f Q (λ u es. W (at u) (out es)) (λ es. Somewhere W (out es))
Sound-here at out W h k l = Sound-within at out W h k (λ u es g. ([], rw (append-nil u) (l u es g)))
