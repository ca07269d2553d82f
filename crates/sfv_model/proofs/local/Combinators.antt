-- An answer rests on the bytes up to its place, and on the one that stands there.
use Rattle.std.proofs.Common.{◌≡◌, ℕ, zero, suc, Bool, true, false, cond, List, [], ◌∷◌, ◌++◌, Option, Some, None, Ok}
use Rattle.std.proofs.{Common.{Err, refl, sym, ap, ◌∙◌, append_assoc, inl, inr, true≢false}, lemmas.Bool.cases_Bool}
use Rattle.sfv_spec.specs.{Events.TreeEvent, declared.error_kind.ErrorKind.ErrorKind}
use Rattle.sfv_model.specs.Judgements.{Lasts, Local}
use Rattle.sfv_model.specs.Reader.{first, Answer, Reader, after_events, and_then, give, fail, ruled, ◌>>=◌, bind}
use Rattle.sfv_model.specs.Reader.{led_answer, led, branch, ahead, at_start, back, up_to, span}

pub first_after : (p q r : List ℕ) → first q ≡ first r → first (p ++ q) ≡ first (p ++ r)
first_after [] q r e = e
first_after (c ∷ p) q r e = refl

pub Local-give : {A : Type 0} (v : A) → Local (give v)
unfolding give
Local-give v = record { lasts = λ t. ([], refl, λ r e. refl) }

pub Local-fail : {A : Type 0} (k : ErrorKind) → Local {A = A} (fail k)
unfolding fail
Local-fail k = record {
  lasts = λ t l. ([], refl, λ r e. (record { kind = k; exact = true; rest = r; events = [] }, refl));
}

pub Local-ruled : {A : Type 0} (k : ErrorKind) → Local {A = A} (ruled k)
unfolding ruled
Local-ruled k = record { lasts = λ t l. absurd (true≢false (sym l)) }

led_on : {A : Type 0} (es : List TreeEvent) (f : Reader A) (t : List ℕ) (a : Answer A) → Lasts f t a
    → Lasts (led es f) t (led_answer es a)
unfolding led
led_on es f t (Ok x) h = (h.0, h.1, λ r e. ap (led_answer es) (h.2 r e))
led_on es f t (Err x) h = λ l. let w = h l in (
  w.0,
  w.1,
  λ r e. let m = w.2 r e in
      (after_events es m.0, ap (led_answer es) m.1),
)

pub Local-led : {A : Type 0} (es : List TreeEvent) (f : Reader A) → Local f → Local (led es f)
unfolding led
Local-led es f h = record { lasts = λ t. led_on es f t (f t) (h.lasts t) }

-- one reader behaves as another does after a text
pub after : {A : Type 0} (f g : Reader A) (p t : List ℕ) (a : Answer A) → Lasts g t a
    → ((p' r : List ℕ) → t ≡ p' ++ r → (q : List ℕ) → first q ≡ first r → f (p ++ (p' ++ q)) ≡ g (p' ++ q))
    → Lasts f (p ++ t) a
after f g p t (Ok x) h same = (
  p ++ h.0,
  simp (h.1, append_assoc),
  λ r e. ap f (append_assoc p h.0 r) ∙ same h.0 x.1 h.1 r e ∙ h.2 r e,
)
after f g p t (Err x) h same = λ l. let w = h l in (
  p ++ w.0,
  ap (λ (l : List ℕ). p ++ l) w.1 ∙ sym (append_assoc p w.0 x.rest),
  λ r e. let m = w.2 r e in
      (m.0, ap f (append_assoc p w.0 r) ∙ same w.0 x.rest w.1 r e ∙ m.1),
)

-- one reader behaves as another does
pub instead : {A : Type 0} (f g : Reader A) (t : List ℕ) (a : Answer A) → Lasts g t a
    → ((q : List ℕ) → first q ≡ first t → f q ≡ g q) → Lasts f t a
instead f g t a h same = after f g [] t a h (λ p r e q i. same (p ++ q) (first_after p q r i ∙ ap first (sym e)))

pub bind_on : {A B : Type 0} (f : Reader A) (g : A → Reader B) (t : List ℕ) (a : Answer A) → Lasts f t a
    → ((v : A) → Local (g v)) → Lasts (f >>= g) t (and_then a g)
unfolding bind
bind_on f g t (Ok x) h k = rw h.1 (after (f >>= g) (g x.0) _ _ _ ((k x.0).lasts x.1) (λ p r e q i. ap
    (λ a. and_then a g) (h.2 (p ++ q) (first_after _ _ _ i ∙ ap first (sym e)))))
bind_on f g t (Err x) h k = λ l. let w = h l in (w.0, w.1, λ r e. let m = w.2 r e in (m.0, ap (λ a. and_then a g) m.1))

pub Local-bind : {A B : Type 0} (f : Reader A) (g : A → Reader B) → Local f → ((v : A) → Local (g v)) → Local (f >>= g)
unfolding bind
Local-bind f g h k = record { lasts = λ t. bind_on f g t (f t) (h.lasts t) k }

pub Local-cond : {A : Type 0} (b : Bool) (x y : Reader A) → Local x → Local y → Local (cond b x y)
Local-cond true x y h k = h
Local-cond false x y h k = k

pub untaken : {A : Type 0} (class : ℕ → Bool) (taken : ℕ → Reader A) (other : Reader A) (q : List ℕ)
    → ((c : ℕ) → first q ≡ Some c → class c ≡ false) → branch class taken other q ≡ other q
unfolding branch
untaken class taken other [] h = refl
untaken class taken other (c ∷ r) h = rw (h c refl) refl

pub Local-branch : {A : Type 0} (class : ℕ → Bool) (taken : ℕ → Reader A) (other : Reader A)
    → ((c : ℕ) → Local (taken c)) → Local other → Local (branch class taken other)
unfolding branch
Local-branch {A} class taken other h k = record {
  lasts = λ t. elim t as (λ (t : List ℕ). Lasts (branch class taken other) t (branch class taken other t)) [
    | [] ↦ instead _ other [] (other []) (k.lasts []) (λ q i. untaken class taken other q (λ d j. absurd cc))
    | c ∷ r ↦ elim (cases_Bool (class c)) [
      | inl e ↦ rw e (after (branch class taken other) (taken c) (c ∷ []) r (taken c r) ((h c).lasts r)
          (λ p q i s j. rw e refl))
      | inr e ↦ rw e (instead (branch class taken other) other (c ∷ r) (other (c ∷ r)) (k.lasts (c ∷ r))
          (λ q i. untaken class taken other q (λ d j. let same : c ≡ d = cc in rw (← same) e)))
    ]
  ];
}

pub looks : {A : Type 0} (class : ℕ → Bool) (taken other : Reader A) (q : List ℕ) (b : Bool) (c : ℕ) → class c ≡ b
    → first q ≡ Some c → ahead class taken other q ≡ cond b taken other q
unfolding ahead
looks class taken other [] b c e i = absurd cc
looks class taken other (d ∷ r) b c e i = let same : d ≡ c = cc in
    rw (same, e) (elim b as (λ (b : Bool). cond b (taken (c ∷ r)) (other (c ∷ r)) ≡ cond b taken other (c ∷ r)) [
      | true ↦ refl
      | false ↦ refl
    ])

pub nothing : {A : Type 0} (class : ℕ → Bool) (taken other : Reader A) (q : List ℕ) → first q ≡ None
    → ahead class taken other q ≡ other q
unfolding ahead
nothing class taken other [] i = refl
nothing class taken other (d ∷ r) i = absurd cc

pub Local-ahead : {A : Type 0} (class : ℕ → Bool) (taken other : Reader A) → Local taken → Local other
    → Local (ahead class taken other)
unfolding ahead
Local-ahead {A} class taken other h k = record {
  lasts = λ t. elim t as (λ (t : List ℕ). Lasts (ahead class taken other) t (ahead class taken other t)) [
    | [] ↦ instead _ other [] (other []) (k.lasts []) (λ q i. nothing class taken other q i)
    | c ∷ r ↦ elim (cases_Bool (class c)) [
      | inl e ↦ rw e (instead (ahead class taken other) taken (c ∷ r) (taken (c ∷ r)) (h.lasts (c ∷ r))
          (λ q i. looks class taken other q true c e i))
      | inr e ↦ rw e (instead (ahead class taken other) other (c ∷ r) (other (c ∷ r)) (k.lasts (c ∷ r))
          (λ q i. looks class taken other q false c e i))
    ]
  ];
}

back_on : {A : Type 0} (k : ErrorKind) (f : Reader (Option A)) (t : List ℕ) (a : Answer (Option A)) → Lasts f t a
    → Lasts (back k f) t (at_start k t a)
unfolding back
back_on k f t (Ok (Some v, q)) h = (h.0, h.1, λ r e. ap (at_start k (h.0 ++ r)) (h.2 r e))
back_on k f t (Ok (None, q)) h = λ l. absurd (true≢false (sym l))
back_on k f t (Err x) h = λ l. let w = h l in (
  w.0,
  w.1,
  λ r e. let m = w.2 r e in
      (m.0, ap (at_start k (w.0 ++ r)) m.1),
)

pub Local-back : {A : Type 0} (k : ErrorKind) (f : Reader (Option A)) → Local f → Local (back k f)
unfolding back
Local-back k f h = record { lasts = λ t. back_on k f t (f t) (h.lasts t) }

pub Local-up_to : (class : ℕ → Bool) (n : ℕ) → Local (up_to class n)
unfolding up_to
Local-up_to class zero = Local-give []
Local-up_to class (suc n) = Local-branch _ _ _ (λ c. Local-bind _ _ (Local-up_to class n) (λ cs. Local-give _))
    (Local-give _)

span_none : (class : ℕ → Bool) (c : ℕ) (q : List ℕ) → class c ≡ false → first q ≡ Some c → span class q ≡ give [] q
unfolding span give
span_none class c [] e i = absurd cc
span_none class c (d ∷ q) e i = let same : c ≡ d = cc in rw (← same, e) refl

span_lasts : (class : ℕ → Bool) (t : List ℕ) → Lasts (span class) t (span class t)
unfolding span give bind
span_lasts class [] = ([], refl, λ r e. span_empty r e)
  where
    span_empty : (r : List ℕ) → first r ≡ None → span class r ≡ Ok ([], r)
    span_empty [] e = refl
    span_empty (d ∷ q) e = absurd cc
span_lasts class (c ∷ r) = elim (cases_Bool (class c)) [
  | inl e ↦ rw e (after (span class) (span class >>= λ cs. give (c ∷ cs)) (c ∷ []) r
      (and_then (span class r) (λ cs. give (c ∷ cs))) (bind_on (span class) (λ cs. give (c ∷ cs)) r (span class r)
      (span_lasts class r) (λ cs. Local-give (c ∷ cs))) (λ p q i s j. rw e refl))
  | inr e ↦ rw e (instead (span class) (give []) (c ∷ r) (Ok ([], c ∷ r)) ([], refl, λ r e. refl)
      (λ q i. span_none class c q e i))
]

pub Local-span : (class : ℕ → Bool) → Local (span class)
Local-span class = record { lasts = span_lasts class }

-- the rules by which a reader is seen to be local
pub ruleset local_rules = (
  Local-give,
  Local-fail,
  Local-ruled,
  Local-led,
  Local-bind,
  Local-branch,
  Local-ahead,
  Local-cond,
  Local-back,
  Local-up_to,
  Local-span,
)
