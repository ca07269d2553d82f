-- What was told before a fault with a rule is told before every text that goes on alike.
use Rattle.std.proofs.Common.{◌≡◌, ℕ, zero, suc, ◌<◌, Bool, true, false, List, [], ◌∷◌, ◌++◌, length, Option, Some}
use Rattle.std.proofs.Common.{None, Ok, Err, refl, sym, ap, subst, ◌∙◌, append_assoc, arith, inl, inr, flat_map}
use Rattle.std.proofs.{Common.{append-nil, true≢false}, lemmas.Bool.cases_Bool}
use Rattle.sfv_spec.specs.{Events.TreeEvent, declared.error_kind.ErrorKind.ErrorKind}
use Rattle.sfv_model.specs.Judgements.{Lasts, Local}
use Rattle.sfv_model.specs.Reader.{Fault, Answer, Reader, first, visited, after_events, and_then, give, fail, ◌>>=◌}
use Rattle.sfv_model.specs.Reader.{bind, led_answer, led, branch, ahead, span, go_on, many, one_and_more}
use Rattle.sfv_model.proofs.local.Combinators.{first_after, untaken, looks}
use Rattle.sfv_model.proofs.places.{Calls.{Stuck, stuck_bind}, CallsOfReaders.{stuck_give, stuck_then, stuck_after}}
use Rattle.sfv_model.proofs.sound.Combinators.{Begins, begins_after, Steady-span}
use Rattle.sfv_model.proofs.sound.{Many.{Consumes, many_is}, Steps.step_events}

-- After before and one byte more, the events es were told, whatever follows; and something may follow.
pub record Tells {A : Type 0} (f : Reader A) (parts : A → List TreeEvent) (t : List ℕ) (es : List TreeEvent) : Type 0 where
  pub before : List ℕ
  pub next : ℕ
  pub after : List ℕ
  pub text : t ≡ before ++ next ∷ after
  pub emitted : (r : List ℕ) → Begins (visited parts (f (before ++ next ∷ r))) es
  pub more : List ℕ
  pub stuck : Stuck (f (before ++ next ∷ (more ++ 0 ∷ [])))

-- so it is before each fault that doesn't stand at the reach
pub record Early {A : Type 0} (f : Reader A) (parts : A → List TreeEvent) : Type 0 where
  pub early : (t : List ℕ) (e : Fault) → f t ≡ Err e → e.exact ≡ false → Tells f parts t e.events

pub begins_all : (all : List TreeEvent) → Begins all []
begins_all all = (all, refl)

pub begins_trans : (a b c : List TreeEvent) → Begins a b → Begins b c → Begins a c
begins_trans a b c h k = (k.0 ++ h.0, h.1 ∙ ap (λ (l : List TreeEvent). l ++ h.0) k.1 ∙ append_assoc c k.0 h.0)

-- one reader goes on as another does after p
pub tells_after : {A : Type 0} (f g : Reader A) (parts : A → List TreeEvent) (p t : List ℕ) (es : List TreeEvent)
    → ((q : List ℕ) → first q ≡ first t → f (p ++ q) ≡ g q) → Tells g parts t es → Tells f parts (p ++ t) es
tells_after f g parts p t es same m =
    let again : (r : List ℕ) → f ((p ++ m.before) ++ m.next ∷ r) ≡ g (m.before ++ m.next ∷ r) =
    λ r. ap f (append_assoc p m.before (m.next ∷ r)) ∙ same (m.before ++ m.next ∷ r)
    (first_after m.before (m.next ∷ r) (m.next ∷ m.after) refl ∙ ap first (sym m.text)) in
    record {
      before = p ++ m.before;
      next = m.next;
      after = m.after;
      text = ap (λ (l : List ℕ). p ++ l) m.text ∙ sym (append_assoc p m.before (m.next ∷ m.after));
      emitted = λ r. rw (again r) (m.emitted r);
      more = m.more;
      stuck = rw (again (m.more ++ 0 ∷ [])) m.stuck;
    }

nothing_emitted : {A : Type 0} (f : Reader A) (parts : A → List TreeEvent) (es : List TreeEvent) → Tells f parts [] es → ⊥
nothing_emitted f parts es m = on m.before m.text
  where
    on : (p : List ℕ) → [] ≡ p ++ m.next ∷ m.after → ⊥
    on [] e = absurd cc
    on (c ∷ p) e = absurd cc

pub Early-give : {A : Type 0} (v : A) (parts : A → List TreeEvent) → Early (give v) parts
unfolding give
Early-give v parts = record { early = λ t e i x. absurd cc }

pub Early-fail : {A : Type 0} (k : ErrorKind) (parts : A → List TreeEvent) → Early (fail k) parts
unfolding fail
Early-fail k parts = record {
  early = λ t e i x.
      let same : record { kind = k; exact = true; rest = t; events = [] } ≡ e = cc in
      absurd (true≢false (ap (λ (e : Fault). e.exact) same ∙ x));
}

pub Early-span : (class : ℕ → Bool) (parts : List ℕ → List TreeEvent) → Early (span class) parts
Early-span class parts = record { early = λ t e i x. let m = (Steady-span class).steady t in absurd cc }

-- the events and the stuck bytes of one reader carry over to another
tells_as : {A B : Type 0} {f : Reader A} {g : Reader B} {parts : A → List TreeEvent} {whole : B → List TreeEvent}
    {t : List ℕ} {es fs : List TreeEvent}
    → ((s : List ℕ) → Begins (visited parts (f s)) es → Begins (visited whole (g s)) fs)
    → ((s : List ℕ) → Stuck (f s) → Stuck (g s)) → Tells f parts t es → Tells g whole t fs
tells_as emitted stuck m = record {
  before = m.before;
  next = m.next;
  after = m.after;
  text = m.text;
  emitted = λ r. emitted _ (m.emitted r);
  more = m.more;
  stuck = stuck _ m.stuck;
}

-- an answer whose rest is that of another, and whose events are some more and those of the other
abbrev Alike : {A B : Type 0} → List TreeEvent → (A → List TreeEvent) → (B → List TreeEvent) → Answer A → Answer B
    → Type 0
Alike {A} {B} es parts whole (Ok x) b = (w : B) × (b ≡ Ok (w, x.1)) × Begins (whole w) (es ++ parts x.0)
Alike es parts whole (Err e) b = b ≡ Err (after_events es e)

alike_begins : {A B : Type 0} (es fs : List TreeEvent) (parts : A → List TreeEvent) (whole : B → List TreeEvent)
    (a : Answer A) (b : Answer B) → Alike es parts whole a b → Begins (visited parts a) fs
    → Begins (visited whole b) (es ++ fs)
alike_begins es fs parts whole (Ok x) b h k = rw h.1 (begins_trans _ _ _ h.2 (begins_after es (parts x.0) fs k))
alike_begins es fs parts whole (Err x) b h k = rw h (begins_after es x.events fs k)

alike_stuck : {A B : Type 0} (es : List TreeEvent) (parts : A → List TreeEvent) (whole : B → List TreeEvent)
    (a : Answer A) (b : Answer B) → Alike es parts whole a b → Stuck a → Stuck b
alike_stuck es parts whole (Ok x) b h k = rw h.1 k
alike_stuck es parts whole (Err x) b h k = rw h k

-- what is told before a fault of one reader is told of a reader with alike answers
tells_alike : {A B : Type 0} {f : Reader A} {g : Reader B} (es : List TreeEvent) (parts : A → List TreeEvent)
    (whole : B → List TreeEvent) → ((s : List ℕ) → Alike es parts whole (f s) (g s)) → (t : List ℕ) (e : Fault)
    → g t ≡ Err e → e.exact ≡ false
    → ((y : Fault) → f t ≡ Err y → y.exact ≡ false → Tells f parts t y.events) → Tells g whole t e.events
tells_alike {A} {B} {f} {g} es parts whole alike t e i x h = on (f t) refl (alike t)
  where
    on : (a : Answer A) → f t ≡ a → Alike es parts whole a (g t) → Tells g whole t e.events
    on (Ok y) k m = let is = m.1 in absurd cc
    on (Err y) k m =
        let same : after_events es y ≡ e = cc in
        rw (← same) (tells_as (λ s. alike_begins es y.events parts whole (f s) (g s) (alike s))
        (λ s. alike_stuck es parts whole (f s) (g s) (alike s)) (h y k (ap (λ (e : Fault). e.exact) same ∙ x)))

Early-alike : {A B : Type 0} {f : Reader A} {g : Reader B} (es : List TreeEvent) (parts : A → List TreeEvent)
    (whole : B → List TreeEvent) → ((s : List ℕ) → Alike es parts whole (f s) (g s)) → Early f parts → Early g whole
Early-alike es parts whole alike h =
    record { early = λ t e i x. tells_alike es parts whole alike t e i x (λ y k z. h.early t y k z) }

-- with events before, where the values that are read have them
pub Early-led : {A : Type 0} (es : List TreeEvent) {f : Reader A} {parts whole : A → List TreeEvent}
    → ((t : List ℕ) (v : A) (q : List ℕ) → f t ≡ Ok (v, q) → whole v ≡ es ++ parts v) → Early f parts
    → Early (led es f) whole
unfolding led
Early-led {A} es {f} {parts} {whole} each = Early-alike es parts whole (λ s. on s (f s) refl)
  where
    on : (s : List ℕ) (a : Answer A) → f s ≡ a → Alike es parts whole a (led_answer es a)
    on s (Ok x) i = (x.0, refl, rw (each s x.0 x.1 i) ([], sym (append-nil _)))
    on s (Err x) i = refl

-- the first of two readings is at fault
pub tells_first : {A B : Type 0} (f : Reader A) (g : A → Reader B) (front : A → List TreeEvent) (parts : B
    → List TreeEvent) (t : List ℕ) (es : List TreeEvent)
    → ((v : A) (q : List ℕ) → Begins (visited parts (g v q)) (front v)) → ((v : A) → Stuck (g v (0 ∷ [])))
    → Tells f front t es → Tells (f >>= g) parts t es
unfolding bind
tells_first {A} f g front parts t es goes stuck = tells_as (λ s. on (f s)) (λ s. stuck_bind g (f s) stuck)
  where
    on : (a : Answer A) → Begins (visited front a) es → Begins (visited parts (and_then a g)) es
    on (Ok y) b = begins_trans _ _ _ (goes y.0 y.1) b
    on (Err y) b = b

-- a value is made, whose events are some more and those of the reading
alike_map : {A B : Type 0} (es : List TreeEvent) (m : A → B) (front : A → List TreeEvent) (whole : B → List TreeEvent)
    → ((v : A) → Begins (whole (m v)) (es ++ front v)) → (a : Answer A)
    → Alike es front whole a (led_answer es (and_then a (λ v. give (m v))))
unfolding give
alike_map es m front whole each (Ok x) = (m x.0, refl, each x.0)
alike_map es m front whole each (Err x) = refl

pub Early-led_map : {A B : Type 0} (es : List TreeEvent) {f : Reader A} (m : A → B) {front : A → List TreeEvent}
    {whole : B → List TreeEvent} → ((v : A) → Begins (whole (m v)) (es ++ front v)) → Early f front
    → Early (led es (f >>= λ v. give (m v))) whole
unfolding led bind
Early-led_map es {f} m {front} {whole} each = Early-alike es _ _ (λ s. alike_map es _ front _ each _)

-- the second is
pub tells_second : {A B : Type 0} (f : Reader A) (g : A → Reader B) (parts : B → List TreeEvent) (t : List ℕ) (v : A)
    (q : List ℕ) (es : List TreeEvent) → Local f → f t ≡ Ok (v, q) → Tells (g v) parts q es → Tells (f >>= g) parts t es
unfolding bind
tells_second f g parts t v q es l e m =
    let k : Lasts f t (Ok (v, q)) = subst (λ a. Lasts f t a) e (l.lasts t) in
    rw k.1 (tells_after (f >>= g) (g v) parts k.0 q es (λ r i. ap (λ a. and_then a g) (k.2 r i)) m)

pub Early-bind : {A B : Type 0} {f : Reader A} {g : A → Reader B} {front : A → List TreeEvent}
    {parts : B → List TreeEvent} → Early f front → Local f → ((v : A) → Early (g v) parts)
    → ((v : A) (q : List ℕ) → Begins (visited parts (g v q)) (front v)) → ((v : A) → Stuck (g v (0 ∷ [])))
    → Early (f >>= g) parts
unfolding bind
Early-bind {A} {B} {f} {g} {front} {parts} h l k goes stuck =
    record { early = λ t e i x. on t (f t) refl e i x }
  where
    on : (t : List ℕ) (a : Answer A) → f t ≡ a → (e : Fault) → and_then a g ≡ Err e → e.exact ≡ false
        → Tells (f >>= g) parts t e.events
    on t (Ok y) n e i x = tells_second f g parts t y.0 y.1 e.events l n ((k y.0).early y.1 e i x)
    on t (Err y) n e i x =
        let same : y ≡ e = cc in
        tells_first f g front parts t e.events goes stuck (h.early t e (n ∙ ap (λ (y : Fault). Err y) same) x)

-- where the first hands out nothing
pub Early-then : {A B : Type 0} {f : Reader A} {g : A → Reader B} {parts : B → List TreeEvent} → Early f (λ _. [])
    → Local f → ((v : A) → Early (g v) parts) → ((v : A) → Stuck (g v (0 ∷ []))) → Early (f >>= g) parts
Early-then h l k stuck = Early-bind h l k (λ v q. begins_all _) stuck

-- where the second always reads on
pub Early-map : {A B : Type 0} {f : Reader A} (m : A → B) {front : A → List TreeEvent} {parts : B → List TreeEvent}
    → Early f front → Local f → ((v : A) → Begins (parts (m v)) (front v)) → Early (f >>= λ v. give (m v)) parts
unfolding give
Early-map m {parts = parts} h l each = Early-bind h l (λ v. Early-give _ _) (λ v q. each v) (λ v. refl)

pub Early-branch : {A : Type 0} (class : ℕ → Bool) {taken : ℕ → Reader A} {other : Reader A}
    {parts : A → List TreeEvent} → ((c : ℕ) → Early (taken c) parts) → Early other parts
    → Early (branch class taken other) parts
unfolding branch
Early-branch {A} class {taken} {other} {parts} h k = record { early = at }
  where
    at : (t : List ℕ) (e : Fault) → branch class taken other t ≡ Err e → e.exact ≡ false
        → Tells (branch class taken other) parts t e.events
    at [] e i x = absurd (nothing_emitted other parts e.events (k.early [] e i x))
    at (c ∷ r) e i x = elim (cases_Bool (class c)) [
      | inl n ↦ tells_after (branch class taken other) (taken c) parts (c ∷ []) r e.events (λ q j. rw n refl)
          ((h c).early r e (rw n at i) x)
      | inr n ↦ tells_after (branch class taken other) other parts [] (c ∷ r) e.events
          (λ q j. untaken class taken other q (λ d m. let same : c ≡ d = cc in rw (← same) n))
          (k.early (c ∷ r) e (rw n at i) x)
    ]

pub Early-ahead : {A : Type 0} (class : ℕ → Bool) {taken other : Reader A} {parts : A → List TreeEvent}
    → Early taken parts → Early other parts → Early (ahead class taken other) parts
unfolding ahead
Early-ahead {A} class {taken} {other} {parts} h k = record { early = at }
  where
    at : (t : List ℕ) (e : Fault) → ahead class taken other t ≡ Err e → e.exact ≡ false
        → Tells (ahead class taken other) parts t e.events
    at [] e i x = absurd (nothing_emitted other parts e.events (k.early [] e i x))
    at (c ∷ r) e i x = elim (cases_Bool (class c)) [
      | inl n ↦ tells_after (ahead class taken other) taken parts [] (c ∷ r) e.events
          (λ q j. looks class taken other q true c n j) (h.early (c ∷ r) e (rw n at i) x)
      | inr n ↦ tells_after (ahead class taken other) other parts [] (c ∷ r) e.events
          (λ q j. looks class taken other q false c n j) (k.early (c ∷ r) e (rw n at i) x)
    ]

-- ---- step after step

module _ {A : Type 0} (parts : A → List TreeEvent) (step : Reader (Option A)) (c : Consumes step) (l : Local step)
    (h : Early step (step_events parts)) (stuck : Stuck (many parts step (0 ∷ []))) where
  abbrev All : List A → List TreeEvent
  All vs = flat_map parts vs

  put_begins : (v : A) (a : Answer (List A)) → Begins (visited All (led_answer (parts v)
      (and_then a (λ vs. give (v ∷ vs))))) (parts v)
  unfolding give
  put_begins v (Ok x) = (All x.0, refl)
  put_begins v (Err x) = (x.events, refl)

  goes : (o : Option A) (q : List ℕ) → Begins (visited All (go_on parts (many parts step) o q)) (step_events parts o)
  unfolding led bind
  goes None q = begins_all _
  goes (Some v) q = put_begins v (many parts step q)

  stuck_on : (o : Option A) → Stuck (go_on parts (many parts step) o (0 ∷ []))
  stuck_on None = stuck_give _
  stuck_on (Some v) = stuck_after _ _ (stuck_then _ _ stuck (λ vs. stuck_give _))

  -- so it is of shorter texts
  abbrev Shorter : ℕ → Type 0
  Shorter n = (t : List ℕ) (e : Fault) → length t < n → many parts step t ≡ Err e → e.exact ≡ false
      → Tells (many parts step) All t e.events

  at_step : (n : ℕ) → Shorter n → (t : List ℕ) (e : Fault) → length t < suc n → e.exact ≡ false
      → (a : Answer (Option A)) → step t ≡ a → and_then a (go_on parts (many parts step)) ≡ Err e
      → Tells (step >>= go_on parts (many parts step)) All t e.events
  unfolding led bind give
  at_step n ih t e less x (Ok (None, q)) k j = absurd cc
  at_step n ih t e less x (Ok (Some v, q)) k j =
      let shorter = c.consumes t q v k in
      tells_second _ _ _ _ _ _ _ l k (tells_alike (parts v) _ _ (λ s. alike_map (parts v) (λ vs. v ∷ vs) All _
      (λ vs. ([], sym (append-nil _))) _) _ _ j x (λ y i z. ih q y (omega (arith, less, shorter)) i z))
  at_step n ih t e less x (Err y) k j =
      let same : y ≡ e = cc in
      tells_first _ _ _ _ _ _ goes stuck_on (h.early t e (k ∙ ap (λ (y : Fault). Err y) same) x)

  within : (n : ℕ) → Shorter n
  unfolding bind
  within zero t e less i x = absurd (omega (arith, less))
  within (suc n) t e less i x = tells_after (many parts step) (step >>= go_on parts (many parts step)) All [] t e.events
      (λ q j. many_is parts step c q) (at_step n (within n) t e less x (step t) refl (cc (many_is parts step c t)))

  pub Early-many : Early (many parts step) All
  Early-many = record { early = λ t e i x. within (suc (length t)) t e (omega arith) i x }

  put_goes : (v : A) (q : List ℕ)
      → Begins (visited All (led (parts v) (many parts step >>= λ vs. give (v ∷ vs)) q)) (parts v)
  unfolding led bind
  put_goes v q = put_begins v (many parts step q)

  -- one and more
  pub Early-one_and_more : (one : Reader A) → Early one parts → Local one → Early (one_and_more parts one step) All
  Early-one_and_more one first local = Early-bind first local (λ v. Early-led_map _ _ (λ vs. ([], sym (append-nil _)))
      Early-many) put_goes (λ v. stuck_after _ _ (stuck_then _ _ stuck (λ vs. stuck_give _)))

-- fewer events
pub Early-more : {A : Type 0} {f : Reader A} {few parts : A → List TreeEvent}
    → ((v : A) → Begins (parts v) (few v)) → Early f few → Early f parts
Early-more {A} {f} {few} {parts} each = Early-alike [] few parts (λ s. on (f s))
  where
    on : (a : Answer A) → Alike [] few parts a a
    on (Ok x) = (x.0, refl, each x.0)
    on (Err x) = refl
