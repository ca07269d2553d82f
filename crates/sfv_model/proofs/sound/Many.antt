-- Step after step.
use Rattle.std.proofs.Common.{◌≡◌, ℕ, zero, suc, ◌+◌, ◌<◌, ◌≤◌, List, [], ◌∷◌, ◌++◌, length, Option, Some, None, Ok}
use Rattle.std.proofs.Common.{Err, refl, sym, ap, subst, ◌∙◌, append_assoc, arith, inl, inr, ◌⊎◌, flat_map, append-nil}
use Rattle.std.proofs.{Common.length-append, lemmas.List.append_cancel_right}
use Rattle.sfv_spec.specs.Events.{TreeEvent}
use Rattle.sfv_spec.specs.{Texts.IsJoining, declared.error_kind.ErrorKind.TheVariants.UnterminatedByteSequence}
use Rattle.sfv_model.specs.Judgements.{Sound, Lasts, Local}
use Rattle.sfv_model.specs.Reader.{Fault, Answer, Reader, after_events, and_then, give, ◌>>=◌, bind, led_answer, led}
use Rattle.sfv_model.specs.Reader.{go_on, many_within, many}
use Rattle.sfv_model.proofs.local.Combinators.{Local-give, Local-ruled, Local-led, Local-bind}
use Rattle.sfv_model.proofs.sound.Combinators.{sound_at, Sound-give, Sound-ruled, Sound-led, Sound-bind, Sound-map}
use Rattle.sfv_model.proofs.sound.Combinators.{Sound-weaker}
use Rattle.sfv_model.proofs.texts.Joining.{joining_none, joining_push, Joined, events_push, in_turn}

-- a step gives a value for its piece, or nothing for the closing text
abbrev pub Step : {A : Type 0} → (A → List ℕ → Type 0) → (List ℕ → Type 0) → Option A → List ℕ → Type 0
Step P E None s = E s
Step P E (Some v) s = P v s

pub record Consumes {A : Type 0} (step : Reader (Option A)) : Type 0 where
  pub consumes : (t r : List ℕ) (v : A) → step t ≡ Ok (Some v, r) → length r < length t

-- ---- sound

-- a step after the pieces of some values, whose events were visited
abbrev pub Behind : {A : Type 0} → (A → List TreeEvent) → (List ℕ → List TreeEvent → Type 0) → List ℕ → List A → List ℕ
    → List TreeEvent → Type 0
Behind parts W s vs u es = W (s ++ u) (flat_map parts vs ++ es)

abbrev pub Told : {A : Type 0} → (A → List TreeEvent) → (List TreeEvent → Type 0) → List A → List TreeEvent → Type 0
Told parts V vs es = V (flat_map parts vs ++ es)

module _ {A : Type 0} (P : A → List ℕ → Type 0) (E : List ℕ → Type 0)
    (W : List ℕ → List TreeEvent → Type 0) (V : List TreeEvent → Type 0) (parts : A
    → List TreeEvent) (step : Reader (Option A))
    (h : (s : List ℕ) (vs : List A) → IsJoining P vs s
    → Sound step (Step P E) (Behind parts W s vs) (Told parts V vs)) (z : (s : List ℕ) (vs : List A)
    → IsJoining P vs s → Told parts V vs []) where
  moved : (s u : List ℕ) (vs : List A) (x : List ℕ) (v : A) (es : List TreeEvent) → Behind parts W (s ++ u)
      (vs ++ v ∷ []) x es → (d : List ℕ) × W (s ++ (u ++ (x ++ d))) (flat_map parts vs ++ (parts v ++ es))
  moved s u vs x v es w = (
    [],
    rw (← append_assoc s u x ∙ ap (λ (l : List ℕ). s ++ (u ++ l)) (sym (append-nil x)))
        (rw (← events_push parts vs v es) w),
  )

  next : (more : Reader (List A)) → ((s : List ℕ) (vs : List A) → IsJoining P vs s
      → Sound more (Joined P E) (Behind parts W s vs) (Told parts V vs)) → (s : List ℕ) (vs : List A) → IsJoining P vs s
      → (u : List ℕ) (o : Option A) → Step P E o u
      → Sound (go_on parts more o) (λ w x. Joined P E w (u ++ x)) (λ x es. Behind parts W s vs (u ++ x) es)
      (Told parts V vs)
  next more k s vs j u None e = Sound-give [] _ _ _ (rw (append-nil u) e)
  next more k s vs j u (Some v) e = Sound-led _ (Sound-map _ (Sound-weaker (k (s ++ u) (vs ++ v ∷ [])
      (joining_push _ _ _ _ _ j e)) (λ ws x m. in_turn _ _ e m) (λ x es w. moved s u _ x _ _ w)
      (λ es w. rw (← events_push parts vs v es) w)))

  within : (n : ℕ) (s : List ℕ) (vs : List A) → IsJoining P vs s
      → Sound (many_within parts n step) (Joined P E) (Behind parts W s vs) (Told parts V vs)
  unfolding many_within
  within zero s vs j = Sound-ruled UnterminatedByteSequence _ _ _ refl (z s vs j)
  within (suc n) s vs j = Sound-bind (Step P E) step (go_on parts (many_within parts n step)) (Joined P E) _ _
      (h s vs j) (λ u o e. next (many_within parts n step) (λ s vs j. within n s vs j) s vs j u o e)

  pub Sound-many : Sound (many parts step) (Joined P E) W V
  unfolding many
  Sound-many = record { sound = λ t. (within (suc (length t)) [] [] (joining_none P)).sound t }

-- a step whose pieces are not empty
pub Consumes-from : {A : Type 0} (P : A → List ℕ → Type 0) (E : List ℕ → Type 0)
    (W : List ℕ → List TreeEvent → Type 0) (V : List TreeEvent → Type 0) (step : Reader (Option A))
    → Sound step (Step P E) W V → ((v : A) (s : List ℕ) → P v s → 1 ≤ length s) → Consumes step
Consumes-from P E W V step h k = record {
  consumes = λ t r v e. let m = sound_at h t (Ok (Some v, r)) e in
      let len = ap length m.1 in
      omega (arith, k v m.0 m.2, len, length-append m.0 r);
}

-- ---- what an answer of so many steps rests on

Local-go_on : {A : Type 0} (parts : A → List TreeEvent) (more : Reader (List A)) (o : Option A) → Local more
    → Local (go_on parts more o)
Local-go_on parts more None h = Local-give []
Local-go_on parts more (Some v) h = Local-led (parts v) _ (Local-bind more _ h (λ vs. Local-give (v ∷ vs)))

Local-many_within : {A : Type 0} {step : Reader (Option A)} (parts : A → List TreeEvent) (n : ℕ) → Local step
    → Local (many_within parts n step)
unfolding many_within
Local-many_within parts zero h = Local-ruled UnterminatedByteSequence
Local-many_within {step = step} parts (suc n) h = Local-bind step (go_on parts (many_within parts n step)) h
    (λ o. Local-go_on parts (many_within parts n step) o (Local-many_within parts n h))

-- an answer after a value that was read before
abbrev pub put : {A : Type 0} → (A → List TreeEvent) → A → Answer (List A) → Answer (List A)
put parts v a = led_answer (parts v) (and_then a (λ vs. give (v ∷ vs)))

-- values that were read before
abbrev pub in_front : {A : Type 0} → (A → List TreeEvent) → List A → Answer (List A) → Answer (List A)
in_front parts front (Ok x) = Ok (front ++ x.0, x.1)
in_front parts front (Err e) = Err (after_events (flat_map parts front) e)

pub regroup : {A : Type 0} (parts : A → List TreeEvent) (front : List A) (v : A) (a : Answer (List A))
    → in_front parts front (put parts v a) ≡ in_front parts (front ++ v ∷ []) a
unfolding give
regroup parts front v (Ok x) = ap (λ vs. Ok (vs, x.1)) (sym (append_assoc front (v ∷ []) x.0))
regroup parts front v (Err e) = ap (λ (es : List TreeEvent). Err (record {
  kind = e.kind;
  exact = e.exact;
  rest = e.rest;
  events = es;
})) (sym (events_push parts front v e.events))

pub starts : {A : Type 0} (parts : A → List TreeEvent) (a : Answer (List A)) → in_front parts [] a ≡ a
starts parts (Ok x) = refl
starts parts (Err e) = refl

-- a step gives a value, or nothing, or a fault
cases_step : {A : Type 0} (a : Answer (Option A)) → ((v : A) × (r : List ℕ) × (a ≡ Ok (Some v, r)))
    ⊎ (((r : List ℕ) × (a ≡ Ok (None, r))) ⊎ ((e : Fault) × (a ≡ Err e)))
cases_step (Ok (Some v, r)) = inl (v, r, refl)
cases_step (Ok (None, r)) = inr (inl (r, refl))
cases_step (Err e) = inr (inr (e, refl))

-- ---- enough steps are enough

module _ {A : Type 0} (parts : A → List TreeEvent) (step : Reader (Option A)) (c : Consumes step) where
  settle : (n m : ℕ) (t : List ℕ) → length t < n → length t < m
      → many_within parts n step t ≡ many_within parts m step t
  unfolding many_within bind led
  settle zero m t h k = absurd (omega arith)
  settle (suc n) zero t h k = absurd (omega arith)
  settle (suc n) (suc m) t h k = elim (cases_step (step t)) [
    | inl s ↦ let less : length s.1 < length t = c.consumes t s.1 s.0 s.2 in
        rw s.2 (ap (put parts s.0) (settle n m s.1 (omega arith) (omega arith)))
    | inr o ↦ elim o [ inl s ↦ rw s.1 refl | inr s ↦ rw s.1 refl ]
  ]

  pub many_is : (t : List ℕ) → many parts step t ≡ (step >>= go_on parts (many parts step)) t
  unfolding many many_within bind led
  many_is t = elim (cases_step (step t)) [
    | inl s ↦ let less : length s.1 < length t = c.consumes t s.1 s.0 s.2 in
        rw s.2 (ap (put parts s.0) (settle (length t) (suc (length s.1)) s.1 less (omega arith)))
    | inr o ↦ elim o [ inl s ↦ rw s.1 refl | inr s ↦ rw s.1 refl ]
  ]

  -- ---- what an answer rests on

  -- with any number of steps that is enough
  many_at : Local step → (t : List ℕ) (a : Answer (List A)) → many parts step t ≡ a → (n : ℕ) → length t < n
      → Lasts (many_within parts n step) t a
  unfolding many
  many_at h t a e n lt = subst (Lasts (many_within parts n step) t) (settle n (suc (length t)) t lt (omega arith) ∙ e)
      ((Local-many_within parts n h).lasts t)

  many_lasts : Local step → (t : List ℕ) (a : Answer (List A)) → many parts step t ≡ a → Lasts (many parts step) t a
  unfolding many
  many_lasts h t (Ok x) e = let w0 = many_at h t (Ok x) e (suc (length t)) (omega arith) in (
    w0.0,
    w0.1,
    λ r i. let m = suc (length t + length (w0.0 ++ r)) in
        let w = many_at h t (Ok x) e m (omega arith) in
        let same : w.0 ≡ w0.0 = append_cancel_right w.0 w0.0 x.1 (sym w.1 ∙ w0.1) in
        cc (settle (suc (length (w0.0 ++ r))) m (w0.0 ++ r) (omega arith) (omega arith), w.2 r i),
  )
  many_lasts h t (Err x) e = λ exact. let w0 = many_at h t (Err x) e (suc (length t)) (omega arith) exact in (
    w0.0,
    w0.1,
    λ r i. let m = suc (length t + length (w0.0 ++ r)) in
        let w = many_at h t (Err x) e m (omega arith) exact in
        let same : w.0 ≡ w0.0 = append_cancel_right w.0 w0.0 x.rest (sym w.1 ∙ w0.1) in
        let f = w.2 r i in
        (f.0, cc (settle (suc (length (w0.0 ++ r))) m (w0.0 ++ r) (omega arith) (omega arith), f.1)),
  )

  pub Local-many : Local step → Local (many parts step)
  Local-many h = record { lasts = λ t. many_lasts h t (many parts step t) refl }

  -- ---- pieces are read again

  pub many_complete : (P : A → List ℕ → Type 0) (E : List ℕ → Type 0) (F : List ℕ → Type 0) (q : List ℕ)
      → ((v : A) (a : List ℕ) (q : List ℕ) → P v a → F q → (step (a ++ q) ≡ Ok (Some v, q)) × F (a ++ q))
      → ((e : List ℕ) → E e → (step (e ++ q) ≡ Ok (None, q)) × F (e ++ q)) → (vs : List A) (s : List ℕ)
      → Joined P E vs s → (many parts step (s ++ q) ≡ Ok (vs, q)) × F (s ++ q)
  unfolding bind give led
  many_complete P E F q again stop [] s e = let w = stop s e in (many_is (s ++ q) ∙ rw w.0 refl, w.1)
  many_complete P E F q again stop (v ∷ vs) s j =
      let rest = many_complete P E F q again stop vs j.back j.second in
      let one = again v j.front (j.back ++ q) j.first rest.1 in
      let all : s ++ q ≡ j.front ++ (j.back ++ q) = simp (j.text, append_assoc) in
      (ap (many parts step) all ∙ many_is (j.front ++ (j.back ++ q)) ∙ rw (one.0, rest.0) refl, rw all one.1)

  -- ---- a loop that puts the values after a front

  pub goes_on : (front : List A) (v : A) (t r : List ℕ) (total : Answer (List A)) → step t ≡ Ok (Some v, r)
      → in_front parts front (many parts step t) ≡ total → in_front parts (front ++ v ∷ []) (many parts step r) ≡ total
  unfolding bind led
  goes_on front v t r total e so_far =
      let one : many parts step t ≡ put parts v (many parts step r) = many_is t ∙ rw e refl in
      sym (regroup parts front v (many parts step r)) ∙ ap (in_front parts front) (sym one) ∙ so_far

  pub is_done : (front : List A) (t r : List ℕ) (total : Answer (List A)) → step t ≡ Ok (None, r)
      → in_front parts front (many parts step t) ≡ total → total ≡ Ok (front, r)
  unfolding bind give
  is_done front t r total e so_far =
      let one : many parts step t ≡ Ok ([], r) = many_is t ∙ rw e refl in
      sym so_far ∙ ap (in_front parts front) one ∙ ap (λ (vs : List A). Ok (vs, r)) (append-nil front)

  pub is_faulty : (front : List A) (t : List ℕ) (f : Fault) (total : Answer (List A)) → step t ≡ Err f
      → in_front parts front (many parts step t) ≡ total → total ≡ Err (after_events (flat_map parts front) f)
  unfolding bind
  is_faulty front t f total e so_far =
      let one : many parts step t ≡ Err f = many_is t ∙ rw e refl in
      sym so_far ∙ ap (in_front parts front) one
