-- What a reader gives on a text of its kind, by what follows.
use Rattle.std.proofs.Common.{◌≡◌, ℕ, zero, suc, ◌<◌, ◌≤◌, Bool, true, false, List, [], ◌∷◌, ◌++◌, length, Option, Some}
use Rattle.std.proofs.Common.{Ok, refl, ap, ◌∙◌, arith}
use Rattle.sfv_spec.specs.{Events.TreeEvent, Texts.RunOf, declared.error_kind.ErrorKind.ErrorKind}
use Rattle.sfv_model.specs.Reader.{Apart, any, Reader, give, ◌>>=◌, bind, led_answer, led, branch, ahead, at_start}
use Rattle.sfv_model.specs.Reader.{back, up_to, span}
use Rattle.sfv_model.proofs.{local.Combinators.untaken, sound.Combinators.{run_head, run_tail}}

pub Apart-nil : (class : ℕ → Bool) → Apart class []
Apart-nil class = record { apart = λ c e. absurd cc }

pub Apart-cons : (class : ℕ → Bool) (c : ℕ) (q : List ℕ) → class c ≡ false → Apart class (c ∷ q)
Apart-cons class c q e = record { apart = λ d i. let same : c ≡ d = cc in rw (← same) e }

pub Apart-part : (class more : ℕ → Bool) (q : List ℕ) → ((c : ℕ) → more c ≡ false → class c ≡ false) → Apart more q
    → Apart class q
Apart-part class more q f h = record { apart = λ c e. f c (h.apart c e) }

pub branch_past : {A : Type 0} (class : ℕ → Bool) (taken : ℕ → Reader A) (other : Reader A) (q : List ℕ) → Apart class q
    → branch class taken other q ≡ other q
branch_past class taken other q h = untaken class taken other q h.apart

pub branch_take : {A : Type 0} (class : ℕ → Bool) (taken : ℕ → Reader A) (other : Reader A) (c : ℕ) (q : List ℕ)
    → class c ≡ true → branch class taken other (c ∷ q) ≡ taken c q
unfolding branch
branch_take class taken other c q e = rw e refl

pub ahead_past : {A : Type 0} (class : ℕ → Bool) (taken other : Reader A) (q : List ℕ) → Apart class q
    → ahead class taken other q ≡ other q
unfolding ahead
ahead_past class taken other [] h = refl
ahead_past class taken other (c ∷ q) h = rw (h.apart c refl) refl

pub ahead_take : {A : Type 0} (class : ℕ → Bool) (taken other : Reader A) (c : ℕ) (q : List ℕ) → class c ≡ true
    → ahead class taken other (c ∷ q) ≡ taken (c ∷ q)
unfolding ahead
ahead_take class taken other c q e = rw e refl

pub bind_complete : {A B : Type 0} (f : Reader A) (g : A → Reader B) (t q : List ℕ) (v : A) → f t ≡ Ok (v, q)
    → (f >>= g) t ≡ g v q
unfolding bind
bind_complete f g t q v e = rw e refl

-- at most n bytes: where n of them stand, any may follow
pub up_to_taken : (class : ℕ → Bool) (n : ℕ) (cs q : List ℕ) → RunOf class cs → length cs ≤ n
    → (length cs < n → Apart class q) → up_to class n (cs ++ q) ≡ Ok (cs, q)
unfolding up_to give bind
up_to_taken class zero [] q each le h = refl
up_to_taken class zero (c ∷ cs) q each le h = absurd (omega arith)
up_to_taken class (suc n) [] q each le h = branch_past _ _ _ _ (h (omega arith))
up_to_taken class (suc n) (c ∷ cs) q each le h = branch_take _ _ _ _ _ (run_head class c cs each) ∙ rw (up_to_taken
    class n cs q (run_tail class c cs each) (omega arith) (λ lt. h (omega arith))) refl

pub up_to_complete : (class : ℕ → Bool) (n : ℕ) (cs q : List ℕ) → RunOf class cs → length cs ≤ n → Apart class q
    → up_to class n (cs ++ q) ≡ Ok (cs, q)
up_to_complete class n cs q each le h = up_to_taken class n cs q each le (λ _. h)

pub span_complete : (class : ℕ → Bool) (cs q : List ℕ) → RunOf class cs → Apart class q
    → span class (cs ++ q) ≡ Ok (cs, q)
unfolding span give
span_complete class [] [] each h = refl
span_complete class [] (c ∷ q) each h = rw (h.apart c refl) refl
span_complete class (c ∷ cs) q each h = rw (
  run_head class c cs each,
  span_complete class cs q (run_tail class c cs each) h,
) refl

pub led_complete : {A : Type 0} (es : List TreeEvent) (f : Reader A) (t q : List ℕ) (v : A) → f t ≡ Ok (v, q)
    → led es f t ≡ Ok (v, q)
unfolding led
led_complete es f t q v e = ap (led_answer es) e

pub back_complete : {A : Type 0} (k : ErrorKind) (f : Reader (Option A)) (t q : List ℕ) (v : A) → f t ≡ Ok (Some v, q)
    → back k f t ≡ Ok (v, q)
unfolding back
back_complete k f t q v e = ap (at_start k t) e

pub ahead_any : {A : Type 0} (x y : Reader A) (t : List ℕ) → 1 ≤ length t → ahead any x y t ≡ x t
unfolding ahead
ahead_any x y [] h = absurd (omega arith)
ahead_any x y (c ∷ t) h = refl
