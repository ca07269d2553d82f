-- Which readers pass no double quote: keys, spaces, and the delimiters of items and members.
use Rattle.std.proofs.Common.{◌≡◌, ℕ, Bool, true, false, not, cond, List, [], ◌∷◌, ◌++◌, Some, None, Option, Ok, Err}
use Rattle.std.proofs.Common.{refl, sym, ap, subst, ◌∙◌, append_assoc, ◌==◌, true≢false, eqb-true}
use Rattle.std.specs.{List.list_all, Prelude.⊤}
use Rattle.std.proofs.lemmas.{Bool.and_from, List.Folds.list_all-append}
use Rattle.sfv_spec.{specs.Texts.RunOf, proofs.Marks.{double_quote, is_space}}
use Rattle.sfv_model.specs.Fields.{comma_at}
use Rattle.sfv_model.specs.Reader.{Answer, Reader, and_then, give, fail, bind, ◌>>=◌, branch, ahead, at_start, back}
use Rattle.sfv_model.{specs.Reader.span, proofs.sound.Combinators.{Steady-span, run_cons, run_head, run_tail}}
use Rattle.sfv.specs.{Field.ErrorKind, Parsers.HasNoQuote}
use Rattle.sfv.specs.parser.{AsRead.Passes, Cursor.TakesIf, Members.{item_delimiter_at, member_delimiter_at}}

-- a byte of a class to which the quote does not belong
pub no_quote : (class : ℕ → Bool) (c : ℕ) → class double_quote ≡ false → class c ≡ true → not (c == double_quote) ≡ true
no_quote class c apart h = on (c == double_quote) refl
  where
    on : (b : Bool) → (c == double_quote) ≡ b → not b ≡ true
    on true e = absurd (true≢false (sym h ∙ ap class (eqb-true c double_quote e) ∙ apart))
    on false e = refl

pub run_apart : (class : ℕ → Bool) (s : List ℕ) → class double_quote ≡ false → RunOf class s → HasNoQuote s
run_apart class [] apart h = refl
run_apart class (c ∷ s) apart h = run_cons (λ c. not (c == double_quote)) c s
    (no_quote class c apart (run_head class c s h)) (run_apart class s apart (run_tail class c s h))

pub both_apart : (a b : List ℕ) → HasNoQuote a → HasNoQuote b → HasNoQuote (a ++ b)
both_apart a b h k = list_all-append (λ c. not (c == double_quote)) a b
    ∙ and_from (list_all (λ c. not (c == double_quote)) a) (list_all (λ c. not (c == double_quote)) b) h k

pub passes_none : (t : List ℕ) → Passes t t
passes_none t = ([], refl, refl)

pub passes_same : (t r : List ℕ) → r ≡ t → Passes t r
passes_same t r h = ([], sym h, refl)

pub passes_then : (t r q : List ℕ) → Passes t r → Passes r q → Passes t q
passes_then t r q h k = (
  h.0 ++ k.0,
  h.1 ∙ ap (λ (l : List ℕ). h.0 ++ l) k.1 ∙ sym (append_assoc h.0 k.0 q),
  both_apart h.0 k.0 h.2 k.2,
)

pub passes_byte : (class : ℕ → Bool) (c : ℕ) (r : List ℕ) → class double_quote ≡ false → class c ≡ true
    → Passes (c ∷ r) r
passes_byte class c r apart h =
    (c ∷ [], refl, run_cons (λ c. not (c == double_quote)) c [] (no_quote class c apart h) refl)

-- a byte of the class was consumed, or none
pub passes_if : (class : ℕ → Bool) (b : Bool) (t r : List ℕ) → class double_quote ≡ false → TakesIf class b t r
    → Passes t r
passes_if class true t r apart h = subst (λ (l : List ℕ). Passes l r) (sym h.1) (passes_byte class h.0 r apart h.2)
passes_if class false t r apart h = passes_same t r h.0

-- the same after other bytes
pub then_if : (class : ℕ → Bool) (b : Bool) (t r q : List ℕ) → class double_quote ≡ false → Passes t r
    → TakesIf class b r q → Passes t q
then_if class b t r q apart h k = passes_then t r q h (passes_if class b r q apart k)

-- no result, or one after bytes without a quote
abbrev Passed : {A : Type 0} → List ℕ → Answer A → Type 0
Passed t (Ok x) = Passes t x.1
Passed t (Err e) = ⊤

-- a reader that passes no quote
pub record Passing {A : Type 0} (f : Reader A) : Type 0 where
  pub passing : (t : List ℕ) → Passed t (f t)

pub passes : {A : Type 0} (f : Reader A) (t r : List ℕ) (v : A) → Passing f → f t ≡ Ok (v, r) → Passes t r
passes f t r v h e = subst (λ a. Passed t a) e (h.passing t)

Passing-give : {A : Type 0} (v : A) → Passing (give v)
unfolding give
Passing-give v = record { passing = λ t. passes_none t }

Passing-fail : {A : Type 0} (k : ErrorKind) → Passing {A = A} (fail k)
unfolding fail
Passing-fail k = record { passing = λ t. tt }

passed_after : {A : Type 0} (t r : List ℕ) (a : Answer A) → Passes t r → Passed r a → Passed t a
passed_after t r (Ok x) h k = passes_then t r x.1 h k
passed_after t r (Err e) h k = tt

passed_then : {A B : Type 0} (g : A → Reader B) (t : List ℕ) (a : Answer A) → ((v : A) → Passing (g v)) → Passed t a
    → Passed t (and_then a g)
passed_then g t (Ok x) h k = passed_after t x.1 (g x.0 x.1) k ((h x.0).passing x.1)
passed_then g t (Err e) h k = tt

Passing-bind : {A B : Type 0} (f : Reader A) (g : A → Reader B) → Passing f → ((v : A) → Passing (g v))
    → Passing (f >>= g)
unfolding bind
Passing-bind f g h k = record { passing = λ t. passed_then g t (f t) k (h.passing t) }

passed_cond : {A : Type 0} (b : Bool) (t : List ℕ) (x y : Answer A) → (b ≡ true → Passed t x) → Passed t y
    → Passed t (cond b x y)
passed_cond true t x y h k = h refl
passed_cond false t x y h k = k

Passing-branch : {A : Type 0} (class : ℕ → Bool) (taken : ℕ → Reader A) (other : Reader A)
    → class double_quote ≡ false → ((c : ℕ) → Passing (taken c)) → Passing other → Passing (branch class taken other)
unfolding branch
Passing-branch {A} class taken other apart h k =
    let at : (t : List ℕ) → Passed t (branch class taken other t) =
    λ t. elim t as (λ (t : List ℕ). Passed t (branch class taken other t)) [
      | [] ↦ k.passing []
      | c ∷ r ↦ passed_cond (class c) (c ∷ r) (taken c r) (other (c ∷ r)) (λ e. passed_after
          (c ∷ r) r (taken c r) (passes_byte class c r apart e) ((h c).passing r)) (k.passing (c ∷ r))
    ] in record { passing = at }

Passing-ahead : {A : Type 0} (class : ℕ → Bool) (taken other : Reader A) → Passing taken → Passing other
    → Passing (ahead class taken other)
unfolding ahead
Passing-ahead {A} class taken other h k =
    let at : (t : List ℕ) → Passed t (ahead class taken other t) =
    λ t. elim t as (λ (t : List ℕ). Passed t (ahead class taken other t)) [
      | [] ↦ k.passing []
      | c ∷ r ↦ passed_cond _ _ _ _ (λ e. h.passing (c ∷ r)) (k.passing (c ∷ r))
    ] in record { passing = at }

passed_start : {A : Type 0} (k : ErrorKind) (t : List ℕ) (a : Answer (Option A)) → Passed t a
    → Passed t (at_start k t a)
passed_start k t (Ok (Some v, r)) h = h
passed_start k t (Ok (None, r)) h = tt
passed_start k t (Err e) h = tt

Passing-back : {A : Type 0} (k : ErrorKind) (f : Reader (Option A)) → Passing f → Passing (back k f)
unfolding back
Passing-back k f h = record { passing = λ t. passed_start k t (f t) (h.passing t) }

pub Passing-span : (class : ℕ → Bool) → class double_quote ≡ false → Passing (span class)
Passing-span class apart = record {
  passing = λ t. let m = (Steady-span class).steady t in
      subst (λ a. Passed t a) (sym m.3) (m.0, m.4, subst HasNoQuote (sym m.5.0) (run_apart class m.1 apart m.5.1));
}

pub Passing-item_delimiter : Passing item_delimiter_at
unfolding item_delimiter_at
Passing-item_delimiter = Passing-branch _ _ _ refl (λ _. Passing-bind _ _
    (Passing-span _ refl) (λ _. Passing-branch _ _ _ refl (λ _. Passing-give _) (Passing-give _)))
    (Passing-branch _ _ _ refl (λ _. Passing-give _) (Passing-ahead _ _ _ (Passing-fail _) (Passing-fail _)))

Passing-comma : Passing comma_at
unfolding comma_at
Passing-comma = Passing-branch _ _ _ refl (λ _. Passing-bind _ _ (Passing-span _ refl)
    (λ _. Passing-ahead _ _ _ (Passing-give (Some tt)) (Passing-give _))) (Passing-give _)

pub Passing-member_delimiter : Passing member_delimiter_at
unfolding member_delimiter_at
Passing-member_delimiter = Passing-bind _ _ (Passing-span _ refl) (λ _. Passing-ahead _ _ _ (Passing-ahead _ _ _
    (Passing-bind _ _ (Passing-back _ _ Passing-comma) (λ _. Passing-give _)) (Passing-fail _)) (Passing-give _))

-- after spaces
pub passes_spaces : (t s r : List ℕ) → span is_space t ≡ Ok (s, r) → Passes t r
passes_spaces t s r e = passes (span is_space) t r s (Passing-span is_space refl) e
