-- The runs that fail.
use Rattle.std.proofs.Common.{◌≡◌, ℕ, zero, suc, ◌+◌, ◌<◌, ◌≤◌, List, [], ◌∷◌, ◌++◌, Bool, true, false, length, take}
use Rattle.std.{proofs.Common.{get_or, refl, sym, ◌∙◌, inl, inr, arith, take_all}, specs.List.list_any}
use Rattle.std.proofs.lemmas.{Bool.cases_Bool, Grind.common_steps, List.take_more}
use Rattle.sfv_lint_report.specs.{Reports.has_error, declared.report.Field.Field}
use Rattle.sfv_lint_output.specs.Runs.{IsFailed}

any_at : {A : Type 0} (p : A → Bool) (xs : List A) (i : ℕ) (d : A) → i < length xs → p (get_or xs i d) ≡ true
    → list_any p xs ≡ true
any_at p [] i d h is = absurd (omega (arith, h))
any_at p (x ∷ xs) zero d h is = rw is refl
any_at p (x ∷ xs) (suc i) d h is = let rest : list_any p xs ≡ true = any_at p xs i d (omega (arith, h)) is in
    grind (arith, common_steps, rest)

any_one : {A : Type 0} (p : A → Bool) (x : A) → list_any p (x ∷ []) ≡ p x
any_one p x = elim (cases_Bool (p x)) [ inl t ↦ rw t refl | inr f ↦ rw f refl ]

none_more : {A : Type 0} (p : A → Bool) (xs : List A) (x : A) → list_any p xs ≡ false → p x ≡ false
    → list_any p (xs ++ x ∷ []) ≡ false
none_more p xs x h is = grind (arith, common_steps, h)

module _ (strict : Bool) (field : Field) where
  pub field_failed : has_error field ≡ true → IsFailed strict (field ∷ []) true
  field_failed bad = record { with_error = λ e. refl; only = λ e. sym (any_one has_error field ∙ bad) }

  pub only_if_strict : (failed : Bool) → has_error field ≡ false → (strict ≡ false → failed ≡ false)
      → IsFailed strict (field ∷ []) failed
  only_if_strict failed good h = record {
    with_error = λ e. let f : false ≡ true = sym (any_one has_error field ∙ good) ∙ e in absurd (cc);
    only = λ e. h e ∙ sym (any_one has_error field ∙ good);
  }

module _ (strict : Bool) (fields : List Field) where
  pub failed_here : (i : ℕ) (d : Field) → i < length fields → IsFailed strict (get_or fields i d ∷ []) true
      → IsFailed strict fields true
  failed_here i d h one = record {
    with_error = λ e. refl;
    only = λ e. sym (any_at has_error fields i d h (sym (any_one has_error (get_or fields i d)) ∙ sym (one.only e)));
  }

  pub passed_here : (i : ℕ) (d : Field) → i < length fields → IsFailed strict (get_or fields i d ∷ []) false
      → list_any has_error (take i fields) ≡ false → list_any has_error (take (i + 1) fields) ≡ false
  passed_here i d h one so_far = rw (take_more fields i d h) (none_more has_error (take i fields) (get_or fields i d) so_far
      (elim (cases_Bool (has_error (get_or fields i d))) [
        | inl bad ↦ let f : false ≡ true = one.with_error (any_one has_error (get_or fields i d) ∙ bad) in absurd (cc)
        | inr good ↦ good
      ]))

  pub none_failed : (n : ℕ) → length fields ≤ n → list_any has_error (take n fields) ≡ false → IsFailed strict fields false
  none_failed n long h = let none : list_any has_error fields ≡ false = rw (take_all n fields long) at h in record {
    with_error = λ e. absurd (cc);
    only = λ e. sym none;
  }
