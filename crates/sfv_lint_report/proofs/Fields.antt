-- A report with one more line.
use Rattle.std.proofs.Common.{◌≡◌, ℕ, ◌+◌, ◌<◌, ◌≤◌, List, [], ◌∷◌, ◌++◌, Bool, true, length, take, get_or, refl, inl}
use Rattle.std.{proofs.Common.{inr, arith, zero, suc, All, map, take_all}, specs.List.list_any}
use Rattle.std.{specs.Str.{str_eq_ignore_ascii_case, str_to_ascii_lowercase}, proofs.lemmas.Grind.common_steps}
use Rattle.std.proofs.lemmas.{List.take_more, List.Elements.{All-append, All-map}, Slice.Eq.bytes_eq-Decides}
use Rattle.sfv.specs.Types.{Version}
use Rattle.sfv_lint_report.specs.Reports.{IsFieldOf, IsCovered, AreFieldsOf, IsWithLine, is_of_name}
use Rattle.sfv_lint_report.specs.declared.report.{Field.Field, Report.Report}

any_more : {A : Type 0} (p : A → Bool) (xs : List A) (x : A) → list_any p xs ≡ true → list_any p (xs ++ x ∷ []) ≡ true
any_more p xs x h = grind (arith, common_steps, h)

any_last : {A : Type 0} (p : A → Bool) (xs : List A) (x : A) → p x ≡ true → list_any p (xs ++ x ∷ []) ≡ true
any_last p xs x h = grind (arith, common_steps, h)

one_all : {A : Type 0} (P : A → Type 0) (x : A) → P x → All P (x ∷ [])
one_all {A} P x h = λ k d lt. only k d lt
  where
    only : (k : ℕ) (d : A) → k < length (x ∷ []) → P (get_or (x ∷ []) k d)
    only zero d lt = h
    only (suc k) d lt = absurd (omega (arith, lt))

same_name : (name : List ℕ) → str_eq_ignore_ascii_case name name ≡ true
same_name name = (bytes_eq-Decides (str_to_ascii_lowercase name) (str_to_ascii_lowercase name)).1 refl

module _ (version : Version) (lines : List (List ℕ × List ℕ)) (name : List ℕ) (old new : Report) where
  pub with_field : (field : Field) → new.fields.items ≡ old.fields.items ++ field ∷ [] → IsFieldOf version lines field
      → field.name.items ≡ name → IsWithLine version lines name old new
  with_field field more is named = record {
    fields = λ h. rw more (All-append (IsFieldOf version lines) old.fields.items (field ∷ []) h (one_all (IsFieldOf version lines) field is));
    covered = inl (rw more (any_last (is_of_name name) old.fields.items field (rw named (same_name name))));
    kept = λ other h. elim h [
      | inl any ↦ inl (rw more (any_more (is_of_name other) old.fields.items field any))
      | inr none ↦ inr none
    ];
  }

-- the step of the loop over the lines of a head
pub one_more_line : {A : Type 0} (f : A → List ℕ) (version : Version) (lines : List (List ℕ × List ℕ)) (xs : List A) (i : ℕ)
    (d : A) (old new : Report) → i < length xs → IsWithLine version lines (f (get_or xs i d)) old new
    → AreFieldsOf version lines old × All (λ x. IsCovered old (f x)) (take i xs)
    → AreFieldsOf version lines new × All (λ x. IsCovered new (f x)) (take (i + 1) xs)
one_more_line f version lines xs i d old new h with_line so_far = (
  with_line.fields so_far.0,
  rw (take_more xs i d h) (All-append (λ x. IsCovered new (f x)) (take i xs) (get_or xs i d ∷ [])
      (λ k e lt. with_line.kept (f (get_or (take i xs) k e)) (so_far.1 k e lt))
      (one_all (λ x. IsCovered new (f x)) (get_or xs i d) with_line.covered)),
)

-- each line of the head is covered
pub all_lines : {A : Type 0} (f : A → List ℕ × List ℕ) (report : Report) (xs : List A) (n : ℕ) → length xs ≤ n
    → All (λ x. IsCovered report (f x).0) (take n xs) → All (λ line. IsCovered report line.0) (map f xs)
all_lines f report xs n long h = All-map (λ line. IsCovered report line.0) f xs (rw (take_all n xs long) at h)
