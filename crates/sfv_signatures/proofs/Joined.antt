-- Lines that are joined.
use Rattle.std.proofs.Common.{◌≡◌, ℕ, Bool, true, false, List, [], ◌∷◌, ◌++◌, refl, sym, ◌∙◌, ap, inl, inr}
use Rattle.std.{proofs.Common.{append_assoc, append-nil, codes, nat_lt, Ok, Err, IsUtf8}, specs.List.list_all}
use Rattle.std.proofs.lemmas.{Bool.{and_parts, and_from}, Str.IsUtf8-from_ascii}
use Rattle.sfv.specs.{Texts.joined, Written.{with_separators, separator_before}}
use Rattle.sfv_signatures.specs.{Components.UnlessMemory, SignatureBase.{checked, IsChecked}}
use Rattle.sfv_signatures.{specs.declared.base_error.BaseErrorKind.BaseErrorKind, proofs.Ascii.ascii_from}
use Rattle.sfv_signatures.specs.declared.base_error.BaseErrorKind.TheVariants as kinds

-- ---- parts with a separator between neighbours

separated : (s x : List ℕ) (xs : List (List ℕ)) → joined s (x ∷ xs) ≡ x ++ with_separators false s xs
separated s x [] = sym (append-nil x)
separated s x (y ∷ xs) = ap (λ (t : List ℕ). (x ++ s) ++ t) (separated s y xs) ∙ append_assoc x s (y
    ++ with_separators false s xs) ∙ ap (λ (t : List ℕ). x ++ t) (sym (append_assoc s y (with_separators false s xs)))

pub joined_parts : (s : List ℕ) (xs : List (List ℕ)) → joined s xs ≡ with_separators true s xs
joined_parts s [] = refl
joined_parts s (x ∷ xs) = separated s x xs

pub end_joined : (t u : List ℕ) (xs : List (List ℕ)) → t ++ [] ≡ u ++ with_separators true (codes ", ") xs
    → t ≡ u ++ joined (codes ", ") xs
end_joined t u xs h = sym (append-nil t) ∙ h ∙ ap (λ (s : List ℕ). u ++ s) (sym (joined_parts (codes ", ") xs))

-- ---- steps of a loop that may fail

-- the text after `old` has the parts before those that are left
pub record IsSoFar (old new : List ℕ) (is_first : Bool) (left all : List (List ℕ)) : Type 0 where
  pub done : List ℕ
  pub text : new ≡ old ++ done
  pub whole : done ++ with_separators is_first (codes ", ") left ≡ with_separators true (codes ", ") all

pub all_joined : (old new : List ℕ) (is_first : Bool) (all : List (List ℕ)) → IsSoFar old new is_first [] all
    → new ≡ old ++ joined (codes ", ") all
all_joined old new is_first all so_far =
    let done : so_far.done ≡ joined (codes ", ") all =
    sym (append-nil so_far.done) ∙ so_far.whole ∙ sym (joined_parts (codes ", ") all) in
    so_far.text ∙ ap (λ (t : List ℕ). old ++ t) done

-- ---- a part that is not UTF-8

ascii_part : (a b : List ℕ) → list_all (λ c. nat_lt c 128) (a ++ b) ≡ true
    → (list_all (λ c. nat_lt c 128) a ≡ true) × (list_all (λ c. nat_lt c 128) b ≡ true)
ascii_part [] b h = (refl, h)
ascii_part (c ∷ a) b h =
    let p = and_parts (nat_lt c 128) (list_all (λ c. nat_lt c 128) (a ++ b)) h in
    let q = ascii_part a b p.1 in (and_from (nat_lt c 128) (list_all (λ c. nat_lt c 128) a) p.0 q.0, q.1)

pub part_checked : (old new : List ℕ) (is_first : Bool) (x : List ℕ) (left all : List (List ℕ))
    → IsSoFar old new is_first (x ∷ left) all → (IsUtf8 x → ⊥)
    → Err kinds.NotAscii ≡ checked (Ok (joined (codes ", ") all))
part_checked old new is_first x left all so_far other = go (list_all (λ c. nat_lt c 128) (joined (codes ", ") all)) refl
  where
    sep : List ℕ
    sep = separator_before is_first (codes ", ")

    rest : List ℕ
    rest = with_separators false (codes ", ") left

    split : joined (codes ", ") all ≡ so_far.done ++ ((sep ++ x) ++ rest)
    split = joined_parts (codes ", ") all ∙ sym so_far.whole

    go : (b : Bool) → list_all (λ c. nat_lt c 128) (joined (codes ", ") all) ≡ b
        → Err kinds.NotAscii ≡ checked (Ok (joined (codes ", ") all))
    go true e =
        let p = ascii_part so_far.done ((sep ++ x) ++ rest) (ap (list_all (λ c. nat_lt c 128)) (sym split) ∙ e) in
        absurd (other (IsUtf8-from_ascii x (ascii_from x (ascii_part sep x (ascii_part (sep ++ x) rest p.1).0).1)))
    go false e = rw e refl

-- the error of a line, as the error of the value
pub plain_fault : (old new : List ℕ) (is_first : Bool) (x : List ℕ) (left all : List (List ℕ)) (kind e : BaseErrorKind)
    → IsSoFar old new is_first (x ∷ left) all → UnlessMemory (λ kind. (kind ≡ kinds.NotAscii) × (IsUtf8 x → ⊥)) kind
    → kind ≡ e → UnlessMemory (λ k. IsChecked (λ r. r ≡ Ok (joined (codes ", ") all)) (Err k)) e
plain_fault old new is_first x left all kind e so_far (inl memory) same = inl (sym same ∙ memory)
plain_fault old new is_first x left all kind e so_far (inr h) same = inr (
  Ok (joined (codes ", ") all),
  refl,
  ap Err (sym same ∙ h.0) ∙ part_checked old new is_first x left all so_far h.1,
)
