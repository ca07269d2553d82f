-- The lines of the first identifiers.
use Rattle.std.proofs.Common.{◌≡◌, ℕ, ◌+◌, ◌<◌, zero, suc, List, [], ◌∷◌, ◌++◌, length, map, take, refl, sym, ◌∙◌, ap}
use Rattle.std.proofs.Common.{append_assoc, inl, inr, subst, arith, flat_map, codes, slice_get, option_map, Some, Ok}
use Rattle.std.proofs.Common.{Err, zip, slice_index_or, append-nil}
use Rattle.std.proofs.lemmas.{List.take-map, Option.{slice_get-map, slice_get_read}}
use Rattle.sfv.specs.Values.{RawItem, RawInnerList}
use Rattle.sfv_signatures.specs.Components.{UnlessMemory, HasAppended, IsBaseError}
use Rattle.sfv_signatures.specs.SignatureBase.{Message, component_line, Gives, HaveValues, BreaksFirst}
use Rattle.sfv_signatures.specs.declared.base_error.{BaseError.BaseError, BaseErrorKind.BaseErrorKind}
use Rattle.sfv_signatures.proofs.Rules.{values_snoc, values_counted}

-- a line with its line feed
abbrev fed_line : RawItem × List ℕ → List ℕ
fed_line c = component_line c ++ codes "\n"

-- t has the lines of these identifiers
pub record HasLines (message : Message) (is : List RawItem) (t : List ℕ) : Type 0 where
  pub values : List (List ℕ)
  pub found : HaveValues message [] is values
  pub text : t ≡ flat_map fed_line (zip is values)

zip_snoc : (is : List RawItem) (vs : List (List ℕ)) (i : RawItem) (v : List ℕ) → length vs ≡ length is
    → flat_map fed_line (zip (is ++ i ∷ []) (vs ++ v ∷ [])) ≡ flat_map fed_line (zip is vs) ++ fed_line (i, v)
zip_snoc [] [] i v h = simp append-nil refl
zip_snoc [] (w ∷ vs) i v h = absurd (omega (arith, h))
zip_snoc (j ∷ is) [] i v h = absurd (omega (arith, h))
zip_snoc (j ∷ is) (w ∷ vs) i v h = ap (λ t. fed_line (j, w) ++ t) (zip_snoc is vs i v (omega (arith, h)))
    ∙ sym (append_assoc (fed_line (j, w)) (flat_map fed_line (zip is vs)) (fed_line (i, v)))

pub one_more : (message : Message) (is : List RawItem) (i : RawItem) (v t u : List ℕ) → HasLines message is t
    → Gives message is i (Ok v) → u ≡ t ++ (component_line (i, v) ++ codes "\n") → HasLines message (is ++ i ∷ []) u
one_more message is i v t u h k e = record {
  values = h.values ++ v ∷ [];
  found = values_snoc message [] is h.values i v h.found k;
  text = e ∙ ap (λ s. s ++ fed_line (i, v)) h.text
      ∙ sym (zip_snoc is h.values i v (values_counted message [] is h.values h.found));
}

-- ---- the identifier at an index

take_next : {A : Type 0} (xs : List A) (n : ℕ) (x : A) → slice_get xs n ≡ Some x → take (suc n) xs ≡ take n xs ++ x ∷ []
take_next [] n x h = absurd (cc)
take_next (y ∷ xs) zero x h = cc
take_next {A} (y ∷ xs) (suc n) x h = ap (λ (t : List A). y ∷ t) (take_next xs n x h)

-- the lines before an index, and the line at it
pub step_more : (message : Message) (l : RawInnerList) (n : ℕ) (t u : List ℕ) → HasLines message (take n l.items) t
    → (i : RawItem) × (slice_get l.items n ≡ Some i) × HasAppended message (take n l.items) i t u
    → HasLines message (take (n + 1) l.items) u
step_more message l n t u lines (i, at, (v, value, text)) =
    let next : take (suc n) l.items ≡ take n l.items ++ i ∷ [] = take_next l.items n i at in
    let same : n + 1 ≡ suc n = omega arith in
    subst (λ (is : List RawItem). HasLines message is u) (sym (ap (λ m. take m l.items) same ∙ next))
    (one_more message (take n l.items) i v t u lines value text)

-- the lines before an index, and the rule that the identifier at it breaks
pub step_fault : (message : Message) (l : RawInnerList) (n : ℕ) (t : List ℕ) (kind : BaseErrorKind)
    → HasLines message (take n l.items) t
    → UnlessMemory (λ kind. (i : RawItem) × (slice_get l.items n ≡ Some i) × Gives message (take n l.items) i (Err kind))
    kind → UnlessMemory (λ kind. BreaksFirst message l kind n) kind
step_fault message l n t kind lines (inl memory) = inl memory
step_fault message l n t kind lines (inr (i, at, rule)) = inr (i, at, rule, (lines.values, lines.found))

-- the error at an index, after the lines before it
pub error_at : (message : Message) (l : RawInnerList) (n : ℕ) (t : List ℕ) (e : BaseError)
    → HasLines message (take n l.items) t
    → UnlessMemory (λ kind. (i : RawItem) × (slice_get l.items n ≡ Some i) × Gives message (take n l.items) i (Err kind))
    e.kind → e.index ≡ n → IsBaseError message l e
error_at message l n t e lines h here = subst (λ m. UnlessMemory (λ kind. BreaksFirst message l kind m) e.kind) (sym here)
    (step_fault message l n t e.kind lines h)

-- ---- the items xs, seen as raw items

module _ {A : Type 0} (f : A → RawItem) (message : Message) (xs zs : List A) (n : ℕ) (x : A) (e : zs ≡ xs)
    (h : n < length xs) (k : x ≡ slice_index_or xs n x) where
  here : slice_get (map f xs) n ≡ Some (f x)
  here = slice_get-map f xs n ∙ ap (option_map f) (slice_get_read xs (length xs) n x refl h k)

  before : map f (take n zs) ≡ take n (map f xs)
  before = ap (λ (s : List A). map f (take n s)) e ∙ sym (take-map f n xs)

  pub appended_at : (old new : List ℕ) → HasAppended message (map f (take n zs)) (f x) old new
      → (i : RawItem) × (slice_get (map f xs) n ≡ Some i) × HasAppended message (take n (map f xs)) i old new
  appended_at old new a = (f x, here, subst (λ (is : List RawItem). HasAppended message is (f x) old new) before a)

  pub broken_at : (kind : BaseErrorKind)
      → UnlessMemory (λ kind. Gives message (map f (take n zs)) (f x) (Err kind)) kind
      → UnlessMemory (λ kind. (i : RawItem) × (slice_get (map f xs) n ≡ Some i)
      × Gives message (take n (map f xs)) i (Err kind)) kind
  broken_at kind (inl memory) = inl memory
  broken_at kind (inr b) = inr (f x, here, subst (λ (is : List RawItem). Gives message is (f x) (Err kind)) before b)
