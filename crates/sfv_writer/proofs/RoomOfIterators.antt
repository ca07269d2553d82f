-- Room for parts that an iterator gives one after another.
use Rattle.std.proofs.Common.{◌≡◌, ◌≤◌, ◌+◌, ℕ, Bool, true, false, List, [], ◌∷◌, ◌++◌, length, map, string_bytes}
use Rattle.std.proofs.Common.{string_capacity, refl, sym, ap, subst, ◌∙◌, arith, Result, Ok, Err, Option, Some, IfErr}
use Rattle.std.proofs.Common.{IsErrAnd, Bor, length-append}
use Rattle.std.specs.{Iterator.{Yields, Drains}, Map.Iter.{TakesFirst, ShowsInOrder, deref_pair}}
use Rattle.std.{specs.declared.string.String.String, proofs.iter.Next.Yields-more}
use Rattle.std.proofs.lemmas.{List.map-append, List.Concat.flat_map-append, Simd.map-map}
use Rattle.sfv_spec.specs.Canonical.{parameters_text}
use Rattle.sfv_spec.specs.{Texts.joined, Values.{BareValue, RawParameters, AllFit}, declared.version.Version.Version}
use Rattle.sfv_values.specs.BareItems.{bare_value}
use Rattle.sfv_tree.specs.Trees.{OwnedBareItem, pairs_tree}
use Rattle.sfv_writer.specs.{Pairs.lent_pairs, Versions.{NamesFirstUnfit, LacksAmong, parameter_pairs, parts_text}}
use Rattle.sfv_writer.specs.Written.{LacksRoom, separator_before, with_separators, is_first_after, param_text}
use Rattle.sfv_writer.specs.declared.serialize_error.SerializeError.{SerializeError}
use Rattle.sfv_writer.proofs.{Checks.at_exit, Elements.text_as, Lent.{lent_all, pairs_front}}
use Rattle.sfv_writer.proofs.{Parameters.{parameters_push, lent_push}, Room.{room_after, room_before, room_shorter}}
use Rattle.sfv_writer.proofs.Separated.{in_a_row_first, is_first_after-false}

-- ---- what an iterator gives

module _ {S A Z T : Type 0} (steps : S → Option A → S → Type 0) (s : S) (values : List A → List BareValue)
    (version : Version) (old : String Z) (text : List A → List ℕ) (r : Result T SerializeError) where
  -- a value that the version lacks is not out of memory
  pub named_lacks : (bs : List BareValue) (e : SerializeError) → IsErrAnd r (λ y. y ≡ e) → NamesFirstUnfit version bs e
      → IfErr r (LacksAmong steps s values version old text)
  named_lacks bs e exit names = at_exit r e _ _ exit (λ is. let named = names.2 in cc)

-- it gave one more, and there is no room for all
pub lacks_among : {S A Z T : Type 0} (steps : S → Option A → S → Type 0) (s t u : S) (values : List A → List BareValue)
    (version : Version) (old : String Z) (text : List A → List ℕ) (r : Result T SerializeError) (xs : List A) (x : A)
    → Yields steps s xs t → steps t (Some x) u → AllFit version (values (xs ++ x ∷ []))
    → LacksRoom old (text (xs ++ x ∷ [])) → IfErr r (LacksAmong steps s values version old text)
lacks_among steps s t u values version old text (Ok v) xs x ran step fit room = tt
lacks_among steps s t u values version old text (Err e) xs x ran step fit room =
    λ _. (xs ++ x ∷ [], u, Yields-more steps s xs t x u ran step, fit, room)

-- there is no room for what was given before it
pub lacks_at_first : {S A Z T : Type 0} (steps : S → Option A → S → Type 0) (s : S) (values : List A → List BareValue)
    (version : Version) (old : String Z) (text : List A → List ℕ) (r : Result T SerializeError)
    → AllFit version (values []) → LacksRoom old (text []) → IfErr r (LacksAmong steps s values version old text)
lacks_at_first steps s values version old text (Ok v) fit room = tt
lacks_at_first steps s values version old text (Err e) fit room = λ _. ([], s, refl, fit, room)

-- what it gave first, and the rest, are what it gave
pub lacks_from_first : {S A Z T : Type 0} (steps : S → Option A → S → Type 0) (s : S) (x : A) (rest : S)
    (values : List A → List BareValue) (version : Version) (old : String Z) (text : List A → List ℕ)
    (r : Result T SerializeError) → steps s (Some x) rest
    → IfErr r (LacksAmong steps rest (λ taken. values (x ∷ taken)) version old (λ taken. text (x ∷ taken)))
    → IfErr r (LacksAmong steps s values version old text)
lacks_from_first steps s x rest values version old text (Ok v) step h = tt
lacks_from_first steps s x rest values version old text (Err e) step h =
    λ is. let p = h is in (x ∷ p.0, p.1, (rest, step, p.2), p.3, p.4)

-- no room for the elements after a first, which the version has and which is written
pub lacks_after : {S A Z T : Type 0} (steps : S → Option A → S → Type 0) (rest : S) (values : List A → List BareValue)
    (version : Version) (b : BareValue) (old mid : String Z) (first : List ℕ) (text : List A → List ℕ)
    (r : Result T SerializeError) → AllFit version (b ∷ []) → string_bytes mid ≡ string_bytes old ++ first
    → string_capacity old ≤ string_capacity mid → IfErr r (LacksAmong steps rest values version mid text)
    → IfErr r (LacksAmong steps rest (λ taken. b ∷ values taken) version old (λ taken. first ++ text taken))
lacks_after steps rest values version b old mid first text (Ok v) f e c h = tt
lacks_after steps rest values version b old mid first text (Err x) f e c h =
    λ is. let p = h is in (p.0, p.1, p.2, (f.0, p.3), room_after old mid first (text p.0) e c p.4)

-- ---- parts in order

-- the length of parts in order
row_cons : (s : List ℕ) (b : Bool) (x : List ℕ) (xs : List (List ℕ))
    → length (with_separators b s (x ∷ xs)) ≡ length (separator_before b s) + (length x + length (with_separators false s xs))
row_cons s b x xs =
    let after : List ℕ = with_separators false s xs in
    let whole : length (with_separators b s (x ∷ xs)) ≡ length ((separator_before b s ++ x) ++ after) = refl in
    omega (arith, whole, length-append (separator_before b s ++ x) after, length-append (separator_before b s) x)

-- some parts, the separator and another part are no longer than with further parts
pub row_len : (s : List ℕ) (b : Bool) (xs : List (List ℕ)) (x : List ℕ) (rest : List (List ℕ))
    → length (with_separators b s xs) + length (separator_before (is_first_after b xs) s) + length x ≤ length (with_separators b s (xs ++ x ∷ rest))
row_len s b [] x rest =
    let none : length (with_separators b s []) ≡ 0 = refl in
    let first : length (separator_before (is_first_after {A = List ℕ} b []) s) ≡ length (separator_before b s) = refl in
    let all : length (with_separators b s ([] ++ x ∷ rest)) ≡ length (separator_before b s) + (length x + length (with_separators false s rest)) =
    row_cons s b x rest in
    omega (arith, none, first, all)
row_len s b (y ∷ ys) x rest =
    let next : length (separator_before (is_first_after b (y ∷ ys)) s) ≡ length (separator_before (is_first_after false ys) s) =
    ap (λ (f : Bool). length (separator_before f s)) (sym (is_first_after-false ys)) in
    let all : length (with_separators b s ((y ∷ ys) ++ x ∷ rest))
    ≡ length (separator_before b s) + (length y + length (with_separators false s (ys ++ x ∷ rest))) = row_cons s b y (ys ++ x ∷ rest) in
    omega (arith, row_len s false ys x rest, next, all, row_cons s b y ys)

row_front : (s : List ℕ) (b : Bool) (xs ys : List (List ℕ)) → length (with_separators b s xs) ≤ length (with_separators b s (xs ++ ys))
row_front s b [] ys = let none : length (with_separators b s []) ≡ 0 = refl in omega (arith, none)
row_front s b (x ∷ xs) ys =
    let all : length (with_separators b s ((x ∷ xs) ++ ys))
    ≡ length (separator_before b s) + (length x + length (with_separators false s (xs ++ ys))) = row_cons s b x (xs ++ ys) in
    omega (arith, row_front s false xs ys, all, row_cons s b x xs)

-- borrowed parts, before others
pub front_lacks : {Z A B : Type 0} (lent : A → B) (text_of : B → List ℕ) (s : List ℕ) (old : String Z) (xs : List A)
    (ys more : List B) → ys ≡ map lent xs ++ more → LacksRoom old (with_separators true s (map (λ x. text_of (lent x)) xs))
    → LacksRoom old (joined s (map text_of ys))
front_lacks lent text_of s old xs ys more is h =
    let front : List (List ℕ) = map text_of (map lent xs) in
    let whole : map text_of ys ≡ front ++ map text_of more = ap (map text_of) is ∙ map-append text_of (map lent xs) more in
    let short : length (with_separators true s front) ≤ length (with_separators true s (front ++ map text_of more)) =
    row_front s true front (map text_of more) in
    room_shorter old (with_separators true s (map (λ x. text_of (lent x)) xs)) (joined s (map text_of ys))
    (rw (sym (map-map text_of lent xs), whole, sym (in_a_row_first s (front ++ map text_of more))) short) h

-- ---- the elements of a map or a slice, some of which were taken

-- no room for the parameters that were taken
pub pairs_lack : {Z : Type 0} (old : String Z) (s t : List (List ℕ × OwnedBareItem))
    (taken : List (Bor (List ℕ) × Bor OwnedBareItem)) → Yields (TakesFirst deref_pair) s taken t
    → LacksRoom old (parameters_text (lent_pairs taken)) → LacksRoom old (parameters_text (pairs_tree s))
pairs_lack old s t taken ran h =
    let front : RawParameters = lent_pairs taken in
    let whole : parameters_text (pairs_tree s) ≡ parameters_text front ++ parameters_text (pairs_tree t) =
    ap parameters_text (pairs_front s t taken ran) ∙ flat_map-append (λ p. param_text p.0 p.1) front (pairs_tree t) in
    subst (λ (l : List ℕ). LacksRoom old l) (sym whole)
    (room_before old (parameters_text front) (parameters_text (pairs_tree t)) h)

pub parameters_lack : {Z : Type 0} (old : String Z) (s t : List (List ℕ × OwnedBareItem))
    (taken : List (Bor (List ℕ) × Bor OwnedBareItem)) → Yields (TakesFirst deref_pair) s taken t
    → LacksRoom old (parts_text parameter_pairs [] true taken) → LacksRoom old (parameters_text (pairs_tree s))
parameters_lack old s t taken ran h =
    pairs_lack old s t taken ran (subst (λ (l : List ℕ). LacksRoom old l) (text_as true taken) h)

-- all parameters of a map were taken
pub parameters_all : (es : List (List ℕ × OwnedBareItem)) (taken : List (Bor (List ℕ) × Bor OwnedBareItem))
    → ShowsInOrder (deref_pair {K = List ℕ} {X = OwnedBareItem}) → Drains (TakesFirst deref_pair) es taken
    → parts_text parameter_pairs [] true taken ≡ parameters_text (pairs_tree es)
parameters_all es taken runs all = text_as true taken ∙ ap parameters_text (lent_all es taken all)

-- no room for the text with one more parameter
module _ {Z : Type 0} (k : Bor (List ℕ)) (v : Bor OwnedBareItem) (ps : List (Bor (List ℕ) × Bor OwnedBareItem))
    (old output : String Z) where
  pub one_lacks : string_bytes output ≡ string_bytes old ++ parameters_text (lent_pairs ps)
      → string_capacity old ≤ string_capacity output → LacksRoom output (param_text k.now (bare_value v.now))
      → LacksRoom old (parameters_text (lent_pairs (ps ++ (k, v) ∷ [])))
  one_lacks e c h = subst (λ (l : List ℕ). LacksRoom old l)
      (sym (ap parameters_text (lent_push k v ps) ∙ parameters_push (lent_pairs ps) (k.now, bare_value v.now)))
      (room_after old output (parameters_text (lent_pairs ps)) (param_text k.now (bare_value v.now)) e c h)
