-- Values that are looked at one after another.
use Rattle.std.proofs.Common.{◌≡◌, ℕ, zero, suc, ◌<◌, List, [], ◌∷◌, ◌++◌, length, get_or, map, take, refl, sym, ap}
use Rattle.std.proofs.Common.{subst, ◌∙◌, length-append, Result, Ok, Err, inl, inr, arith, not, Option, Some, flat_map}
use Rattle.std.proofs.Common.{MatchResult, IfErr, IsErrAnd, find}
use Rattle.std.{specs.Iterator.{Yields, Drains}, specs.Map.values_of, specs.Prelude.⊤, proofs.iter.Next.Yields-more}
use Rattle.std.proofs.lemmas.{List.Concat.flat_map-append, List.Folds.flat_map-map, Result.err_from_is_err_and}
use Rattle.sfv_spec.specs.Values.{BareValue, RawField, HasMember, bare_values, fits_bare, AllFit, member_values}
use Rattle.sfv_spec.proofs.{Fields.fit_append, Given.{found_front, found_after, newer_has_all}, Marks.parameter_values}
use Rattle.sfv_model.proofs.Types.{FieldKind, item_field, list_field, dictionary_field, Version, Rfc9651}
use Rattle.sfv_values.specs.BareItems.{bare_value}
use Rattle.sfv_tree.specs.Trees.{OwnedBareItem, pairs_tree, member_tree, dictionary_tree}
use Rattle.sfv_tree.specs.declared.parsed.ListEntry.{ListEntry}
use Rattle.sfv_writer.specs.Versions.{NamesFirstUnfit, ChecksVersion, ChecksAll, ChecksVersionFirst, IsSerializeError}
use Rattle.sfv_writer.specs.{Versions.{FailsAmong, FailsFrom}, declared.serialize_error.SerializeError.SerializeError}
use Rattle.sfv_writer.proofs.Lent.{GivesAll}
use Rattle.sfv_writer.specs.declared.serialize_error.SerializeError.TheVariants as errors

-- ---- in front of others and after them

-- the first that doesn't fit is that of more
pub names_front : (version : Version) (bs cs : List BareValue) (e : SerializeError) → NamesFirstUnfit version bs e
    → NamesFirstUnfit version (bs ++ cs) e
names_front version bs cs e h = (h.0, found_front version bs cs h.0 h.1, h.2)

pub names_after : (version : Version) (bs cs : List BareValue) (e : SerializeError) → AllFit version bs
    → NamesFirstUnfit version cs e → NamesFirstUnfit version (bs ++ cs) e
names_after version bs cs e f h = (h.0, found_after version bs cs h.0 f h.1, h.2)

-- others are looked at after those that fit
pub looks_after : {T : Type 0} (version : Version) (bs cs : List BareValue) (r : Result T SerializeError)
    → AllFit version bs → ChecksVersion version cs r → ChecksVersion version (bs ++ cs) r
looks_after version bs cs (Ok x) f h = fit_append version bs cs f h
looks_after version bs cs (Err e) f h = names_after version bs cs e f h

-- what an error says, where a `?` returns it
pub at_exit : {T E : Type 0} (r : Result T E) (e : E) (P : T → Type 0) (Q : E → Type 0) → IsErrAnd r (λ y. y ≡ e) → Q e
    → MatchResult r P Q
at_exit r e P Q exit h = let p = err_from_is_err_and r exit in rw (p.1, p.2) h

-- such an error after values that fit
error_after : (version : Version) (bs cs : List BareValue) (e : SerializeError) → AllFit version bs
    → IsSerializeError version cs e → IsSerializeError version (bs ++ cs) e
error_after version bs cs e f (inl h) = inl (h.0, fit_append version bs cs f h.1)
error_after version bs cs e f (inr h) = inr (names_after version bs cs e f h)

-- the error of what is given after a first value that fits
pub fails_after : {S A T : Type 0} (steps : S → Option A → S → Type 0) (rest : S) (values : List A → List BareValue)
    (version : Version) (b : BareValue) (r : Result T SerializeError) → AllFit version (b ∷ [])
    → IfErr r (FailsAmong steps rest values version) → IfErr r (FailsFrom steps rest (λ taken. b ∷ values taken) version)
fails_after steps rest values version b (Ok x) f h = tt
fails_after steps rest values version b (Err e) f h = (h.0, h.1, h.2, error_after version (b ∷ []) (values h.0) e f h.4)

-- what the iterator gave first, and the rest, are what it gave
pub fails_from_first : {S A T : Type 0} (steps : S → Option A → S → Type 0) (s : S) (x : A) (rest : S)
    (values : List A → List BareValue) (version : Version) (r : Result T SerializeError) → steps s (Some x) rest
    → IfErr r (FailsFrom steps rest (λ taken. values (x ∷ taken)) version) → IfErr r (FailsAmong steps s values version)
fails_from_first steps s x rest values version (Ok y) step h = tt
fails_from_first steps s x rest values version (Err e) step h = (x ∷ h.0, h.1, (rest, step, h.2), omega arith, h.3)

pub drains_from_first : {S A : Type 0} (steps : S → Option A → S → Type 0) (s : S) (x : A) (rest : S)
    (xs : List A) → steps s (Some x) rest → Drains steps rest xs → Drains steps s (x ∷ xs)
drains_from_first steps s x rest xs step h = (h.0, (h.1.0, (rest, step, h.1.1), h.1.2))

-- RFC 9651 has every value
pub newer_fails : {S A : Type 0} (steps : S → Option A → S → Type 0) (s : S) (values : List A → List BareValue)
    (e : SerializeError) → FailsAmong steps s values Rfc9651 e → e ≡ errors.OutOfMemory
newer_fails steps s values e h = elim h.4 [
  | inl k ↦ k.0
  | inr k ↦ absurd (newer_has_all (values h.0) k.0 k.1)
]

-- ---- each of a list

module _ {A : Type 0} (version : Version) (values : A → List BareValue) where
  -- one more
  pub each_more : (front : List A) (x : A) → AllFit version (flat_map values front) → AllFit version (values x)
      → AllFit version (flat_map values (front ++ x ∷ []))
  each_more front x h k = subst (AllFit version) (sym (flat_map-append values front (x ∷ [])))
      (fit_append version (flat_map values front) (values x ++ []) h (fit_append version (values x) [] k tt))

  -- one has a value that doesn't fit
  pub each_stops : (front : List A) (x : A) (rest : List A) (e : SerializeError)
      → AllFit version (flat_map values front) → NamesFirstUnfit version (values x) e
      → NamesFirstUnfit version (flat_map values (front ++ x ∷ rest)) e
  each_stops front x rest e h k = subst (λ (bs : List BareValue). NamesFirstUnfit version bs e)
      (sym (flat_map-append values front (x ∷ rest))) (names_after version (flat_map values front)
      (values x ++ flat_map values rest) e h (names_front version (values x) (flat_map values rest) e k))

-- with one more there is one
not_none : {A : Type 0} (xs : List A) (x : A) → 0 < length (xs ++ x ∷ [])
not_none xs x = omega (arith, length-append xs (x ∷ []))

-- what an iterator gave, and then a value that doesn't fit
pub fails_among : {S A T : Type 0} (steps : S → Option A → S → Type 0) (version : Version) (values : A → List BareValue)
    (all : List A → List BareValue) → ((xs : List A) → flat_map values xs ≡ all xs) → (s t u : S) (xs : List A) (x : A)
    (r : Result T SerializeError) (e : SerializeError) → IsErrAnd r (λ y. y ≡ e) → Yields steps s xs t
    → steps t (Some x) u → AllFit version (all xs) → NamesFirstUnfit version (values x) e
    → MatchResult r (λ _. ⊤) (FailsAmong steps s all version)
fails_among steps version values all same s t u xs x r e exit ran step fit names =
    let fit' : AllFit version (flat_map values xs) = subst (AllFit version) (sym (same xs)) fit in
    at_exit r e _ _ exit (
      xs ++ x ∷ [],
      u,
      Yields-more steps s xs t x u ran step,
      not_none xs x,
      inr (subst (λ bs. NamesFirstUnfit version bs e) (same (xs ++ x ∷ [])) (each_stops version values xs x [] e fit' names)),
    )

-- what an iterator gave, of which all values fit, and then no memory for the last
pub memory_among : {S A T : Type 0} (steps : S → Option A → S → Type 0) (version : Version) (values : A → List BareValue)
    (all : List A → List BareValue) → ((xs : List A) → flat_map values xs ≡ all xs) → (s t u : S) (xs : List A) (x : A)
    (r : Result T SerializeError) → IsErrAnd r (λ y. y ≡ errors.OutOfMemory) → Yields steps s xs t
    → steps t (Some x) u → AllFit version (all xs) → AllFit version (values x)
    → MatchResult r (λ _. ⊤) (FailsAmong steps s all version)
memory_among steps version values all same s t u xs x r exit ran step fit last =
    let fit' : AllFit version (flat_map values xs) = subst (AllFit version) (sym (same xs)) fit in
    at_exit r errors.OutOfMemory _ _ exit (
      xs ++ x ∷ [],
      u,
      Yields-more steps s xs t x u ran step,
      not_none xs x,
      inl (refl, subst (AllFit version) (same (xs ++ x ∷ [])) (each_more version values xs x fit' last)),
    )

-- a list at one of its places
pub split_at : {A : Type 0} (xs : List A) (n : ℕ) (x : A) → n < length xs → x ≡ get_or xs n x
    → (rest : List A) × (xs ≡ take n xs ++ x ∷ rest)
split_at [] n x lt is = absurd (omega (arith, lt))
split_at (y ∷ ys) zero x lt is = (ys, ap (λ z. z ∷ ys) (sym is))
split_at (y ∷ ys) (suc n) x lt is = let p = split_at ys n x (omega (arith, lt)) is in (p.0, ap (λ zs. y ∷ zs) p.1)

-- ---- each of a whole, as an iterator lends it

pub checks_whole : {A B S T : Type 0} {gives : S → Option A → S → Type 0} {from : S} {lent : A → B} {ys : List B}
    (values : B → List BareValue) (version : Version) (r : Result T SerializeError) → GivesAll gives from lent ys
    → ChecksAll (λ x. values (lent x)) version gives from r → ChecksVersion version (flat_map values ys) r
checks_whole {lent = lent} values version (Ok v) whole h = subst (AllFit version)
    (sym (flat_map-map values lent h.0) ∙ ap (flat_map values) (whole.all h.0 h.1)) h.2
checks_whole {lent = lent} values version (Err e) whole h =
    let more = whole.front h.0 h.1 h.2 in
    subst (λ bs. NamesFirstUnfit version bs e) (sym (ap (flat_map values) more.1
    ∙ flat_map-append values (map lent h.0) more.0)) (names_front version (flat_map values (map lent h.0))
    (flat_map values more.0) e (subst (λ bs. NamesFirstUnfit version bs e) (sym (flat_map-map values lent h.0)) h.3))

-- the values of parameters, one by one
pub singles : {A : Type 0} (f : A → BareValue) (xs : List A) → flat_map (λ x. f x ∷ []) xs ≡ map f xs
singles f [] = refl
singles f (x ∷ xs) = ap (λ l. f x ∷ l) (singles f xs)

-- ---- calls that look first

-- a value doesn't fit
pub look_fails : {T : Type 0} (version : Version) (values : List BareValue) (r : Result T SerializeError)
    (e : SerializeError) → IsErrAnd r (λ y. y ≡ e) → NamesFirstUnfit version values e → ChecksVersionFirst version values r
look_fails version values r e exit h = at_exit r e _ _ exit (inr h)

-- out of memory when all were looked at
pub memory_fails : {T : Type 0} (version : Version) (values : List BareValue) (r : Result T SerializeError)
    → IsErrAnd r (λ y. y ≡ errors.OutOfMemory) → AllFit version values → ChecksVersionFirst version values r
memory_fails version values r exit h = at_exit r errors.OutOfMemory _ _ exit (inl (refl, h))

pub not_of_none : (version : Version) (b : BareValue) → find (λ v. not (fits_bare version v)) [] ≡ Some b → ⊥
not_of_none version b e = absurd cc

-- what has a value that doesn't fit has a member
pub named_has_member : (version : Version) (kind : FieldKind) (raw : RawField kind) (e : SerializeError)
    → NamesFirstUnfit version (bare_values kind raw) e → HasMember kind raw
named_has_member version item_field i e h = tt
named_has_member version list_field [] e h = absurd (not_of_none version h.0 h.1)
named_has_member version list_field (m ∷ ms) e h = (m, ms, refl)
named_has_member version dictionary_field [] e h = absurd (not_of_none version h.0 h.1)
named_has_member version dictionary_field (m ∷ ms) e h = (m, ms, refl)

-- the values of parameters, as a map lends them
pub param_values : (es : List (List ℕ × OwnedBareItem))
    → flat_map (λ b. b ∷ []) (map bare_value (values_of es)) ≡ parameter_values (pairs_tree es)
param_values [] = refl
param_values (e ∷ es) = ap (λ l. bare_value e.1 ∷ l) (param_values es)

-- and those of the members of a dictionary
pub entry_values : (es : List (List ℕ × ListEntry))
    → flat_map member_values (map member_tree (values_of es)) ≡ bare_values dictionary_field (dictionary_tree es)
entry_values [] = refl
entry_values (e ∷ es) = ap (λ l. member_values (member_tree e.1) ++ l) (entry_values es)
