-- The errors of calls that write several values, where a `?` returns them.
use Rattle.std.proofs.Common.{◌≡◌, ◌≤◌, ℕ, Bool, true, false, List, [], ◌∷◌, ◌++◌, not, ap, subst, inl, inr}
use Rattle.std.proofs.Common.{append_assoc, refl, ◌∙◌, map, codes, Result, string_bytes, string_capacity, ◌⊎◌, Some, Ok}
use Rattle.std.proofs.Common.{Err, IsTrue, MatchResult, IsErrAnd, find}
use Rattle.std.{specs.declared.string.String.String, proofs.lemmas.Result.err_from_is_err_and}
use Rattle.sfv.specs.Canonical.{item_text, parameters_text, dictionary_member_text}
use Rattle.sfv.specs.Types.{Version, Rfc8941, Rfc9651, SerializeError}
use Rattle.sfv.specs.Values.{BareValue, AllFit, fits_bare, RawItem, RawParameters, inner_list}
use Rattle.sfv.specs.Versions.{NamesFirstUnfit, IsSerializeError, ChecksVersionFirst, OnOutOfMemory}
use Rattle.sfv.specs.Written.{LacksRoom, separator_before, with_separators}
use Rattle.sfv.proofs.Callers.{names_front, names_after, all_fit_newer, room_before, room_after, no_less}
use Rattle.sfv.proofs.Callers.{named_list_ended}
use Rattle.sfv.specs.Types.serialize_errors as errors

-- what `ChecksEach` says of an error
abbrev pub IsWriteError : Version → List BareValue → SerializeError → Type 0
IsWriteError version values e = (e ≡ errors.OutOfMemory) ⊎ NamesFirstUnfit version values e

-- an error for more values
pub more_values : (version : Version) (front rest : List BareValue) (e : SerializeError) → IsWriteError version front e
    → IsWriteError version (front ++ rest) e
more_values version front rest e (inl h) = inl h
more_values version front rest e (inr h) = inr (names_front version front rest e h)

module _ {T : Type 0} (e : SerializeError) (r : Result T SerializeError) (exit : IsErrAnd r (λ y. y ≡ e)) where
  pub at_exit : (P : T → Type 0) (Q : SerializeError → Type 0) → Q e → MatchResult r P Q
  at_exit P Q h = let p = err_from_is_err_and r exit in rw (p.1, p.2) h

  -- the error of the first call, for more values
  pub first_error : (version : Version) (front rest : List BareValue) (P : T → Type 0) → IsWriteError version front e
      → MatchResult r P (IsWriteError version (front ++ rest))
  first_error version front rest P h =
      at_exit P (IsWriteError version (front ++ rest)) (more_values version front rest e h)

  -- the error of a later call, after values that fit
  pub next_error : (version : Version) (front : List BareValue) (b : BareValue) (rest : List BareValue) (P : T → Type 0)
      → AllFit version front → IsSerializeError version (b ∷ []) e
      → MatchResult r P (IsWriteError version (front ++ b ∷ rest))
  next_error version front b rest P fit (inl h) = at_exit P (IsWriteError version (front ++ b ∷ rest)) (inl h.0)
  next_error version front b rest P fit (inr h) = at_exit P (IsWriteError version (front ++ b ∷ rest))
      (inr (names_after version front (b ∷ rest) e fit (names_front version (b ∷ []) rest e h)))

-- a call that checks one value before it allocates
pub checks_one : {T : Type 0} (version : Version) (b : BareValue) (r : Result T SerializeError)
    → ChecksVersionFirst version (b ∷ []) r
    → MatchResult r (λ _. AllFit version (b ∷ [])) (IsWriteError version (b ∷ []))
checks_one version b (Ok x) h = h
checks_one version b (Err e) (inl h) = inl h.0
checks_one version b (Err e) (inr h) = inr h

-- what holds of an error of another type
pub of_memory : {T : Type 0} (r : Result T SerializeError) (L : Type 0) → L → OnOutOfMemory r L
of_memory (Ok x) L h = tt
of_memory (Err e) L h = λ memory. h

-- each version has the values that the older one has
fit_each : (version : Version) (values : List BareValue) → AllFit Rfc8941 values → AllFit version values
fit_each Rfc8941 values h = h
fit_each Rfc9651 values h = all_fit_newer values

none_unfit : (version : Version) (values : List BareValue) (b : BareValue) → AllFit version values
    → find (λ v. not (fits_bare version v)) values ≡ Some b → ⊥
none_unfit version [] b fit h = absurd cc
none_unfit version (v ∷ vs) b fit h = none_unfit version vs b fit.1 (rw fit.0 at h)

-- the only error of writing values that the older version has
pub only_memory : (version : Version) (values : List BareValue) (e : SerializeError) → AllFit Rfc8941 values
    → IsWriteError version values e → e ≡ errors.OutOfMemory
only_memory version values e fit (inl h) = h
only_memory version values e fit (inr h) = absurd (none_unfit version values h.0 (fit_each version values fit) h.1)

pub one_memory : (version : Version) (b : BareValue) (e : SerializeError) → IsTrue (fits_bare Rfc8941 b)
    → IsSerializeError version (b ∷ []) e → e ≡ errors.OutOfMemory
one_memory version b e fit (inl h) = h.0
one_memory version b e fit (inr h) = only_memory version (b ∷ []) e (fit, tt) (inr h)

-- No room for a part means no room for the whole. `old` is the text before all parts, and `mid` and `now` are after
-- some.
module _ {Z : Type 0} (old : String Z) (front part : List ℕ) where
  module _ (mid : String Z) (begun : string_bytes mid ≡ string_bytes old ++ (front ++ part))
      (room : string_capacity old ≤ string_capacity mid) where
    pub lacks_after : (rest : List ℕ) → LacksRoom mid rest → LacksRoom old (front ++ (part ++ rest))
    lacks_after rest h =
        subst (LacksRoom old) (append_assoc front part rest) (room_after old mid (front ++ part) rest begun room h)

    pub lacks_second : (one more : List ℕ) → LacksRoom mid one → LacksRoom old (front ++ (part ++ (one ++ more)))
    lacks_second one more h = lacks_after (one ++ more) (room_before mid one more h)

    pub lacks_third : (now : String Z) (one two more : List ℕ) → string_bytes now ≡ string_bytes mid ++ one
        → string_capacity mid ≤ string_capacity now → LacksRoom now two
        → LacksRoom old (front ++ (part ++ (one ++ (two ++ more))))
    lacks_third now one two more next room h =
        lacks_after (one ++ (two ++ more)) (room_after mid now one (two ++ more) next room (room_before now two more h))

-- a part without a separator
pub unseparated : {Z : Type 0} (old : String Z) (is_first : Bool) (text : List ℕ)
    → LacksRoom old (separator_before is_first [] ++ text) → LacksRoom old text
unseparated old true text h = h
unseparated old false text h = h

-- the text so far, and one more part
pub after_part : {Z : Type 0} (old mid now : String Z) (so_far one : List ℕ)
    → string_bytes mid ≡ string_bytes old ++ so_far → string_bytes now ≡ string_bytes mid ++ one
    → string_bytes now ≡ string_bytes old ++ (so_far ++ one)
after_part old mid now so_far one before next =
    next ∙ ap (λ (t : List ℕ). t ++ one) before ∙ append_assoc (string_bytes old) so_far one

-- The same for a dictionary member that is an inner list, from its text call by call: the beginning, the items, the
-- closing parenthesis and the parameters.
module _ {Z : Type 0} (old : String Z) (front key : List ℕ) (none : Bool) (items : List RawItem)
    (params : RawParameters) (begun : none ≡ true) where
  abbrev opening : List ℕ
  opening = front ++ (key ++ codes "=(")

  abbrev inside : List ℕ
  inside = with_separators none (codes " ") (map item_text items)

  abbrev Lacks : Type 0
  Lacks = LacksRoom old (front ++ dictionary_member_text (
    key,
    inner_list (record {
      items = items;
      parameters = params;
    }),
  ))

  whole_lacks : LacksRoom old (((opening ++ inside) ++ codes ")") ++ parameters_text params) → Lacks
  whole_lacks h = subst (LacksRoom old) (named_list_ended [] opening (opening ++ inside)
      ((opening ++ inside) ++ codes ")") (((opening ++ inside) ++ codes ")")
      ++ parameters_text params) front key none items params refl refl begun refl refl) h

  module _ (mid : String Z) (opened : string_bytes mid ≡ string_bytes old ++ opening)
      (room : string_capacity old ≤ string_capacity mid) where
    pub items_lack : LacksRoom mid inside → Lacks
    items_lack h = whole_lacks (room_before old ((opening ++ inside) ++ codes ")") (parameters_text params)
        (room_before old (opening ++ inside) (codes ")") (room_after old mid opening inside opened room h)))

    module _ (now : String Z) (written : string_bytes now ≡ string_bytes mid ++ inside)
        (more : string_capacity mid ≤ string_capacity now) where
      pub ending_lacks : LacksRoom now (codes ")") → Lacks
      ending_lacks h = whole_lacks (room_before old ((opening ++ inside) ++ codes ")") (parameters_text params)
          (room_after old now (opening ++ inside) (codes ")") (after_part old mid now opening inside opened written)
          (no_less room more) h))

      pub params_lack : (last : String Z) → string_bytes last ≡ string_bytes now ++ codes ")"
          → string_capacity now ≤ string_capacity last → LacksRoom last (parameters_text params) → Lacks
      params_lack last closed most h = whole_lacks (room_after old last ((opening ++ inside) ++ codes ")")
          (parameters_text params) (after_part old now last (opening ++ inside) (codes ")")
          (after_part old mid now opening inside opened written) closed) (no_less room (no_less more most)) h)
