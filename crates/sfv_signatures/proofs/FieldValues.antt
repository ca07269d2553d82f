-- The values of fields that parse, or do not.
use Rattle.std.proofs.Common.{◌≡◌, ℕ, List, [], ◌∷◌, ◌++◌, Bool, true, false, refl, sym, ◌∙◌, ap, subst, inl, inr}
use Rattle.std.proofs.Common.{arith, length, nat_lt, not, position, Option, Some, None, Result, Err, IsTrue, option_map}
use Rattle.std.{proofs.Common.ok_or, specs.List.{list_all, position_or_len, AllByRecursion}}
use Rattle.std.proofs.lemmas.Bool.{and_parts, false≢true, Decides.nat_tests}
use Rattle.sfv.specs.{Canonical.member_text, Classes.{is_key, is_key_start, is_key_inner, first_outside}}
use Rattle.sfv.specs.{Errors.index_of, InvalidTexts.IsInvalidKey, Ordered.last_of}
use Rattle.sfv.specs.{Parsers.IsParseError, Statements.IsParsedAs, Types.{FieldKind, dictionary_field, Rfc9651, Error}}
use Rattle.sfv.{specs.Values.{RawField, RawMember, IsMember}, proofs.Callers.{last_of-split, read_is_value}}
use Rattle.sfv_signatures.specs.Components.{UnlessMemory}
use Rattle.sfv_signatures.specs.{HttpMessages.{ParsedGives, member_of}, ParseFaults.parse_fault}
use Rattle.sfv_signatures.specs.{SignatureBase.IsChecked, declared.base_error.BaseErrorKind.BaseErrorKind}
use Rattle.sfv_signatures.specs.declared.base_error.BaseErrorKind.TheVariants as kinds

-- ---- fields that do not parse

module _ (kind : FieldKind) (write : RawField kind → Result (List ℕ) BaseErrorKind) (t : List ℕ) where
  pub parse_failed : (e : Error) (k : BaseErrorKind) → k ≡ parse_fault (index_of e) → IsParseError Rfc9651 kind t e
      → UnlessMemory (λ k. IsChecked (ParsedGives kind write t) (Err k)) k
  parse_failed e k same (inl memory) = inl (same ∙ ap (λ (e : Error). parse_fault (index_of e)) memory)
  parse_failed e k same (inr h) =
      let unparsed : k ≡ kinds.Unparsed = same ∙ ap (λ (e : Error). parse_fault (index_of e)) h.error in
      inr (Err kinds.Unparsed, inr (h.rejected, refl), ap Err unparsed)

-- ---- members

at_place : {A : Type 0} (P : A → Type 0) (before : List A) (x : A) (after : List A)
    → AllByRecursion P (before ++ x ∷ after) → P x
at_place P [] x after h = h.0
at_place P (y ∷ before) x after h = at_place P before x after h.1

-- a dictionary has no member under a text that is not a key
absent_key : (key : List ℕ) (members : List (List ℕ × RawMember))
    → AllByRecursion (λ m. IsTrue (is_key m.0) × IsMember m.1) members → (IsTrue (is_key key) → ⊥)
    → last_of key members ≡ None
absent_key key members h other = go (last_of key members) refl
  where
    go : (o : Option RawMember) → last_of key members ≡ o → last_of key members ≡ None
    go None e = e
    go (Some m) e = let s = last_of-split key m members e in
        absurd (other (at_place (λ m. IsTrue (is_key m.0) × IsMember m.1) s.before (key, m) s.after
        (subst (AllByRecursion (λ m. IsTrue (is_key m.0) × IsMember m.1)) s.split h)).0)

pub no_member : (key t : List ℕ) (members : List (List ℕ × RawMember)) → IsParsedAs Rfc9651 dictionary_field t members
    → last_of key members ≡ None → IsChecked (ParsedGives dictionary_field (member_of key) t) (Err kinds.NoMember)
no_member key t members h none = (
  Err kinds.NoMember,
  inl (members, h, sym (ap (λ (o : Option RawMember). ok_or (option_map member_text o) kinds.NoMember) none)),
  refl,
)

pub not_a_key : (key t : List ℕ) (members : List (List ℕ × RawMember)) → IsParsedAs Rfc9651 dictionary_field t members
    → (IsTrue (is_key key) → ⊥) → IsChecked (ParsedGives dictionary_field (member_of key) t) (Err kinds.NoMember)
not_a_key key t members h other = no_member key t members h
    (absent_key key members (read_is_value Rfc9651 dictionary_field t members h).parts other)

-- ---- texts that are not keys

none_outside : (inner : ℕ → Bool) (cs : List ℕ) → list_all inner cs ≡ true
    → position_or_len (λ b. not (inner b)) cs ≡ length cs
none_outside inner [] h = refl
none_outside inner (c ∷ cs) h = let p = and_parts (inner c) (list_all inner cs) h in
    rw p.0 (omega (arith, none_outside inner cs p.1))

not_below : (n : ℕ) → nat_lt n n ≡ false
not_below n = grind (arith, nat_tests)

all_inside : (inner : ℕ → Bool) (cs : List ℕ) → list_all inner cs ≡ true → position (λ b. not (inner b)) cs ≡ None
all_inside inner cs h = rw (none_outside inner cs h, not_below (length cs)) refl

pub invalid_key : (t : List ℕ) (e : Error) → IsInvalidKey t e → IsTrue (is_key t) → ⊥
invalid_key [] e h k = false≢true k
invalid_key (c ∷ cs) e (inl h) k = absurd (let none = h.0 in cc)
invalid_key (c ∷ cs) e (inr h) k =
    let p = and_parts (is_key_start c) (list_all is_key_inner cs) k in
    let none : first_outside is_key_start is_key_inner (c ∷ cs) ≡ None = rw (p.0, all_inside is_key_inner cs p.1) refl in
    absurd (let some = h.1 in cc)
