-- What is written is read back.
use Rattle.std.proofs.Common.{◌≡◌, ◌++◌, ◌∙◌, ℕ, List, [], ◌∷◌, ap, sym, subst, refl, append-nil, Option, Some, None}
use Rattle.sfv_spec.specs.{Canonical.{canonical, member_text}, Grammar.IsFieldText, Ordered.{ordered, ordered_member}}
use Rattle.sfv_spec.specs.Statements.{IsValue, IsParsedAs, IsSerializedAs}
use Rattle.sfv_spec.specs.Values.{RawField, RawMember, IsFieldValue, IsMember, HasMember, bare_values, member_values}
use Rattle.sfv_spec.{specs.Values.{Fits, AllFit}, proofs.Fields.all_fit_newer, proofs.Laws.round_trip_lem}
use Rattle.sfv_spec.proofs.{Structure.one_field_lem, Valid.accepted_is_value_lem, Versions.newer_accepts_lem}
use Rattle.sfv_model.proofs.Types.{FieldKind, list_field, Version, Rfc8941, Rfc9651}

-- what is written of a field that fits a version is read by it as its ordered value: repeated keys too
pub read_back : (version : Version) (kind : FieldKind) (raw : RawField kind) → IsFieldValue kind raw → Fits version kind raw
    → IsParsedAs version kind (canonical kind raw) (ordered kind raw)
read_back version kind raw h fits =
    let accepted = round_trip_lem version kind raw h fits in
    record {
      raw = raw;
      accepted = accepted;
      only = λ other k. one_field_lem version kind (canonical kind raw) other raw k accepted;
      holds = refl;
    }

-- and a value as itself
pub value_read_back : (version : Version) (kind : FieldKind) (value : RawField kind) → IsValue kind value
    → Fits version kind value → IsParsedAs version kind (canonical kind value) value
value_read_back version kind value v fits = subst (IsParsedAs version kind (canonical kind value))
    v.distinct (read_back version kind value v.parts fits)

-- a member as the list with this one member
pub member_read_back : (version : Version) (m : RawMember) → IsMember m × (ordered_member m ≡ m)
    → AllFit version (member_values m) → IsParsedAs version list_field (member_text m) (m ∷ [])
member_read_back version m valid fits = value_read_back version list_field (m ∷ [])
    (record { parts = (valid.0, tt); distinct = ap (λ (n : RawMember). n ∷ []) valid.1 })
    (subst (AllFit version) (sym (append-nil (member_values m))) fits)

-- the canonical text of a value that fits a version is read back by it as this value
abbrev pub IsWritten : Version → (kind : FieldKind) → RawField kind → List ℕ → Type 0
IsWritten version kind value t = (t ≡ canonical kind value) × IsParsedAs version kind t value

written_for : (version : Version) (kind : FieldKind) (value : RawField kind) (t : List ℕ) → IsValue kind value
    → Fits version kind value → t ≡ canonical kind value → IsWritten version kind value t
written_for version kind value t v fits e =
    (e, subst (λ s. IsParsedAs version kind s value) (sym e) (value_read_back version kind value v fits))

-- under RFC 9651 every value fits
written : (kind : FieldKind) (value : RawField kind) (t : List ℕ) → IsValue kind value → t ≡ canonical kind value
    → IsWritten Rfc9651 kind value t
written kind value t v e = written_for Rfc9651 kind value t v (all_fit_newer (bare_values kind value)) e

-- a value that is written to an empty text is serialized
pub serialized : (kind : FieldKind) (value : RawField kind) (old new : List ℕ) → HasMember kind value → old ≡ []
    → new ≡ old ++ canonical kind value → IsValue kind value → IsSerializedAs Rfc9651 kind value (Some new)
serialized kind value old new some empty is v =
    let w = written kind value new v (is ∙ ap (λ (t : List ℕ). t ++ canonical kind value) empty) in (some, w.0, w.1)

-- a parsed value has its parts in range and no repeated keys
parsed_is_value : (version : Version) (kind : FieldKind) (value : RawField kind) (t : List ℕ)
    → IsParsedAs version kind t value → IsValue kind value
parsed_is_value version kind value t h = subst (IsValue kind) (sym h.holds)
    (accepted_is_value_lem version kind t h.raw h.accepted).1

-- so has a serialized value, and the version has its parts
pub serialized_is_value : (version : Version) (kind : FieldKind) (value : RawField kind) (t : List ℕ)
    → IsSerializedAs version kind value (Some t) → IsValue kind value × Fits version kind value
serialized_is_value version kind value t h =
    let parsed = h.2 in
    let v = parsed_is_value _ _ _ _ parsed in
    let same = one_field_lem Rfc9651 kind t parsed.raw value (newer version parsed.raw parsed.accepted)
    (subst (IsFieldText Rfc9651 kind value) (sym h.1) (round_trip_lem Rfc9651 kind value v.parts (all_fit_newer _))) in
    (v, subst (Fits version kind) same (accepted_is_value_lem version kind t parsed.raw parsed.accepted).2)
  where
    newer : (version : Version) (raw : RawField kind) → IsFieldText version kind raw t → IsFieldText Rfc9651 kind raw t
    newer Rfc8941 raw a = newer_accepts_lem kind raw t a
    newer Rfc9651 raw a = a

-- what is serialized under RFC 9651 is so under every version that the value fits
pub serialized_for : (version : Version) (kind : FieldKind) (value : RawField kind) (o : Option (List ℕ))
    → Fits version kind value → IsSerializedAs Rfc9651 kind value o → IsSerializedAs version kind value o
serialized_for version kind value None fits h = h
serialized_for version kind value (Some t) fits h =
    let w = written_for version kind value t (parsed_is_value Rfc9651 kind value t h.2) fits h.1 in (h.0, w.0, w.1)
