-- An HTTP message has one outcome for each component.
use Rattle.std.proofs.Common.{◌≡◌, ℕ, List, Bool, true, false, sym, ◌∙◌, ap, inl, inr, Option, Some, None, MatchOption}
use Rattle.std.proofs.Common.{Result, Ok, Err, codes, slice_get}
use Rattle.sfv.specs.{Canonical.canonical, Types.{FieldKind, dictionary_field, Rfc9651}}
use Rattle.sfv.{specs.Values.{RawParameters, RawField}, proofs.Callers.one_value}
use Rattle.sfv_signatures.specs.HttpMessages.{has, string_param, is_derived, fault_of, member_of, plain_text}
use Rattle.sfv_signatures.specs.HttpMessages.{ParsedGives, FieldGives, LinesGive, lines_of, type_in, ValueGives}
use Rattle.sfv_signatures.specs.{HttpMessages.HttpGives, SignatureBase.HasOneOutcome}
use Rattle.sfv_signatures.specs.declared.{base_error.BaseErrorKind.BaseErrorKind, http_message.HttpMessage.HttpMessage}
use Rattle.sfv_signatures.specs.declared.base_error.BaseErrorKind.TheVariants as kinds

parsed_one : (kind : FieldKind) (write : RawField kind → Result (List ℕ) BaseErrorKind) (t : List ℕ)
    (r s : Result (List ℕ) BaseErrorKind) → ParsedGives kind write t r → ParsedGives kind write t s → r ≡ s
parsed_one kind write t r s (inl h) (inl k) = h.2 ∙ ap write (one_value Rfc9651 kind t h.0 k.0 h.1 k.1) ∙ sym k.2
parsed_one kind write t r s (inl h) (inr k) = absurd (k.0 (h.1.raw, h.1.accepted))
parsed_one kind write t r s (inr h) (inl k) = absurd (h.0 (k.1.raw, k.1.accepted))
parsed_one kind write t r s (inr h) (inr k) = h.1 ∙ sym k.1

field_one : (bs : Bool) (key : Option (List ℕ)) (sf : Bool) (type : Option FieldKind) (lines : List (List ℕ))
    (r s : Result (List ℕ) BaseErrorKind) → FieldGives bs key sf type lines r → FieldGives bs key sf type lines s → r ≡ s
field_one true key sf type lines r s h k = h ∙ sym k
field_one false (Some key) sf type lines r s h k = parsed_one dictionary_field (member_of key) (plain_text lines) r s h k
field_one false None true (Some kind) lines r s h k =
    parsed_one kind (λ value. Ok (canonical kind value)) (plain_text lines) r s h k
field_one false None true None lines r s h k = h ∙ sym k
field_one false None false type lines r s h k = h ∙ sym k

lines_one : (ps : RawParameters) (type : Option FieldKind) (lines : List (List ℕ)) (r s : Result (List ℕ) BaseErrorKind)
    → LinesGive ps type lines r → LinesGive ps type lines s → r ≡ s
lines_one ps type lines r s h k = go (slice_get lines 0) h k
  where
    Field : Result (List ℕ) BaseErrorKind → Type 0
    Field = FieldGives (has (codes "bs") ps) (string_param (codes "key") ps) (has (codes "sf") ps) type lines

    go : (first : Option (List ℕ)) → MatchOption first (r ≡ Err kinds.Absent) (λ _. Field r)
        → MatchOption first (s ≡ Err kinds.Absent) (λ _. Field s) → r ≡ s
    go None h k = h ∙ sym k
    go (Some line) h k =
        field_one (has (codes "bs") ps) (string_param (codes "key") ps) (has (codes "sf") ps) type lines r s h k

value_one : (derived : Bool) (m : HttpMessage) (name : List ℕ) (ps : RawParameters) (r s : Result (List ℕ) BaseErrorKind)
    → ValueGives derived m name ps r → ValueGives derived m name ps s → r ≡ s
value_one true m name ps r s h k = h ∙ sym k
value_one false m name ps r s h k = lines_one ps (type_in m.types.now name) (lines_of m name ps) r s h k

pub http_one : (m : HttpMessage) → HasOneOutcome (HttpGives m)
http_one m name ps r s h k = go (fault_of name ps) h k
  where
    go : (fault : Option BaseErrorKind)
        → MatchOption fault (ValueGives (is_derived name) m name ps r) (λ kind. r ≡ Err kind)
        → MatchOption fault (ValueGives (is_derived name) m name ps s) (λ kind. s ≡ Err kind) → r ≡ s
    go None h k = value_one (is_derived name) m name ps r s h k
    go (Some kind) h k = h ∙ sym k
