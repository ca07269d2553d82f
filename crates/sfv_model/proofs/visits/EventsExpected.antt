-- The events before an error that names what is expected: those of the field in front of it.
use Rattle.std.proofs.Common.{◌≡◌, ℕ, ◌-◌, List, [], ◌∷◌, ◌++◌, length, take, Ok, Err, Result, refl, sym, ap, subst}
use Rattle.std.proofs.Common.{◌∙◌, inr, arith, append-nil, length-append, take_at, codes}
use Rattle.std.proofs.lemmas.List.{append_cancel_right}
use Rattle.sfv_spec.specs.Events.{TreeEvent, inner_list_end, parameters_end, events}
use Rattle.sfv_spec.specs.{Faults.IsWantedAt, Grammar.{IsFieldText, IsAccepted}, Values.{RawField, HasMember}}
use Rattle.sfv_spec.proofs.Structure.{one_field_lem}
use Rattle.sfv_model.specs.{Commas.HasManyMembers, Fields.{whole_field_at, ending, read_field}}
use Rattle.sfv_model.specs.Reader.{Fault, Answer, visited}
use Rattle.sfv_model.proofs.{FaultTable.{fault_is_at, one_fault}, Theorems.read_is_accepted, TrailingBytes.read_before}
use Rattle.sfv_model.proofs.Types.{FieldKind, item_field, list_field, dictionary_field, Version, ErrorKind}
use Rattle.sfv_model.proofs.Types.{TrailingCharactersAfterMember, TrailingCharactersAfterParsedValue}
use Rattle.sfv_model.proofs.Types.{ExpectedInnerListDelimiter}
use Rattle.sfv_model.proofs.faults.{BetweenInnerItems.{Stands, IsOpen, IsWhole}, Fields.{HasMembers, field_rules}}
use Rattle.sfv_model.proofs.{faults.TrailingCommas.not_item, places.OneWanted.one_wanted}
use Rattle.sfv_model.proofs.{sound.Combinators.Begins, visits.EventsBeforeRuleAlike.begins_all}
use Rattle.sfv_spec.specs.Faults as faults

-- the reader's fault is this one
record IsRead (version : Version) (kind : FieldKind) (t : List ℕ) (fault : ErrorKind) (n : ℕ) : Type 0 where
  e : Fault
  read : read_field version kind t ≡ Err e
  kind_of : e.kind ≡ fault
  here : length t - length e.rest ≡ n

is_read : (version : Version) (kind : FieldKind) (t : List ℕ) (fault : ErrorKind) (n : ℕ)
    → IsWantedAt version kind t fault n → IsRead version kind t fault n
is_read version kind t fault n w = on (read_field version kind t) refl
  where
    on : (a : Result (RawField kind) Fault) → read_field version kind t ≡ a → IsRead version kind t fault n
    on (Ok raw) h = absurd (w.rejected (raw, (read_is_accepted version kind t raw).0 h))
    on (Err e) h =
        let same = one_fault version kind t e.kind fault _ n (fault_is_at version kind t e h) (inr (inr w)) in
        record { e = e; read = h; kind_of = same.0; here = same.1 }

-- it is not that something follows the field
fails_so : (version : Version) (kind : FieldKind) (t : List ℕ) (e : Fault) → read_field version kind t ≡ Err e
    → ¬ (e.kind ≡ TrailingCharactersAfterParsedValue) → whole_field_at version kind t ≡ Err e
unfolding read_field
fails_so version kind t e h other = on (whole_field_at version kind t) refl h
  where
    on : (a : Answer (RawField kind)) → whole_field_at version kind t ≡ a → ending (events kind) a ≡ Err e
        → whole_field_at version kind t ≡ Err e
    on (Ok (v, [])) i h = absurd cc
    on (Ok (v, c ∷ r)) i h =
        let k : TrailingCharactersAfterParsedValue ≡ e.kind = cc in
        absurd (other (sym k))
    on (Err x) i h = let same : x ≡ e = cc in i ∙ ap (λ (x : Fault). Err x) same

front_is : (t front rest : List ℕ) (n : ℕ) → t ≡ front ++ rest → length t - length rest ≡ n → front ≡ take n t
front_is t front rest n text here =
    let size : length front ≡ n = omega (arith, here, ap (length {A = ℕ}) text, length-append front rest) in
    sym (ap (take n) text ∙ take_at front rest n size)

-- something else than a comma follows the members
after_members : (version : Version) (kind : FieldKind) (t : List ℕ) (fault : ErrorKind) (n : ℕ)
    → IsWantedAt version kind t fault n → HasManyMembers kind → (raw : RawField kind) → HasMember kind raw
    → IsFieldText version kind raw (take n t)
    → Begins (visited (events kind) (whole_field_at version kind t)) (events kind raw)
after_members version kind t fault n w many raw has h =
    let r = is_read version kind t fault n w in
    let named : fault ≡ TrailingCharactersAfterMember = one_wanted version kind (take n t) fault _ w.wanted
    (faults.comma raw (not_item kind many) h has) in
    let k : r.e.kind ≡ TrailingCharactersAfterMember = r.kind_of ∙ named in
    let whole = fails_so version kind t r.e r.read (λ same. let both = sym k ∙ same in cc) in
    let s : IsWhole (IsFieldText version kind) (events kind) (HasMembers kind) t r.e.rest r.e.events =
    subst (λ (k : ErrorKind). Stands (IsFieldText version kind) (events kind) (HasMembers kind) k t r.e.rest r.e.events) k
    ((field_rules version kind).rules t r.e whole) in
    let value : s.value ≡ raw = one_field_lem version kind (take n t) s.value raw
    (subst (IsFieldText version kind s.value) (front_is t s.front r.e.rest n s.text r.here) s.means) h in
    ([], ap (visited (events kind)) whole ∙ sym s.seen ∙ ap (events kind) value ∙ sym (append-nil (events kind raw)))

-- the events of the field in front of what is expected
pub expected_events : (version : Version) (kind : FieldKind) (t : List ℕ) (fault : ErrorKind) (n : ℕ)
    → IsWantedAt version kind t fault n → (raw : RawField kind) → IsFieldText version kind raw (take n t)
    → Begins (visited (events kind) (whole_field_at version kind t)) (events kind raw)
expected_events version item_field t fault n w raw h =
    let r = is_read _ _ _ _ _ w in
    let named = one_wanted _ _ _ _ _ w.wanted (faults.end refl (raw, h)) in
    let b = read_before version item_field _ r.e r.read (r.kind_of ∙ named) in
    let value : b.raw ≡ raw = one_field_lem version item_field (take n t) b.raw raw
    (subst (IsFieldText version item_field b.raw) (front_is _ _ _ _ b.text r.here) b.means) h in (
      [],
      ap (visited (events item_field)) b.read ∙ ap (events item_field) value ∙ sym (append-nil (events item_field raw)),
    )
expected_events version list_field t fault n w [] h = begins_all _
expected_events version list_field t fault n w (m ∷ ms) h = after_members _ _ _ _ _ w tt _ (m, ms, refl) h
expected_events version dictionary_field t fault n w [] h = begins_all _
expected_events version dictionary_field t fault n w (m ∷ ms) h = after_members _ _ _ _ _ w tt _ (m, ms, refl) h

-- the events in front of a delimiter that is expected after an item of an inner list
pub delimited_events : (version : Version) (kind : FieldKind) (t : List ℕ) (fault : ErrorKind) (n : ℕ)
    → IsWantedAt version kind t fault n → IsAccepted version kind (take n t ++ codes ";a)") → (raw : RawField kind)
    (es : List TreeEvent) → IsFieldText version kind raw (take n t ++ codes ")")
    → events kind raw ≡ es ++ inner_list_end ∷ parameters_end ∷ []
    → Begins (visited (events kind) (whole_field_at version kind t)) es
delimited_events version kind t fault n w longer raw es h all =
    let r = is_read version kind t fault n w in
    let named : fault ≡ ExpectedInnerListDelimiter = one_wanted version kind (take n t) fault _ w.wanted
    (faults.delimiter longer) in
    let k : r.e.kind ≡ ExpectedInnerListDelimiter = r.kind_of ∙ named in
    let whole = fails_so version kind t r.e r.read (λ same. let both = sym k ∙ same in cc) in
    let s : IsOpen (IsFieldText version kind) (events kind) ExpectedInnerListDelimiter t r.e.rest r.e.events =
    subst (λ (k : ErrorKind). Stands (IsFieldText version kind) (events kind) (HasMembers kind) k t r.e.rest r.e.events) k
    ((field_rules version kind).rules t r.e whole) in
    let value : s.closes.0 ≡ raw = one_field_lem version kind (take n t ++ codes ")") s.closes.0 raw
    (subst (λ (l : List ℕ). IsFieldText version kind s.closes.0 (l ++ codes ")"))
    (front_is t s.front r.e.rest n s.text r.here) s.closes.1) h in
    let same : r.e.events ≡ es = append_cancel_right r.e.events es (inner_list_end ∷ parameters_end ∷ [])
    (sym s.closes.2 ∙ ap (events kind) value ∙ all) in
    ([], ap (visited (events kind)) whole ∙ same ∙ sym (append-nil es))
