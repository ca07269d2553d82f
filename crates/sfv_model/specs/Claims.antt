-- The theorems on readers and the grammar.
use Rattle.std.specs.Prelude.{◌≡◌, ◌↔◌, ℕ, ◌≤◌, ◌%◌, List, [], ◌∷◌, ◌++◌, length, take, drop, true, false, Some, None}
use Rattle.std.specs.Prelude.{Ok, Err, ◌⊎◌}
use Rattle.sfv_spec.proofs.Marks.{colon}
use Rattle.sfv_spec.specs.Texts.{RunOf}
use Rattle.sfv_spec.specs.Classes.{is_one_of}
use Rattle.sfv_spec.specs.Values.{RawField, BareValue}
use Rattle.sfv_spec.specs.declared.field_kind.FieldKind.{FieldKind}
use Rattle.sfv_spec.specs.declared.version.Version.{Version}
use Rattle.sfv_spec.specs.Grammar.{IsBareText, IsFieldText, IsEnded}
use Rattle.sfv_spec.specs.Events.{events}
use Rattle.sfv_spec.specs.Reach.{IsReach}
use Rattle.sfv_spec.specs.Base64.{IsBase64Text, symbols}
use Rattle.sfv_spec.specs.declared.error_kind.ErrorKind.TheVariants.{TrailingComma, UnterminatedByteSequence}
use Rattle.sfv_model.specs.Commas.{IsTrailingComma}
use Rattle.sfv_model.specs.Reader.{has_rule, Fault, by_rule, visited}
use Rattle.sfv_model.specs.Content.{valid_from, bytes_of, fault_place, HasNoColon, content_fault}
use Rattle.sfv_model.specs.Bare.{bare_at}
use Rattle.sfv_model.specs.Fields.{whole_field_at, read_field}
use Rattle.sfv_model.specs.Visits.{BeginsEvents, BeginsEventsAfter}

-- A fault is at the reach, or its index has a rule. The events before it are a prefix of the events of some field.
pub record IsPlacedFault (version : Version) (kind : FieldKind) (t : List ℕ) (e : Fault) : Type 0 where
  pub emitted : BeginsEvents kind e.events
  pub exact : e.exact ≡ true → (n : ℕ) × (drop n t ≡ e.rest) × IsReach version kind t n
  pub ruled : e.exact ≡ false → has_rule e.kind ≡ true

-- the reader of a field accepts a text if and only if the grammar does, with the same value
abbrev pub ReadIsAccepted : Type 0
ReadIsAccepted = (version : Version) (kind : FieldKind) (t : List ℕ) (raw : RawField kind)
    → (read_field version kind t ≡ Ok raw) ↔ IsFieldText version kind raw t

-- each fault of a field is at its index
abbrev pub FaultIsPlaced : Type 0
FaultIsPlaced = (version : Version) (kind : FieldKind) (t : List ℕ) (e : Fault) → read_field version kind t ≡ Err e
    → IsPlacedFault version kind t e

-- the events of a result, a success or a fault, are a prefix of the events of some field
abbrev pub VisitedBegins : Type 0
VisitedBegins = (version : Version) (kind : FieldKind) (t : List ℕ)
    → BeginsEvents kind (visited (events kind) (whole_field_at version kind t))

-- the events before a fault are a prefix of the events of a field whose text begins with all bytes up to the reach
abbrev pub EventsReach : Type 0
EventsReach = (version : Version) (kind : FieldKind) (t : List ℕ) (e : Fault) → read_field version kind t ≡ Err e
    → (n : ℕ) → IsReach version kind t n → BeginsEventsAfter version kind (take n t) e.events

-- the fault of a field with a member, a comma, and blanks up to the end
abbrev pub CommaRow : Type 0
CommaRow = (version : Version) (kind : FieldKind) (t : List ℕ) (index : ℕ) → IsTrailingComma version kind t index
    → (raw : RawField kind)
    × (read_field version kind t ≡ Err (record {
      kind = TrailingComma;
      exact = false;
      rest = drop index t;
      events = events kind raw;
    }))

-- ---- bare items

-- a text of some bare value
abbrev pub IsSomeBareText : Version → List ℕ → Type 0
IsSomeBareText version t = (value : BareValue) × IsBareText version value t

-- `front` is the longest text of a bare value at the start of `t`; it has this value only, and `rest` follows
pub record BeginsWithBare (version : Version) (t : List ℕ) (value : BareValue) (rest : List ℕ) : Type 0 where
  pub front : List ℕ
  pub text : t ≡ front ++ rest
  pub means : IsBareText version value front
  pub only : (other : BareValue) → IsBareText version other front → other ≡ value
  pub longest : (longer past : List ℕ) → t ≡ longer ++ past → IsSomeBareText version longer
      → length longer ≤ length front

-- the reader consumes the longest text; if it fails, `IsEnded` holds after no text of a bare value at the start
abbrev pub BareIsExact : Type 0
BareIsExact =
    ((version : Version) (t : List ℕ) (value : BareValue) (rest : List ℕ) → bare_at version t ≡ Ok (value, rest)
    → BeginsWithBare version t value rest)
    × ((version : Version) (t : List ℕ) (e : Fault) → bare_at version t ≡ Err e → (s rest : List ℕ) → t ≡ s ++ rest
    → IsSomeBareText version s → ¬ IsEnded rest)

-- ---- the insides of byte sequences

-- a content is Base64 of the bytes that `bytes_of` returns, and of no others
abbrev pub GivesTheBytes : Type 0
GivesTheBytes = (content bytes : List ℕ) → IsBase64Text bytes content ↔ (bytes_of content ≡ Some bytes)

-- a content with its fault at the last byte consists of symbols, one more than a multiple of four
abbrev pub LeavesOneOver : Type 0
LeavesOneOver = (content : List ℕ) → bytes_of content ≡ None
    → (valid_from 0 content ≡ length content) ↔ (RunOf (is_one_of symbols) content × (length content % 4 ≡ 1))

-- no colon follows, or the content before the first colon is not Base64
abbrev pub IsBytesFault : List ℕ → Fault → Type 0
IsBytesFault t e =
    (HasNoColon t × (e ≡ by_rule UnterminatedByteSequence []))
    ⊎ ((content : List ℕ) × (rest : List ℕ) × (t ≡ content ++ colon ∷ rest) × HasNoColon content
    × (bytes_of content ≡ None) × (e ≡ content_fault content (drop (fault_place content) t)))
