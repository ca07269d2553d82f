-- Rows that are written as a text.
use Rattle.std.specs.Prelude.{◌≡◌, ℕ, ◌+◌, ◌≤◌, ◌<◌, List, ◌++◌, length, take, Option, Some, None, Result, Ok, Err}
use Rattle.std.specs.List.{AllZip}
use Rattle.sfv.specs.Values.{RawField, IsFieldValue, HasMember, bare_values, Fits}
use Rattle.sfv.specs.Types.{FieldKind, Version, BareItemType}
use Rattle.sfv.specs.Events.{TreeEvent, events}
use Rattle.sfv.specs.Ordered.{ordered}
use Rattle.sfv.specs.Canonical.{canonical}
use Rattle.sfv.specs.Statements.{IsParsedAs}
use Rattle.sfv.specs.Versions.{IsSerializeError}
use Rattle.sfv.specs.Types.serialize_errors as errors
use Rattle.sfv_c.specs.Answers.{PutsText, outcome_answer}
use Rattle.sfv_c.specs.declared.answer.Answer.{Answer}
use Rattle.sfv_c.specs.declared.answer.Written.{Written}
use Rattle.sfv_c.specs.declared.answer.CallFault.{CallFault}
use Rattle.sfv_c.specs.declared.answer.CallFault.TheVariants as faults
use Rattle.sfv_c.specs.declared.rows.Row.{Row}
use Rattle.sfv_c.specs.Rows.{IsRowOf}

-- one row for each event, in order
abbrev pub AreRowsOf : List Row → List TreeEvent → Type 0
AreRowsOf rows es = AllZip IsRowOf rows es

-- the rows are the rows of this field, which may repeat keys
pub record AreRowsOfField (kind : FieldKind) (rows : List Row) (raw : RawField kind) : Type 0 where
  pub value : IsFieldValue kind raw
  pub in_rows : AreRowsOf rows (events kind raw)

-- es is a prefix of the events of some field of this type
pub record BeginsEvents (kind : FieldKind) (es : List TreeEvent) : Type 0 where
  pub raw : RawField kind
  pub is_value : IsFieldValue kind raw
  pub more : List TreeEvent
  pub all : events kind raw ≡ es ++ more

-- the rows are a prefix of the rows of some field
pub record BeginRowsOfField (kind : FieldKind) (rows : List Row) : Type 0 where
  pub es : List TreeEvent
  pub in_rows : AreRowsOf rows es
  pub begins : BeginsEvents kind es

-- The rows are not the rows of a field. The index is the first wrong row: the rows before it are a prefix of some
-- field's, and with it they are not. Or the index is the number of rows, and more are needed.
pub record AreWrongAt (kind : FieldKind) (rows : List Row) (n : ℕ) : Type 0 where
  pub within : n ≤ length rows
  pub begun : BeginRowsOfField kind (take n rows)
  pub wrong : n < length rows → ¬ BeginRowsOfField kind (take (n + 1) rows)
  pub no_field : (raw : RawField kind) → ¬ AreRowsOfField kind rows raw

-- The text of a field: nothing for an empty list or dictionary, otherwise its canonical text, repeated keys
-- included, which parses to the field's ordered value.
abbrev pub IsScriptText : Version → (kind : FieldKind) → RawField kind → Option (List ℕ) → Type 0
IsScriptText version kind raw None = ¬ HasMember kind raw
IsScriptText version kind raw (Some t) =
    HasMember kind raw × (t ≡ canonical kind raw) × IsParsedAs version kind t (ordered kind raw)

-- the rows are the rows of a field that the version has, and its text is in the buffer
pub record PutsRows (version : Version) (kind : FieldKind) (rows : List Row) (old new : List ℕ) (w : Written)
    : Type 0 where
  pub raw : RawField kind
  pub rows_of : AreRowsOfField kind rows raw
  pub fits : Fits version kind raw
  pub text : Option (List ℕ)
  pub written : IsScriptText version kind raw text
  pub put : PutsText text old new w

-- the rows are the rows of a field, and the first value that the version lacks has this kind
pub record HoldsUnfit (version : Version) (kind : FieldKind) (rows : List Row) (unfit : BareItemType)
    : Type 0 where
  pub raw : RawField kind
  pub rows_of : AreRowsOfField kind rows raw
  pub error : IsSerializeError version (bare_values kind raw) (errors.Unsupported unfit)

-- The reason why rows are not written. Memory runs out only if the first two rows begin a field. Rows are invalid
-- only if no field has them; the index is then the first wrong row, or their number.
abbrev pub IsWriteFault : Version → FieldKind → List Row → CallFault → Type 0
IsWriteFault version kind rows (faults.Read e) = ⊥
IsWriteFault version kind rows (faults.Write errors.OutOfMemory) =
    (1 < length rows) × BeginRowsOfField kind (take 2 rows)
IsWriteFault version kind rows (faults.Write (errors.Unsupported unfit)) = HoldsUnfit version kind rows unfit
IsWriteFault version kind rows (faults.Rows n) = AreWrongAt kind rows n

abbrev pub IsWriteOutcome : Version → FieldKind → List Row → List ℕ → List ℕ → Result Written CallFault → Type 0
IsWriteOutcome version kind rows old new (Ok w) = PutsRows version kind rows old new w
IsWriteOutcome version kind rows old new (Err fault) = IsWriteFault version kind rows fault × (new ≡ old)

-- The rows are written, or not. The result encodes this.
pub record IsWrite (version : Version) (kind : FieldKind) (rows : List Row) (old new : List ℕ) (a : Answer)
    : Type 0 where
  pub outcome : Result Written CallFault
  pub is_outcome : IsWriteOutcome version kind rows old new outcome
  pub in_numbers : a ≡ outcome_answer outcome
