-- Events in rows that point to their texts.
use Rattle.std.specs.Prelude.{◌≡◌, ℕ, ◌+◌, ◌-◌, ◌^◌, ◌≤◌, min, List, length, map, drop, ◌++◌, Result, Ok, Err}
use Rattle.std.specs.Prelude.{nat_lt, slice_set, if◌then◌else◌}
use Rattle.std.specs.List.{AllZip, sum_by}
use Rattle.std.specs.Borrow.{MutBor}
use Rattle.std.specs.Cow.{cow_str_bytes}
use Rattle.sfv.specs.Types.{FieldKind, Version, Error}
use Rattle.sfv.specs.Types.bare_items as bare
use Rattle.sfv.specs.Grammar.{HasField}
use Rattle.sfv.specs.Events.{TreeEvent, events}
use Rattle.sfv.specs.EventValues.{event_of}
use Rattle.sfv.specs.BareItems.{read_text, is_borrowed_string, is_borrowed_text}
use Rattle.sfv.specs.ProvidedVisitors.{ReadBareItem}
use Rattle.sfv.specs.Parsers.{AreReadFrom}
use Rattle.sfv_tree.specs.declared.visitor.Event.{Event}
use Rattle.sfv_tree.specs.declared.visitor.Event.TheVariants as event
use Rattle.sfv_c.specs.declared.answer.Answer.{Answer}
use Rattle.sfv_c.specs.declared.rows.Row.{Row}
use Rattle.sfv_c.specs.declared.events.Collector.{Collector}
use Rattle.sfv_c.specs.Answers.{answer, refusal, bad_argument, IsReadingError}
use Rattle.sfv_c.specs.Rows.{EventNumbers, numbers_of, row_parts, IsRowOf}

-- a saturating sum, at most the largest 64-bit number
abbrev pub counted : ℕ → ℕ
counted n = min n (2 ^ 64 - 1)

-- The bytes of room for a value, as read: the length of a decoded text or byte sequence, and 0 for a text that is
-- borrowed from the input.
abbrev pub room_of_read : ReadBareItem → ℕ
room_of_read (bare.String text) = if is_borrowed_string text then 0 else length (read_text text)
room_of_read (bare.ByteSequence bytes) = length bytes.items
room_of_read (bare.DisplayString text) = if is_borrowed_text text then 0 else length (cow_str_bytes text)
room_of_read read = 0

-- the bytes of room for an event
abbrev pub room_of : Event → ℕ
room_of (event.BareItem read) = room_of_read read
room_of (event.Parameter key read) = room_of_read read
room_of e = 0

-- the collector of these rows and this room, of which nothing is used
abbrev pub collector_of : MutBor (List Row) → MutBor (List ℕ) → Collector
collector_of rows room = record { rows = rows; count = 0; room = room; used = 0 }

-- the rows with this one at this index, if they have the index
abbrev pub put_row : List Row → ℕ → Row → List Row
put_row rows at row = if nat_lt at (length rows) then slice_set rows at row else rows

-- The collector after one more row, which takes `n` bytes of room. If they fit, the row holds these parts.
pub record IsRowKept (before : Collector) (p : EventNumbers) (n : ℕ) (after : Collector) : Type 0 where
  pub row : Row
  pub same_rows : after.rows.ghost_name ≡ before.rows.ghost_name
  pub put : after.rows.now ≡ put_row before.rows.now before.count row
  pub count : after.count ≡ counted (before.count + 1)
  pub used : after.used ≡ counted (before.used + n)
  pub holds : n ≤ length before.room.now
      → (row_parts row ≡ p) × (length after.room.now + n ≡ length before.room.now)

-- the collector after an event
abbrev pub TakesRow : Collector → Event → Collector → Type 0
TakesRow before e after = IsRowKept before (numbers_of (event_of e)) (room_of e) after

-- There is one row for each of these events, which were read from the input (`AreReadFrom`). The rows take `used` bytes
-- of room, at most the largest 64-bit number. If these bytes fit, the rows are the rows of the events.
pub record AreCollected (version : Version) (es : List TreeEvent) (input : List ℕ) (room : ℕ) (rows : List Row)
    (used : ℕ) : Type 0 where
  pub read : List Event
  pub events_of : map event_of read ≡ es
  pub read_from : AreReadFrom version read input
  pub used_is : used ≡ counted (sum_by room_of read)
  pub count : length rows ≡ length es
  pub rows_of : used ≤ room → AllZip IsRowOf rows es

-- the same for the events of the only field that the grammar gives the input
abbrev pub AreRows : Version → FieldKind → List ℕ → ℕ → List Row → ℕ → Type 0
AreRows version kind input room rows used =
    HasField version kind input (λ raw. AreCollected version (events kind raw) input room rows used)

-- The buffer and the result. If the rows and their texts fit, the rows are written, and the rest of the buffer is
-- unchanged. Otherwise the result has the required numbers, each at most the largest 64-bit number.
pub record AreWritten (rows : List Row) (used : ℕ) (old : List Row) (room : ℕ) (after : List Row × Answer) : Type 0 where
  pub fit : (length rows ≤ length old) × (used ≤ room)
      → after ≡ (rows ++ drop (length rows) old, answer 0 0 0 used (length rows))
  pub too_small : ¬ ((length rows ≤ length old) × (used ≤ room))
      → after.1 ≡ answer 2 0 0 used (counted (length rows))

-- the buffer unchanged, and the result for an argument without a meaning
abbrev pub left_alone : List Row → List Row × Answer
left_alone old = (old, bad_argument)

-- the outcome of parsing: the rows and the bytes of room that they take, or the error
abbrev pub IsReading : Version → FieldKind → List ℕ → ℕ → Result (List Row × ℕ) Error → Type 0
IsReading version kind input room (Ok m) = AreRows version kind input room m.0 m.1
IsReading version kind input room (Err e) = IsReadingError version kind input e

-- the buffer and the result after this outcome
abbrev pub IsPutOf : List Row → ℕ → Result (List Row × ℕ) Error → List Row × Answer → Type 0
IsPutOf old room (Ok m) after = AreWritten m.0 m.1 old room after
IsPutOf old room (Err e) after = after.1 ≡ refusal e

-- the buffer and the result after parsing: the rows of the only field, if they and their texts fit; or the error
pub record PutsEvents (version : Version) (kind : FieldKind) (input : List ℕ) (old : List Row) (room : ℕ)
    (after : List Row × Answer) : Type 0 where
  pub outcome : Result (List Row × ℕ) Error
  pub reading : IsReading version kind input room outcome
  pub put : IsPutOf old room outcome after
