-- The events that a visitor receives as read, with the text from which each is read.
use Rattle.std.specs.Prelude.{◌≡◌, ℕ, List, ◌++◌, Result, OnOk}
use Rattle.sfv_spec.specs.declared.version.Version.{Version}
use Rattle.sfv_spec.specs.declared.field_kind.FieldKind.{FieldKind}
use Rattle.sfv_spec.specs.Events.{TreeEvent}
use Rattle.sfv_base.specs.declared.error.ParseError.{ParseError}
use Rattle.sfv_values.specs.KeyText.{KeyRef}
use Rattle.sfv_values.specs.CheckedTexts.{text_of}
use Rattle.sfv_tree.specs.declared.visitor.Event.{Event}
use Rattle.sfv_tree.specs.declared.visitor.Visitor.{Ghosts as Visitor}
use Rattle.sfv_tree.specs.Events.{event_of}
use Rattle.sfv_tree.specs.ProvidedVisitors.{ReadBareItem}
use Rattle.sfv_model.specs.Reader.{Reader}
use Rattle.sfv.specs.declared.parser.cursor.Cursor.{Cursor}
use Rattle.sfv.specs.declared.parser.Parser.{Parser}
use Rattle.sfv.specs.Parsers.{input_of, version_of, HasNoQuote, IsReadAs, IsEventText}
use Rattle.sfv.specs.parser.Cursor.{version, rest}
use Rattle.sfv.specs.parser.Visits.{Visits, VisitsField}

-- the bytes of `t` before its end `r` have no double quote
abbrev pub Passes : List ℕ → List ℕ → Type 0
Passes t r = (s : List ℕ) × (t ≡ s ++ r) × HasNoQuote s

-- the text of the value comes next in `t`, and `r` follows it
pub record IsNextValue (version : Version) (read : ReadBareItem) (t r : List ℕ) : Type 0 where
  pub gap : List ℕ
  pub at : List ℕ
  pub text : t ≡ gap ++ at ++ r
  pub quiet : HasNoQuote gap
  pub means : IsReadAs version read at

-- the key comes next in `t`, then its value, and `r` follows it
pub record IsNextParameter (version : Version) (key : KeyRef) (read : ReadBareItem) (t r : List ℕ) : Type 0 where
  pub gap : List ℕ
  pub after : List ℕ
  pub text : t ≡ gap ++ text_of key ++ after
  pub quiet : HasNoQuote gap
  pub value : IsNextValue version read after r

-- the same for the text of an event
abbrev pub IsNextEvent : Version → Event → List ℕ → List ℕ → Type 0
IsNextEvent version e t r = (gap at : List ℕ) × (t ≡ gap ++ at ++ r) × HasNoQuote gap × IsEventText version e at

-- The visitor receives the event as read. A state has the text after the events so far.
abbrev pub TakesNext : {S O E : Type 0} → Visitor S O E → Version → S × List ℕ → TreeEvent → S × List ℕ → Type 0
TakesNext v version from e to = (read : Event) × (event_of read ≡ e)
    × v.takes from.0 (event_of read) to.0 × v.takes_read from.0 read to.0 × IsNextEvent version read from.1 to.1

-- the visitor fails at the event as read
abbrev pub FailsNext : {S O E : Type 0} → Visitor S O E → Version → S × List ℕ → TreeEvent → E → Type 0
FailsNext v version from e error = (read : Event) × (event_of read ≡ e) × v.fails from.0 (event_of read) error
    × v.fails_read from.0 read error × (r : List ℕ) × IsNextEvent version read from.1 r

-- The result of a parsing function with a visitor, as `Visits`, where the visitor receives the events as read. `t` is
-- the text after the event before, and `r` is the text after the last event.
abbrev pub VisitsAsRead : {A S O E : Type 0} → Visitor S O E → (A → List TreeEvent) → Cursor → Cursor → S → S
    → Result (Unit {0}) (ParseError E) → (Version → Reader A) → Type 0
VisitsAsRead v parts before after from to result reader = (t : List ℕ) → Passes t (rest before)
    → (r : List ℕ) × OnOk result (Passes r (rest after)) × Visits (TakesNext v (version before))
    (FailsNext v (version before)) parts before after (from, t) (to, r) result reader

-- the same for a whole field, from the start of the input
abbrev pub VisitsFieldAsRead : {S O E : Type 0} → Visitor S O E → Parser → FieldKind → S → Result O (ParseError E)
    → Type 0
VisitsFieldAsRead v p kind from result = VisitsField (TakesNext v (version_of p)) (FailsNext v (version_of p))
    (λ s out. v.finishes s.0 out) (λ s error. v.finish_fails s.0 error) (version_of p) kind (input_of p)
    (from, input_of p) result
