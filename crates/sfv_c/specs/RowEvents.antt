-- The events of rows, their order, and their text.
use Rattle.std.specs.Prelude.{◌≡◌, MatchOption, MatchResult, ⊤, ◌⊎◌, ℕ, ◌+◌, List, [], ◌∷◌, ◌++◌, drop, codes}
use Rattle.std.specs.Prelude.{Bool, true, false, IsTrue, Option, Some, None, if◌then◌else◌, Result, option_map}
use Rattle.std.specs.Prelude.{string_bytes, length}
use Rattle.std.specs.Borrow.{Bor}
use Rattle.std.specs.declared.alloc.Global.{Global}
use Rattle.std.specs.declared.string.String as std_string
use Rattle.sfv.specs.Values.{BareValue, token, IsBareValue, AllFit}
use Rattle.sfv.specs.Types.{FieldKind, item_field, list_field, dictionary_field, Version, GenericBareItem, ParamCall}
use Rattle.sfv.specs.Types.{SerializeError}
use Rattle.sfv.specs.Types.serialize_errors as errors
use Rattle.sfv.specs.Classes.{is_key}
use Rattle.sfv.specs.Events.{TreeEvent, entry, keyed_entry, begins_item, begins_inner_list, bare_item, parameter}
use Rattle.sfv.specs.Events.{parameters_end, inner_list_end}
use Rattle.sfv.specs.Canonical.{bare_text, value_text}
use Rattle.sfv.specs.Written.{separator_before, LacksRoom}
use Rattle.sfv.specs.Versions.{NamesFirstUnfit}
use Rattle.sfv.specs.BareItems.{ref_value}
use Rattle.sfv.specs.StringText.{StringRef}
use Rattle.sfv.specs.TokenText.{TokenRef}
use Rattle.sfv.specs.KeyText.{KeyRef}
use Rattle.sfv.specs.CheckedTexts.{text_of}
use Rattle.sfv_c.specs.Rows.{ValueNumbers, EventNumbers, value_numbers, IsRowOf}
use Rattle.sfv_c.specs.declared.rows.Row.{Row}
use Rattle.sfv_c.specs.declared.output.Output.{Output}
use Rattle.sfv_c.specs.declared.rows_to_text.WrongRow.{WrongRow}

abbrev pub RefItem : Type 0
RefItem = GenericBareItem StringRef (Bor (List ℕ)) TokenRef (Bor (List ℕ))

-- its key is a key, and its value is in its range or class
abbrev pub IsValidEvent : TreeEvent → Type 0
IsValidEvent (keyed_entry key) = IsTrue (is_key key)
IsValidEvent (bare_item value) = IsBareValue value
IsValidEvent (parameter key value) = IsTrue (is_key key) × IsBareValue value
IsValidEvent e = ⊤

-- `Some` item of these parts, or no item has them
abbrev pub GivesItem : ValueNumbers → Option RefItem → Type 0
GivesItem p r = MatchOption r ((v : BareValue) → IsBareValue v → ¬ (value_numbers (Some v) ≡ p))
    (λ item. IsBareValue (ref_value item) × (value_numbers (Some (ref_value item)) ≡ p))

-- an event without key and value, as numbers
abbrev pub plain_numbers : ℕ → EventNumbers
plain_numbers tag = record { tag = tag; key = []; value = value_numbers None }

-- `Some` key whose `keyed_entry` satisfies `Is`, or no valid one does
abbrev pub GivesKey : (TreeEvent → Type 0) → Option KeyRef → Type 0
GivesKey Is r = MatchOption r ((key : List ℕ) → IsTrue (is_key key) → ¬ Is (keyed_entry key))
    (λ key. IsTrue (is_key (text_of key)) × Is (keyed_entry (text_of key)))

-- `Some` value whose `bare_item` satisfies `Is`, or no valid one does
abbrev pub GivesValue : (TreeEvent → Type 0) → Option RefItem → Type 0
GivesValue Is r = MatchOption r ((v : BareValue) → IsBareValue v → ¬ Is (bare_item v))
    (λ item. IsBareValue (ref_value item) × Is (bare_item (ref_value item)))

-- `Some` call whose `parameter` satisfies `Is`, or no valid one does
abbrev pub GivesParameter : (TreeEvent → Type 0) → Option ParamCall → Type 0
GivesParameter Is r =
    MatchOption r ((key : List ℕ) (v : BareValue) → IsTrue (is_key key) → IsBareValue v → ¬ Is (parameter key v))
    (λ call. IsTrue (is_key (text_of call.key)) × IsBareValue (ref_value call.value)
    × Is (parameter (text_of call.key) (ref_value call.value)))

-- the rows are those of these valid events, followed by these rows
abbrev pub Reads : List Row → List TreeEvent → List Row → Type 0
Reads rows [] rest = rows ≡ rest
Reads [] (e ∷ es) rest = ⊥
Reads (row ∷ rows) (e ∷ es) rest = IsValidEvent e × IsRowOf row e × Reads rows es rest

-- the rows at this index are those of an entry with this value, without key and parameters
abbrev pub IsPlainEntryAt : List Row → ℕ → BareValue → Type 0
IsPlainEntryAt rows at v =
    Reads (drop at rows) (entry ∷ begins_item ∷ bare_item v ∷ parameters_end ∷ []) (drop (at + 4) rows)

-- the rows are those of a token without parameters
abbrev pub IsTokenAlone : List Row → List ℕ → Type 0
IsTokenAlone rows t = Reads rows (bare_item (token t) ∷ parameters_end ∷ []) []

-- A place in a field: what may come next. A member and a value have a key or not. No member of a list or dictionary, or
-- no item of an inner list, has come yet, or one has.
pub data ParseState : Type 0 where
  ended : ParseState
  list_members dictionary_members : Bool → ParseState
  member value items : Bool → ParseState → ParseState
  parameters : ParseState → ParseState

-- the place at the start of a field
abbrev pub beginning : FieldKind → ParseState
beginning item_field = value false ended
beginning list_field = list_members true
beginning dictionary_field = dictionary_members true

-- the place after an event, if the event may come here
abbrev pub after : ParseState → TreeEvent → Option ParseState
after (list_members is_first) entry = Some (member false (list_members false))
after (dictionary_members is_first) (keyed_entry key) = Some (member true (dictionary_members false))
after (member keyed p) begins_item = Some (value keyed p)
after (member keyed p) begins_inner_list = Some (items true p)
after (value keyed p) (bare_item v) = Some (parameters p)
after (parameters p) (parameter key v) = Some (parameters p)
after (parameters p) parameters_end = Some p
after (items is_first p) begins_item = Some (value false (items false p))
after (items is_first p) inner_list_end = Some (parameters p)
after p e = None

-- a field may end here
abbrev pub may_end : ParseState → Bool
may_end ended = true
may_end (list_members is_first) = true
may_end (dictionary_members is_first) = true
may_end p = false

-- a part of a canonical text, and the bare values in it
pub record Piece : Type 0 where
  pub text : List ℕ
  pub values : List BareValue

abbrev pub text_only : List ℕ → Piece
text_only text = record { text = text; values = [] }

abbrev pub followed_by : Piece → Piece → Piece
followed_by a b = record { text = a.text ++ b.text; values = a.values ++ b.values }

-- a bare item, or the value of a key
abbrev pub item_piece : Bool → BareValue → Piece
item_piece keyed v = record { text = if keyed then value_text v else bare_text v; values = v ∷ [] }

-- what an event adds at this place
abbrev pub piece : ParseState → TreeEvent → Piece
piece (list_members is_first) entry = text_only (separator_before is_first (codes ", "))
piece (dictionary_members is_first) (keyed_entry key) = text_only (separator_before is_first (codes ", ") ++ key)
piece (member keyed p) begins_inner_list = text_only (if keyed then codes "=(" else codes "(")
piece (value keyed p) (bare_item v) = item_piece keyed v
piece (parameters p) (parameter key v) = followed_by (text_only (codes ";" ++ key)) (item_piece true v)
piece (items is_first p) begins_item = text_only (separator_before is_first (codes " "))
piece (items is_first p) inner_list_end = text_only (codes ")")
piece p e = text_only []

-- what these events add from this place to the end of a field, if they may come here
abbrev pub added : ParseState → List TreeEvent → Option Piece
added p [] = if may_end p then Some (text_only []) else None
added p (e ∷ es) = elim (after p e) [ None ↦ None | Some next ↦ option_map (followed_by (piece p e)) (added next es) ]

-- the next row has no event that may come here, or no row is left and the field may not end here
abbrev pub IsStuck : ParseState → List Row → Type 0
IsStuck p [] = may_end p ≡ false
IsStuck p (row ∷ rows) = (e : TreeEvent) → IsValidEvent e → IsRowOf row e → after p e ≡ None

-- memory ran out, or the error names the first of these values that the version lacks
abbrev pub IsErrorOf : Version → List BareValue → SerializeError → Type 0
IsErrorOf version values e = (e ≡ errors.OutOfMemory) ⊎ NamesFirstUnfit version values e

-- the version has the values of the piece, and its text is appended; or there is an error
abbrev pub IsAppended : Version → Piece → std_string.String Global → std_string.String Global → Option SerializeError
    → Type 0
IsAppended version x old new error =
    MatchOption error (AllFit version x.values × (string_bytes new ≡ string_bytes old ++ x.text))
    (IsErrorOf version x.values)

-- the piece is appended, or the output has an error; an error that it had stays
pub record Appends (x : Piece) (before now : Output) : Type 0 where
  pub version : now.version ≡ before.version
  pub state : MatchOption before.error (IsAppended before.version x before.text now.text now.error)
      (λ e. now.error ≡ Some e)

-- memory runs out only if the capacity is too small for the piece
abbrev pub LacksForPiece : Piece → Output → Output → Type 0
LacksForPiece x before now =
    before.error ≡ None → now.error ≡ Some errors.OutOfMemory → LacksRoom before.text x.text

-- The rows from one index up to another have events that lead from place `p` to `q`, and what they add is appended.
pub record Writes (rows : List Row) (p q : ParseState) (start at : ℕ) (before now : Output) : Type 0 where
  pub es : List TreeEvent
  pub read : Reads (drop start rows) es (drop at rows)
  pub count : at ≡ start + length es
  pub piece : Piece
  pub leads : (more : List TreeEvent) → added p (es ++ more) ≡ option_map (followed_by piece) (added q more)
  pub appends : Appends piece before now

-- The rows up to an index are written, and the row at this index is wrong, or more rows are needed.
pub record StopsAt (rows : List Row) (p : ParseState) (start at : ℕ) (before now : Output) : Type 0 where
  pub place : ParseState
  pub writes : Writes rows p place start at before now
  pub stuck : IsStuck place (drop at rows)

-- the rows are written up to the returned index and lead to `q`, or the error has the index of the first wrong row
abbrev pub WritesOrStops : List Row → ParseState → ParseState → ℕ → Output → Output → Result ℕ WrongRow → Type 0
WritesOrStops rows p q start before now r = MatchResult r (λ at. Writes rows p q start at before now)
    (λ wrong. StopsAt rows p start wrong.index before now)

-- all rows are written, and the field may end
pub record WritesAll (rows : List Row) (p : ParseState) (before now : Output) : Type 0 where
  pub place : ParseState
  pub at : ℕ
  pub writes : Writes rows p place 0 at before now
  pub ends : may_end place ≡ true
  pub over : drop at rows ≡ []

-- the same for a whole field
abbrev pub WritesAllOrStops : List Row → FieldKind → Output → Output → Result Unit WrongRow → Type 0
WritesAllOrStops rows kind before now r = MatchResult r (λ _. WritesAll rows (beginning kind) before now)
    (λ wrong. StopsAt rows (beginning kind) 0 wrong.index before now)
