-- Results of parsing with a visitor.
use Rattle.std.specs.Prelude.{◌≡◌, ⊤, ℕ, List, [], Result, Ok, Err, ◌⊎◌, MatchOption, ◌≤◌, length, drop}
use Rattle.std.specs.declared.alloc.Global.{Global}
use Rattle.sfv_spec.specs.Values.{RawField}
use Rattle.sfv_spec.specs.declared.field_kind.FieldKind.{FieldKind}
use Rattle.sfv_spec.specs.declared.field_kind.FieldKind.TheVariants.{Item as item_field, List as list_field}
use Rattle.sfv_spec.specs.declared.field_kind.FieldKind.TheVariants.{Dictionary as dictionary_field}
use Rattle.sfv_spec.specs.declared.version.Version.{Version}
use Rattle.sfv_spec.specs.Events.{TreeEvent, events}
use Rattle.std.specs.List.{FoldsTo}
use Rattle.sfv_base.specs.declared.error.Error.{Error}
use Rattle.sfv_base.specs.declared.error.ParseError.{ParseError}
use Rattle.sfv_base.specs.declared.error.ParseError.TheVariants.{Syntax, Visitor}
use Rattle.sfv_base.specs.Errors.{kind_of, index_of}
use Rattle.sfv_model.specs.Reader.{Answer, Reader}
use Rattle.sfv_model.specs.Fields.{whole_field_at, read_field}
use Rattle.sfv_model.specs.Visits.{Visited, VisitorFails}
use Rattle.sfv.specs.declared.parser.Parser.{Parser}
use Rattle.sfv.specs.declared.parser.cursor.Cursor.{Cursor}
use Rattle.sfv.specs.parser.Cursor.{kept, kept_input, version, rest, IsErrorOf, located_whole}
use Rattle.sfv.specs.Memory.{IsRefusal}

-- the visitor receives these events and returns this result
abbrev pub ReturnsAfter : {S O : Type 0} → (S → TreeEvent → S → Type 0) → (S → O → Type 0) → S → List TreeEvent → O
    → Type 0
ReturnsAfter {S} takes finishes from es out = (last : S) × FoldsTo takes from es last × finishes last out

-- An error with an index comes after the visitor has received all events of the reader's result.
abbrev pub TookAll : {A S : Type 0} → (S → TreeEvent → S → Type 0) → (A → List TreeEvent) → Error → Answer A → S → S
    → Type 0
TookAll takes parts e answer from to = MatchOption (index_of e) ⊤ (λ index. Visited takes parts answer from to)

-- The result of a parsing function with a visitor, for a reader's result. `Ok`: the reader returns a value and this
-- rest, and the visitor received the value's events. A syntax error is the reader's fault, after the visitor received
-- the events before it, or it is out of memory. A visitor's error is at one of the events of the reader's result.
abbrev pub VisitsAnswer : {A S E : Type 0} → (S → TreeEvent → S → Type 0) → (S → TreeEvent → E → Type 0)
    → (A → List TreeEvent) → Parser × Global → Cursor → S → S → Result (Unit {0}) (ParseError E) → Answer A → Type 0
VisitsAnswer {A} takes fails parts k after from to (Ok u) answer = (v : A) × (answer ≡ Ok (v, rest after))
    × FoldsTo takes from (parts v) to × (kept after ≡ k)
VisitsAnswer takes fails parts k after from to (Err (Syntax e)) answer = IsErrorOf (kept_input k) e answer
    × TookAll takes parts e answer from to
VisitsAnswer takes fails parts k after from to (Err (Visitor f)) answer = VisitorFails takes fails parts answer from f

-- The same for the reader of the cursor's version, from the next byte on.
abbrev pub Visits : {A S E : Type 0} → (S → TreeEvent → S → Type 0) → (S → TreeEvent → E → Type 0)
    → (A → List TreeEvent) → Cursor → Cursor → S → S → Result (Unit {0}) (ParseError E) → (Version → Reader A) → Type 0
Visits takes fails parts before after from to result reader =
    VisitsAnswer takes fails parts (kept before) after from to result (reader (version before) (rest before))

-- the error is the visitor's, and `is` holds of it
abbrev pub IsOfVisitor : {E : Type 0} → (E → Type 0) → ParseError E → Type 0
IsOfVisitor is (Syntax error) = ⊥
IsOfVisitor is (Visitor fault) = is fault

-- If the text begins with a field, an error with an index comes only for an item, after the visitor has finished.
abbrev pub IsFinishedAt : {S O : Type 0} → (S → TreeEvent → S → Type 0) → (S → O → Type 0) → Version → FieldKind
    → List ℕ → S → Error → Type 0
IsFinishedAt {S} {O} takes finishes version kind t from e =
    (raw : RawField kind) (q : List ℕ) → whole_field_at version kind t ≡ Ok (raw, q)
    → MatchOption (index_of e) ⊤ (λ index. (kind ≡ item_field) × (out : O)
    × ReturnsAfter takes finishes from (events kind raw) out)

-- An error with an index comes after the visitor has taken all events that the reader gives of the field.
abbrev pub TookAllOf : {S : Type 0} → (S → TreeEvent → S → Type 0) → Version → FieldKind → List ℕ → S → Error → Type 0
TookAllOf {S} takes version kind t from e = MatchOption (index_of e) ⊤
    (λ index. (to : S) × Visited takes (events kind) (whole_field_at version kind t) from to)

-- The visitor finishes here: after an item whatever follows, and after members only at the end of the input.
abbrev pub IsAskedThere : FieldKind → List ℕ → Type 0
IsAskedThere item_field q = ⊤
IsAskedThere list_field q = q ≡ []
IsAskedThere dictionary_field q = q ≡ []

-- The result of parsing a whole field with a visitor, which then finishes or fails to finish.
abbrev pub VisitsField : {S O E : Type 0} → (S → TreeEvent → S → Type 0) → (S → TreeEvent → E → Type 0)
    → (S → O → Type 0) → (S → E → Type 0) → Version → (kind : FieldKind) → List ℕ → S → Result O (ParseError E) → Type 0
VisitsField takes fails finishes finish_fails version kind t from (Ok out) = (raw : RawField kind)
    × (read_field version kind t ≡ Ok raw) × ReturnsAfter takes finishes from (events kind raw) out
VisitsField takes fails finishes finish_fails version kind t from (Err (Syntax e)) =
    MatchOption (index_of e) (IsRefusal t e)
    (λ index. (located_whole (read_field version kind t) ≡ Err (kind_of e, drop index t)) × (index ≤ length t))
    × IsFinishedAt takes finishes version kind t from e × TookAllOf takes version kind t from e
VisitsField {S} takes fails finishes finish_fails version kind t from (Err (Visitor f)) =
    VisitorFails takes fails (events kind) (whole_field_at version kind t) from f
    ⊎ ((raw : RawField kind) × (q : List ℕ) × (s : S) × (whole_field_at version kind t ≡ Ok (raw, q))
    × FoldsTo takes from (events kind raw) s × finish_fails s f × IsAskedThere kind q)
