-- A visitor and the events of a reader's result. As in the trait `Visitor`: `takes s e after`, `fails s e fault`.
use Rattle.std.specs.Prelude.{◌≡◌, ℕ, List, ◌∷◌, ◌++◌}
use Rattle.std.specs.List.{FoldsTo}
use Rattle.sfv_spec.specs.Values.{RawField, IsFieldValue}
use Rattle.sfv_spec.specs.declared.field_kind.FieldKind.{FieldKind}
use Rattle.sfv_spec.specs.declared.version.Version.{Version}
use Rattle.sfv_spec.specs.Grammar.{IsFieldText}
use Rattle.sfv_spec.specs.Events.{TreeEvent, events}
use Rattle.sfv_model.specs.Reader.{Answer, visited}

-- the visitor received all events of the result
abbrev pub Visited : {A S : Type 0} → (S → TreeEvent → S → Type 0) → (A → List TreeEvent) → Answer A → S → S → Type 0
Visited takes parts answer from to = FoldsTo takes from (visited parts answer) to

-- the visitor received the events before `e`, and failed at `e`
pub record VisitorFails {A S F : Type 0} (takes : S → TreeEvent → S → Type 0)
    (fails : S → TreeEvent → F → Type 0) (parts : A
    → List TreeEvent) (answer : Answer A) (from : S) (fault : F) : Type 0 where
  pub before : List TreeEvent
  pub e : TreeEvent
  pub after : List TreeEvent
  pub s : S
  pub all : visited parts answer ≡ before ++ e ∷ after
  pub taken : FoldsTo takes from before s
  pub failed : fails s e fault

-- es is a prefix of the events of some field of this type
pub record BeginsEvents (kind : FieldKind) (es : List TreeEvent) : Type 0 where
  pub raw : RawField kind
  pub is_value : IsFieldValue kind raw
  pub more : List TreeEvent
  pub all : events kind raw ≡ es ++ more

-- es is a prefix of the events of some field of this type whose text begins with u
pub record BeginsEventsAfter (version : Version) (kind : FieldKind) (u : List ℕ) (es : List TreeEvent) : Type 0 where
  pub raw : RawField kind
  pub more : List ℕ
  pub accepted : IsFieldText version kind raw (u ++ more)
  pub others : List TreeEvent
  pub all : events kind raw ≡ es ++ others
