-- What a receiver of events receives.
use Rattle.std.specs.Prelude.{◌≡◌, ℕ, List, map}
use Rattle.std.specs.List.{FoldsTo}
use Rattle.sfv.specs.Types.{FieldKind, Version}
use Rattle.sfv.specs.Grammar.{HasField}
use Rattle.sfv.specs.Events.{events}
use Rattle.sfv.specs.EventValues.{event_of}
use Rattle.sfv.specs.Parsers.{AreReadFrom}
use Rattle.sfv_tree.specs.declared.visitor.Event.{Event}

-- The input is exactly one field. The receiver receives its events as read from the input (`AreReadFrom`).
abbrev pub IsReceived : {S : Type 0} → (S → Event → S → Type 0) → Version → FieldKind → List ℕ → S → S → Type 0
IsReceived receives version kind input before after =
    HasField version kind input (λ raw. (es : List Event) × (map event_of es ≡ events kind raw)
    × AreReadFrom version es input × FoldsTo receives before es after)
