use Rattle.std.proofs.Common.{◌≡◌, take, map}
use Rattle.serde_json.specs.View.{view}
use Rattle.sfv_lint_notes.specs.Notes.{note_text}
use Rattle.serde_json.specs.Data as json
use Rattle.sfv_lint_output.proofs.document.note_values.Given as goal

abbrev pub invariant-loop-note : goal.invariant-loop-note
invariant-loop-note l = map view l.texts.items
    ≡ map (λ note. json.string (note_text note)) (take l.note-index l.notes)
