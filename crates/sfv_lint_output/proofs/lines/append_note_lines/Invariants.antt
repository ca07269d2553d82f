use Rattle.std.proofs.Common.{◌≡◌, ◌++◌, take, flat_map, string_bytes}
use Rattle.sfv_lint_output.specs.Lines.{note_line}
use Rattle.sfv_lint_output.proofs.lines.append_note_lines.Given as goal

abbrev pub invariant-loop-note : goal.invariant-loop-note
invariant-loop-note l = string_bytes l.out
    ≡ string_bytes l.initial.out ++ flat_map (note_line l.colors) (take l.note-index l.notes)
