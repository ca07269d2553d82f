-- The printed report.
use Rattle.std.specs.Prelude.{ℕ, ◌==◌, List, [], ◌++◌, length, if◌then◌else◌, map, flat_map, filter, codes}
use Rattle.std.specs.Prelude.{Option, Some, None, Result, Ok, Err, string_bytes, decimal}
use Rattle.std.specs.declared.alloc.Global.{Global}
use Rattle.std.specs.declared.string.String.{String}
use Rattle.std.specs.declared.vec.Vec.{Vec}
use Rattle.sfv.specs.Types.{Error}
use Rattle.sfv.specs.Errors.{kind_of, index_of}
use Rattle.sfv.specs.Messages.{message_of}
use Rattle.sfv_lint_head.specs.Shown.{shown}
use Rattle.sfv_lint_head.specs.Excerpts.{marked}
use Rattle.sfv_lint_head.specs.Paint.{painted}
use Rattle.sfv_lint_head.specs.declared.paint.Colors.{Colors}
use Rattle.sfv_lint_head.specs.declared.paint.Tone.TheVariants.{Good, Bad}
use Rattle.sfv_lint_report.specs.declared.check.Accepted.{Accepted}
use Rattle.sfv_lint_report.specs.declared.report.Field.{Field}
use Rattle.sfv_lint_report.specs.declared.report.Report.{Report}
use Rattle.sfv_lint_report.specs.Reports.{lines_of, has_error}

-- the canonical text after two spaces, if there is one
abbrev pub canonical_text : Option (String Global) → List ℕ
canonical_text None = []
canonical_text (Some text) = codes "  " ++ string_bytes text

-- `ok` and the canonical text; or the error, and its line with a caret
abbrev pub outcome_text : Colors → List (List ℕ) → Result Accepted Error → List ℕ
outcome_text colors lines (Ok accepted) = painted colors Good (codes "ok") ++ canonical_text accepted.text ++ codes "\n"
outcome_text colors lines (Err error) = painted colors Bad (codes "error:") ++ codes " " ++ message_of (kind_of error)
    ++ codes "\n" ++ marked lines (index_of error)

-- the report on one field
abbrev pub field_text : Colors → Field → List ℕ
field_text colors field = shown field.name.items ++ codes ": " ++ outcome_text colors (lines_of field) field.outcome

-- a count, its noun, and what follows
abbrev pub count_text : ℕ → List ℕ → List ℕ → List ℕ → List ℕ
count_text number one more end = decimal number ++ codes " " ++ (if number == 1 then one else more) ++ end

-- the last line of a report on a head: how many structured fields, errors and other field lines there are
abbrev pub summary_text : Report → List ℕ
summary_text report =
    count_text (length report.fields.items) (codes "structured field") (codes "structured fields") (codes ", ")
    ++ count_text (length (filter has_error report.fields.items)) (codes "error") (codes "errors") (codes ", ")
    ++ count_text (length report.others.items) (codes "other") (codes "others") (codes "\n")

-- the line of another field line
abbrev pub other_text : List ℕ → List ℕ
other_text name = shown name ++ codes ": not checked\n"

-- the lines of other field lines
abbrev pub others_text : List (Vec ℕ Global) → List ℕ
others_text names = flat_map (λ name. other_text name.items) names
