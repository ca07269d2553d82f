-- A report as lines.
use Rattle.std.specs.Prelude.{◌≡◌, ℕ, List, [], ◌++◌, Bool, true, codes, flat_map, if◌then◌else◌, Result, Ok, Err}
use Rattle.std.specs.List.{AllZip, concat}
use Rattle.sfv_lint_head.specs.declared.paint.Colors.{Colors}
use Rattle.sfv_lint_head.specs.declared.paint.Tone.TheVariants as tones
use Rattle.sfv.specs.Trees.{item_tree, list_tree, dictionary_tree}
use Rattle.sfv.specs.Types.{Error, item_field, list_field, dictionary_field}
use Rattle.sfv_lint_json.specs.Trees.{field_lines}
use Rattle.sfv_lint_report.specs.declared.check.Accepted.{Accepted}
use Rattle.sfv_lint_report.specs.declared.check.FieldValue.{FieldValue}
use Rattle.sfv_lint_report.specs.declared.check.FieldValue.TheVariants as values
use Rattle.sfv_lint_report.specs.declared.report.Field.{Field}
use Rattle.sfv_lint_report.specs.declared.report.Report.{Report}
use Rattle.sfv_lint_head.specs.Paint.{painted}
use Rattle.sfv_lint_report.specs.Prints.{field_text, summary_text, others_text}
use Rattle.sfv_lint_report.specs.Reports.{has_error}
use Rattle.sfv_lint_notes.specs.declared.notes.Note.{Note}
use Rattle.sfv_lint_notes.specs.Notes.{note_text}

-- the line of a note
abbrev pub note_line : Colors → Note → List ℕ
note_line colors note =
    codes "    " ++ painted colors tones.Note (codes "note:") ++ codes " " ++ note_text note ++ codes "\n"

-- the lines of a value as a tree
abbrev pub value_lines : FieldValue → List ℕ
value_lines (values.Item item) = field_lines item_field (item_tree item)
value_lines (values.List list) = field_lines list_field (list_tree list.items)
value_lines (values.Dictionary dictionary) = field_lines dictionary_field (dictionary_tree dictionary.entries)

-- the lines of the value of an accepted field
abbrev pub outcome_lines : Result Accepted Error → List ℕ
outcome_lines (Ok accepted) = value_lines accepted.value
outcome_lines (Err error) = []

-- the tree of a field, with `--tree`; a field with an error has none
abbrev pub tree_lines : Bool → Field → List ℕ
tree_lines tree field = if tree then outcome_lines field.outcome else []

-- the lines on a field: its report, its tree with `--tree`, and its notes; the report alone if it has an error
pub record IsBlock (colors : Colors) (tree : Bool) (field : Field) (text : List ℕ) : Type 0 where
  pub notes : List Note
  pub is : text ≡ field_text colors field ++ tree_lines tree field ++ flat_map (note_line colors) notes
  pub rejected : has_error field ≡ true → notes ≡ []

-- the notes of the field are appended; a field with an error has none
pub record AppendsNotes (colors : Colors) (field : Field) (old new : List ℕ) : Type 0 where
  pub notes : List Note
  pub rejected : has_error field ≡ true → notes ≡ []
  pub is : new ≡ old ++ flat_map (note_line colors) notes

-- the lines on a field are appended
pub record AppendsBlock (colors : Colors) (tree : Bool) (field : Field) (old new : List ℕ) : Type 0 where
  pub text : List ℕ
  pub block : IsBlock colors tree field text
  pub is : new ≡ old ++ text

-- the lines on the fields are appended, one field after another
pub record AppendsBlocks (colors : Colors) (tree : Bool) (fields : List Field) (old new : List ℕ) : Type 0 where
  pub blocks : List (List ℕ)
  pub are : AllZip (IsBlock colors tree) fields blocks
  pub is : new ≡ old ++ concat blocks

-- the names of the other field lines, with `--all`
abbrev pub named_others : Bool → Report → List ℕ
named_others all report = if all then others_text report.others.items else []

-- the lines on a head: its fields, with `--all` the names of the other field lines, and the counts
pub record IsPrinted (colors : Colors) (tree all : Bool) (report : Report) (text : List ℕ) : Type 0 where
  pub blocks : List (List ℕ)
  pub are : AllZip (IsBlock colors tree) report.fields.items blocks
  pub is : text ≡ concat blocks ++ named_others all report ++ summary_text report
