-- The report on the fields of a head, or on one value.
use Rattle.std.specs.Prelude.{◌≡◌, ◌⊎◌, ℕ, List, [], ◌∷◌, ◌++◌, Bool, true, false, Some, None, map, All}
use Rattle.std.specs.Result.{is_err}
use Rattle.std.specs.List.{list_any}
use Rattle.std.specs.Str.{str_eq_ignore_ascii_case}
use Rattle.sfv.specs.Types.{FieldKind, Version}
use Rattle.sfv_http_fields.specs.Registry.{registered_type}
use Rattle.sfv_lint_head.specs.Heads.{IsHead, values_of}
use Rattle.sfv_lint_head.specs.Lines.{joined_lines, value_lines}
use Rattle.sfv_lint_report.specs.Checks.{IsOutcome}
use Rattle.sfv_lint_report.specs.declared.report.Field.{Field}
use Rattle.sfv_lint_report.specs.declared.report.Report.{Report}

-- the lines of a field
abbrev pub lines_of : Field → List (List ℕ)
lines_of field = map (λ line. line.items) field.lines.items

-- the outcome is that of the joined lines of the field, parsed as its type under the version
abbrev pub IsCheckedField : Version → Field → Type 0
IsCheckedField version field = IsOutcome version field.kind (joined_lines (lines_of field)) field.outcome

-- a field of a head: its type is that of the registry, and its lines are those with its name, in any case
pub record IsFieldOf (version : Version) (lines : List (List ℕ × List ℕ)) (field : Field) : Type 0 where
  pub registered : registered_type field.name.items ≡ Some field.kind
  pub its_lines : lines_of field ≡ values_of field.name.items lines
  pub checked : IsCheckedField version field

-- the field has an error
abbrev pub has_error : Field → Bool
has_error field = is_err field.outcome

-- the field has this name, in any case
abbrev pub is_of_name : List ℕ → Field → Bool
is_of_name name field = str_eq_ignore_ascii_case field.name.items name

-- a name that the registry has is the name of a field of the report
abbrev pub IsCovered : Report → List ℕ → Type 0
IsCovered report name = (list_any (is_of_name name) report.fields.items ≡ true)
    ⊎ (registered_type name ≡ None)

-- the fields are fields of the head with these lines
abbrev pub AreFieldsOf : Version → List (List ℕ × List ℕ) → Report → Type 0
AreFieldsOf version lines report = All (IsFieldOf version lines) report.fields.items

-- the report on a head: its fields, and each name that the registry has is among them
pub record IsReport (version : Version) (input : List ℕ) (report : Report) : Type 0 where
  pub lines : List (List ℕ × List ℕ)
  pub head : IsHead input lines
  pub fields : AreFieldsOf version lines report
  pub complete : All (λ line. IsCovered report line.0) lines

-- the report after one more line: fields of the head stay fields of the head, and names stay covered
pub record IsWithLine (version : Version) (lines : List (List ℕ × List ℕ)) (name : List ℕ) (old new : Report) : Type 0 where
  pub fields : AreFieldsOf version lines old → AreFieldsOf version lines new
  pub covered : IsCovered new name
  pub kept : (other : List ℕ) → IsCovered old other → IsCovered new other

-- the check of a pasted value
pub record IsValueReport (version : Version) (name : List ℕ) (kind : FieldKind) (input : List ℕ) (field : Field) : Type 0 where
  pub same_name : field.name.items ≡ name
  pub same_kind : field.kind ≡ kind
  pub its_lines : lines_of field ≡ value_lines input
  pub checked : IsCheckedField version field
