-- The output of a run.
use Rattle.std.specs.Prelude.{◌≡◌, ℕ, List, [], ◌∷◌, ◌++◌, Bool, true, false, Some, None, string_bytes, codes}
use Rattle.std.specs.Prelude.{Result, IfOk}
use Rattle.std.specs.Borrow.{Bor}
use Rattle.std.specs.List.{list_any}
use Rattle.sfv.specs.Types.{FieldKind}
use Rattle.sfv_http_fields.specs.Registry.{registered_type}
use Rattle.sfv_lint_args.specs.declared.options.Options.{Options}
use Rattle.sfv_lint_head.specs.declared.paint.Colors.{Colors}
use Rattle.sfv_lint_report.specs.declared.report.Field.{Field}
use Rattle.sfv_lint_report.specs.declared.report.Report.{Report}
use Rattle.sfv_lint_report.specs.Reports.{has_error, IsReport, IsValueReport}
use Rattle.sfv_lint_output.specs.Documents.{IsDocumentText}
use Rattle.sfv_lint_output.specs.Lines.{IsBlock, IsPrinted}
use Rattle.sfv_lint_output.specs.declared.run.Output.{Output}
use Rattle.sfv_lint_output.specs.declared.run.Failure.{Failure}

-- the options have no `--type` and no `--field`
abbrev pub IsOfHead : Options → Type 0
IsOfHead options = (options.kind ≡ None) × (options.field ≡ None)

-- a run fails if a field has an error, and without `--strict` only then
pub record IsFailed (strict : Bool) (fields : List Field) (failed : Bool) : Type 0 where
  pub with_error : list_any has_error fields ≡ true → failed ≡ true
  pub only : strict ≡ false → failed ≡ list_any has_error fields

-- the output for a head: lines on its report, or with `--json` its document
pub record IsHeadOutput (options : Options) (colors : Colors) (input : List ℕ) (output : Output) : Type 0 where
  pub report : Report
  pub is : IsReport options.version input report
  pub lines : options.json ≡ false → IsPrinted colors options.tree options.all report (string_bytes output.text)
  pub document : options.json ≡ true → IsDocumentText report.fields.items report.others.items (string_bytes output.text)
  pub failed : IsFailed options.strict report.fields.items output.failed

-- the lines on a value: its report, and advice if it has an error
pub record IsPrintedValue (colors : Colors) (tree : Bool) (field : Field) (text : List ℕ) : Type 0 where
  pub block : List ℕ
  pub advice : List ℕ
  pub is_block : IsBlock colors tree field block
  pub accepted : has_error field ≡ false → advice ≡ []
  pub is : text ≡ block ++ advice

-- advice to leave out the name of the field
abbrev pub hint_text : List ℕ → List ℕ
hint_text name = codes "    hint: leave out `" ++ name ++ codes ":`, or leave out --type and --field\n"

-- advice is appended, for a field with an error alone
pub record AppendsAdvice (field : Field) (old new : List ℕ) : Type 0 where
  pub advice : List ℕ
  pub accepted : has_error field ≡ false → advice ≡ []
  pub is : new ≡ old ++ advice

-- the output for a value of this type: lines on its report, or with `--json` its document
pub record IsValueOutput (options : Options) (colors : Colors) (name : List ℕ) (kind : FieldKind) (input : List ℕ)
    (output : Output) : Type 0 where
  pub field : Field
  pub is : IsValueReport options.version name kind input field
  pub lines : options.json ≡ false → IsPrintedValue colors options.tree field (string_bytes output.text)
  pub document : options.json ≡ true → IsDocumentText (field ∷ []) [] (string_bytes output.text)
  pub failed : IsFailed options.strict (field ∷ []) output.failed

-- with `--type`, the output for a value of that type
abbrev pub HasValueOutput : Options → Colors → List ℕ → Result Output Failure → Type 0
HasValueOutput options colors input result = (kind : FieldKind) → options.kind ≡ Some kind
    → IfOk result (IsValueOutput options colors (codes "value") kind input)

-- the output for a value of a field, which the registry has
abbrev pub IsFieldOutput : Options → Colors → List ℕ → List ℕ → Output → Type 0
IsFieldOutput options colors name input output =
    (kind : FieldKind) × (registered_type name ≡ Some kind) × IsValueOutput options colors name kind input output

-- with `--field` and without `--type`, the output for a value of that field
abbrev pub HasFieldOutput : Options → Colors → List ℕ → Result Output Failure → Type 0
HasFieldOutput options colors input result = (name : Bor (List ℕ)) → options.kind ≡ None → options.field ≡ Some name
    → IfOk result (IsFieldOutput options colors name.now input)
