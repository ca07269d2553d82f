-- The output of a run, from its parts.
use Rattle.std.proofs.Common.{◌≡◌, ℕ, List, [], ◌∷◌, ◌++◌, Bool, true, false, refl, sym, append-nil, string_bytes}
use Rattle.sfv.specs.Types.{FieldKind}
use Rattle.sfv_lint_head.specs.declared.paint.Colors.{Colors}
use Rattle.sfv_lint_args.specs.declared.options.Options.{Options}
use Rattle.sfv_lint_report.specs.Reports.{has_error, IsReport, IsValueReport}
use Rattle.sfv_lint_report.specs.declared.report.{Field.Field, Report.Report}
use Rattle.sfv_lint_output.specs.{Documents.IsDocumentText, Lines.{AppendsBlock, IsPrinted}}
use Rattle.sfv_lint_output.specs.Runs.{AppendsAdvice, IsPrintedValue, IsHeadOutput, IsValueOutput, IsFailed}
use Rattle.sfv_lint_output.specs.declared.run.Output.{Output}

module _ (field : Field) (old : List ℕ) where
  pub no_advice : AppendsAdvice field old old
  no_advice = record { advice = []; accepted = λ e. refl; is = sym (append-nil old) }

  pub advice_given : (advice new : List ℕ) → has_error field ≡ true → new ≡ old ++ advice → AppendsAdvice field old new
  advice_given advice new bad is = record { advice = advice; accepted = λ e. absurd (cc); is = is }

pub value_printed : (colors : Colors) (tree : Bool) (field : Field) (old first new : List ℕ) → old ≡ []
    → AppendsBlock colors tree field old first → AppendsAdvice field first new → IsPrintedValue colors tree field new
value_printed colors tree field old first new none block advice = record {
  block = block.text;
  advice = advice.advice;
  is_block = block.block;
  accepted = advice.accepted;
  is = rw (advice.is, block.is, none) refl;
}

module _ (options : Options) (colors : Colors) (input : List ℕ) (output : Output) where
  pub head_output : (report : Report) → IsReport options.version input report
      → (options.json ≡ false → IsPrinted colors options.tree options.all report (string_bytes output.text))
      → (options.json ≡ true → IsDocumentText report.fields.items report.others.items (string_bytes output.text))
      → IsFailed options.strict report.fields.items output.failed → IsHeadOutput options colors input output
  head_output report is lines document failed = record {
    report = report;
    is = is;
    lines = lines;
    document = document;
    failed = failed;
  }

  pub value_output : (name : List ℕ) (kind : FieldKind) (field : Field)
      → IsValueReport options.version name kind input field
      → (options.json ≡ false → IsPrintedValue colors options.tree field (string_bytes output.text))
      → (options.json ≡ true → IsDocumentText (field ∷ []) [] (string_bytes output.text))
      → IsFailed options.strict (field ∷ []) output.failed → IsValueOutput options colors name kind input output
  value_output name kind field is lines document failed = record {
    field = field;
    is = is;
    lines = lines;
    document = document;
    failed = failed;
  }
