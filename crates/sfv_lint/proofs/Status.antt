-- The text and the status of a run that has an output.
use Rattle.std.proofs.Common.{◌≡◌, ◌∙◌, ◌⊎◌, inl, inr, ℕ, List, Option, Ok, string_bytes}
use Rattle.sfv_lint_args.specs.declared.options.Options.{Options}
use Rattle.sfv_lint_head.specs.declared.paint.Colors.{Colors}
use Rattle.sfv_lint_output.specs.Runs.{IsOfHead, IsHeadOutput, HasValueOutput, HasFieldOutput}
use Rattle.sfv_lint_output.specs.declared.run.Output.{Output}
use Rattle.sfv_lint.specs.Status.{run_status, IsWritten, IsReported}

pub reported : (options : Options) (colors : Colors) (input : List ℕ) (output : Output) (old new : Option (List ℕ))
    (text : List ℕ) (given status : ℕ) → (IsOfHead options → IsHeadOutput options colors input output)
    → HasValueOutput options colors input (Ok output) → HasFieldOutput options colors input (Ok output)
    → text ≡ string_bytes output.text → given ≡ run_status output.failed → IsWritten text given old new status
    → (status ≡ 2) ⊎ IsReported options colors input old new status
reported options colors input output old new text given status head value field text_is given_is (inl wrong) = inl wrong
reported options colors input output old new text given status head value field text_is given_is (inr written) = inr (record {
  output = output;
  is = record { head = head; value = value; field = field };
  written = rw text_is at written.1;
  status_is = written.0 ∙ given_is;
})
