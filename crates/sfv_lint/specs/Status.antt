-- The exit status, and the text that is written.
use Rattle.std.specs.Prelude.{◌≡◌, ◌⊎◌, ◌==◌, ℕ, List, Bool, true, false, not, Option, Some, None, IfSome}
use Rattle.std.specs.Prelude.{Result, Ok, Err, if◌then◌else◌, string_bytes, string_len, codes}
use Rattle.std.specs.declared.alloc.Global.{Global}
use Rattle.std.specs.declared.env.VarError.{VarError}
use Rattle.std.specs.declared.env.VarError.TheVariants as unread
use Rattle.std.specs.declared.string.String.{String}
use Rattle.std.specs.Borrow.{Bor}
use Rattle.std.specs.Io.KnownBytes.{Appends}
use Rattle.sfv.specs.Types.{FieldKind}
use Rattle.sfv_lint_args.specs.declared.options.Options.{Options}
use Rattle.sfv_lint_head.specs.declared.paint.Colors.{Colors}
use Rattle.sfv_lint_output.specs.Runs.{IsOfHead, IsHeadOutput, IsValueOutput, IsFieldOutput}
use Rattle.sfv_lint_output.specs.declared.run.Output.{Output}

-- the variable is set and not empty, or cannot be read
abbrev pub is_set : Result (String Global) VarError → Bool
is_set (Ok value) = not (string_len value == 0)
is_set (Err unread.NotPresent) = false
is_set (Err error) = true

-- the output for this input: for a head, for a value of the type of `--type`, or for a value of the field of `--field`
pub record IsOutput (options : Options) (colors : Colors) (input : List ℕ) (output : Output) : Type 0 where
  pub head : IsOfHead options → IsHeadOutput options colors input output
  pub value : (kind : FieldKind) → options.kind ≡ Some kind
      → IsValueOutput options colors (codes "value") kind input output
  pub field : (name : Bor (List ℕ)) → options.kind ≡ None → options.field ≡ Some name
      → IsFieldOutput options colors name.now input output

-- the exit status of a run with an output: 1 if it failed, otherwise 0
abbrev pub run_status : Bool → ℕ
run_status failed = if failed then 1 else 0

-- The text is written, and the status is this one. Otherwise, the status is 2.
abbrev pub IsWritten : List ℕ → ℕ → Option (List ℕ) → Option (List ℕ) → ℕ → Type 0
IsWritten text status old new result = (result ≡ 2) ⊎ ((result ≡ status) × Appends old new text)

-- the output for this input is written, and the status is 0 or 1
pub record IsReported (options : Options) (colors : Colors) (input : List ℕ) (old new : Option (List ℕ)) (status : ℕ)
    : Type 0 where
  pub output : Output
  pub is : IsOutput options colors input output
  pub written : Appends old new (string_bytes output.text)
  pub status_is : status ≡ run_status output.failed

-- all of a stream is read, and the output for it is written; `all` are the bytes of the stream, if they are known
pub record IsLinted (options : Options) (colors : Colors) (all old new : Option (List ℕ)) (status : ℕ) : Type 0 where
  pub input : List ℕ
  pub read : IfSome all (λ bytes. input ≡ bytes)
  pub reported : IsReported options colors input old new status
