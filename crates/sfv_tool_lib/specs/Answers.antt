-- The output of the program.
use Rattle.std.specs.Prelude.{◌≡◌, ℕ, ◌-◌, ◌++◌, ◌==◌, List, [], length, take, slice_index, if◌then◌else◌, codes}
use Rattle.std.specs.Prelude.{string_bytes, Option, Some, None}
use Rattle.std.specs.declared.alloc.Global.{Global}
use Rattle.std.specs.declared.string.String.{String}
use Rattle.sfv.specs.Values.{RawField, bare_values, Fits}
use Rattle.sfv.specs.Types.{FieldKind, dictionary_field, Version}
use Rattle.sfv.specs.Canonical.{canonical}
use Rattle.sfv.specs.Statements.{IsParsedAs}
use Rattle.sfv.specs.Errors.{error_text}
use Rattle.sfv.specs.Parsers.{IsParseError}
use Rattle.sfv.specs.Versions.{IsSerializeError, serialize_error_text}
use Rattle.sfv.specs.Types.serialize_errors as serialize_errors
use Rattle.sfv_http_fields.specs.Priority.{PriorityValue, priority_text, IsPriorityOf, ErrorNeedsMark}
use Rattle.sfv_tool_lib.specs.declared.answer.ToolFault.{ToolFault}
use Rattle.sfv_tool_lib.specs.declared.answer.ToolFault.TheVariants as faults

-- the input without one final newline, if there is one
abbrev pub without_newline : List ℕ → List ℕ
without_newline t = if slice_index t (length t - 1) == 0x0a then take (length t - 1) t else t

-- the written text, or the empty text
abbrev pub text_or_empty : Option (String Global) → List ℕ
text_or_empty None = []
text_or_empty (Some text) = string_bytes text

-- The input parses to an ordered value under the one version, and the other has it: its canonical text, and a
-- newline.
pub record IsAnswer (reading writing : Version) (kind : FieldKind) (input text : List ℕ) : Type 0 where
  pub value : RawField kind
  pub parsed : IsParsedAs reading kind input value
  pub fits : Fits writing kind value
  pub written : text ≡ canonical kind value ++ codes "\n"

-- the printed text of a fault
abbrev pub tool_fault_text : ToolFault → List ℕ
tool_fault_text (faults.Read error) = error_text error
tool_fault_text (faults.Write error) = serialize_error_text error

-- the input is rejected, or its value is not written
abbrev pub IsToolFault : Version → Version → FieldKind → List ℕ → ToolFault → Type 0
IsToolFault reading writing kind t (faults.Read error) = IsParseError reading kind t error
IsToolFault reading writing kind t (faults.Write error) =
    (value : RawField kind) × IsParsedAs reading kind t value × IsSerializeError writing (bare_values kind value) error

-- the same for a request, which ignores one final newline of the input
abbrev pub IsAnswerTo : FieldKind → Version → Version → List ℕ → List ℕ → Type 0
IsAnswerTo field reading writing input text =
    IsAnswer reading writing field (without_newline input) text

abbrev pub IsFaultFor : FieldKind → Version → Version → List ℕ → ToolFault → Type 0
IsFaultFor field reading writing input fault =
    IsToolFault reading writing field (without_newline input) fault

-- the text of the input's priority, and a newline
pub record IsPriorityAnswer (version : Version) (input text : List ℕ) : Type 0 where
  pub value : PriorityValue
  pub read : IsPriorityOf version (without_newline input) value
  pub written : text ≡ priority_text value ++ codes "\n"

-- The input is rejected, or memory ran out. While it is parsed, memory runs out only for a text with a backslash, a
-- percent sign or a colon; while it is written, only after it was parsed.
abbrev pub IsPriorityFault : Version → List ℕ → ToolFault → Type 0
IsPriorityFault version input (faults.Read error) =
    IsParseError version dictionary_field (without_newline input) error × ErrorNeedsMark (without_newline input) error
IsPriorityFault version input (faults.Write error) = (error ≡ serialize_errors.OutOfMemory)
    × (value : PriorityValue) × IsPriorityOf version (without_newline input) value
