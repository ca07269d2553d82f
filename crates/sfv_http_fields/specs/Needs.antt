-- When a call that parses a field of a header map may run out of memory.
use Rattle.std.specs.Prelude.{◌<◌, ◌⊎◌, List, ℕ, length}
use Rattle.http_header.specs.HeaderMap.{Entries}
use Rattle.http_header.specs.FieldValue.{FieldValue}
use Rattle.sfv.specs.Types.{Error}
use Rattle.sfv_readers.specs.Field.{ErrorNeedsMark}
use Rattle.sfv_headers.specs.Lines.{lines_in}
use Rattle.sfv_headers.specs.Fields.{HasText}

-- the error is out of memory only if the field has two lines, or contains a backslash, a percent sign or a colon
abbrev pub NeedsMarkIn : Entries FieldValue → List ℕ → Error → Type 0
NeedsMarkIn headers name error =
    (1 < length (lines_in headers name)) ⊎ HasText headers name (λ text. ErrorNeedsMark text error)
