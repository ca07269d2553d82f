-- When a call that parses a field of a header map runs out of memory: while two lines are joined, or in the text.
use Rattle.std.proofs.Common.{◌≡◌, ℕ, ◌<◌, List, Some, Result, Ok, Err, length, inl, inr, IfErr, IsErrAnd}
use Rattle.http_header.specs.{FieldValue.FieldValue, HeaderMap.Entries}
use Rattle.sfv.specs.Types.{Error}
use Rattle.sfv_readers.specs.Field.{ErrorNeedsMark}
use Rattle.sfv_headers.specs.Lines.{lines_in, text_in}
use Rattle.sfv_http_fields.specs.Needs.{NeedsMarkIn}

pub joining_needs : {T : Type 0} (headers : Entries FieldValue) (name : List ℕ) (r : Result T Error) (R : Error → Type 0)
    → IsErrAnd r R → 1 < length (lines_in headers name) → IfErr r (NeedsMarkIn headers name)
joining_needs headers name (Ok x) R h more = tt
joining_needs headers name (Err e) R h more = inl more

pub text_needs : {T : Type 0} (headers : Entries FieldValue) (name text : List ℕ) (r : Result T Error)
    → text_in headers name ≡ Some text → IfErr r (ErrorNeedsMark text) → IfErr r (NeedsMarkIn headers name)
text_needs headers name text (Ok x) some h = tt
text_needs headers name text (Err e) some h = inr (text, some, h)
