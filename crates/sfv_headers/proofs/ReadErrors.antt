-- The errors of reading a field of a header map.
use Rattle.std.proofs.Common.{◌≡◌, ℕ, ◌<◌, List, [], ◌∷◌, length, Some, Result, refl, inl, arith, IfErr, IsErrAnd}
use Rattle.std.proofs.lemmas.Result.{err_from_is_err_and}
use Rattle.http_header.specs.{FieldValue.FieldValue, HeaderMap.Entries}
use Rattle.sfv.specs.{Field.{Version, FieldKind, out_of_memory}, Types.Error}
use Rattle.sfv_headers.specs.{Fields.IsReadError, Lines.{text_of_lines, lines_in}}

some_text : (lines : List (List ℕ)) → 1 < length lines → (text : List ℕ) × (text_of_lines lines ≡ Some text)
some_text [] h = absurd (omega (arith, h))
some_text (line ∷ lines) h = (_, refl)

-- memory ran out while two lines were joined
module _ (version : Version) (kind : FieldKind) (headers : Entries FieldValue) (name : List ℕ) where
  pub joining_fails : {T : Type 0} (r : Result T Error) → IsErrAnd r (λ e. e ≡ out_of_memory)
      → 1 < length (lines_in headers name) → IfErr r (IsReadError version kind headers name)
  joining_fails r exit more =
      let p = err_from_is_err_and r exit in
      let some = some_text (lines_in headers name) more in
      rw (p.1, p.2) (some.0, some.1, inl refl)
