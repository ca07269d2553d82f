-- What is written into a header map.
use Rattle.std.proofs.Common.{◌≡◌, ℕ, ◌<◌, List, [], ◌∷◌, length, Some, Result, Ok, Err, refl, ap, inl, inr, arith, map}
use Rattle.std.proofs.{Common.{IfErr, OnOk, IsErrAnd}, lemmas.Result.err_from_is_err_and}
use Rattle.http_header.specs.{FieldValue.{FieldValue, plain_value}, HeaderMap.{Entries, insert}}
use Rattle.http_header.proofs.HeaderMapLemmas.{get_all-insert_same}
use Rattle.sfv.specs.{Classes.is_string_byte, Field.{Version, FieldKind, RawField, HasMember, IsParsedAs, canonical}}
use Rattle.sfv.specs.{Texts.RunOf, Types.{SerializeError, item_field, list_field, dictionary_field}, Values.bare_values}
use Rattle.sfv.{specs.Versions.IsSerializeError, proofs.Callers.{read_is_value, printable_texts_lem}}
use Rattle.sfv_headers.specs.{Errors.of_serializing, Fields.HasValue, Lines.{text_in, text_of_lines}}
use Rattle.sfv_headers.specs.{Writing.IsWriteError, declared.write_error.WriteError.WriteError}
use Rattle.sfv.specs.Types.serialize_errors

module _ (version : Version) (kind : FieldKind) (value : RawField kind) where
  -- a text that parses back is a header value
  pub printable : (text : List ℕ) → text ≡ canonical kind value → IsParsedAs version kind (canonical kind value) value
      → RunOf is_string_byte text
  printable text is read = rw is
      (printable_texts_lem kind value (read_is_value version kind (canonical kind value) value read).parts)

  pub line_text : (headers : Entries FieldValue) (name text : List ℕ)
      → text_in (insert headers name (plain_value text)) name ≡ Some text
  line_text headers name text =
      ap (λ values. text_of_lines (map (λ v. v.bytes) values)) (get_all-insert_same headers name (plain_value text))

  line_read : (headers : Entries FieldValue) (name text : List ℕ) → text ≡ canonical kind value
      → IsParsedAs version kind (canonical kind value) value
      → HasValue version kind (insert headers name (plain_value text)) name value
  line_read headers name text is read = rw is (rw (line_text headers name (canonical kind value)) read)

  -- reading gives the value, if it was written
  pub written_read : {T E : Type 0} (r : Result T E) (old new : Entries FieldValue) (name text : List ℕ)
      → OnOk r (new ≡ insert old name (plain_value text)) → text ≡ canonical kind value
      → IsParsedAs version kind (canonical kind value) value → OnOk r (HasValue version kind new name value)
  written_read (Ok x) old new name text put is read = rw put (line_read old name text is read)
  written_read (Err e) old new name text put is read = tt

  -- the errors of serialization; memory runs out only for a member
  fault_of : (headers : Entries FieldValue) (name : List ℕ) (e : SerializeError)
      → IsSerializeError version (bare_values kind value) e → (e ≡ serialize_errors.OutOfMemory → HasMember kind value)
      → IsWriteError version kind headers name value (of_serializing e)
  fault_of headers name (serialize_errors.Unsupported b) (inl h) member = absurd (let is = h.0 in cc)
  fault_of headers name (serialize_errors.Unsupported b) (inr h) member = h
  fault_of headers name serialize_errors.OutOfMemory h member = member refl

  pub serializing_fails : {T : Type 0} (r : Result T WriteError) (headers : Entries FieldValue) (name : List ℕ)
      (e : SerializeError) → IsErrAnd r (λ w. w ≡ of_serializing e) → IsSerializeError version (bare_values kind value) e
      → (e ≡ serialize_errors.OutOfMemory → HasMember kind value)
      → IfErr r (IsWriteError version kind headers name value)
  serializing_fails r headers name e exit h member =
      let p = err_from_is_err_and r exit in rw (p.1, p.2) (fault_of headers name e h member)

-- a text that is not empty has a member
pub text_of_member : (kind : FieldKind) (value : RawField kind) → 0 < length (canonical kind value) → HasMember kind value
text_of_member item_field i h = tt
text_of_member list_field [] h = absurd (omega (arith, h))
text_of_member list_field (m ∷ rest) h = (m, rest, refl)
text_of_member dictionary_field [] h = absurd (omega (arith, h))
text_of_member dictionary_field (m ∷ rest) h = (m, rest, refl)
