-- What a field's text is, where nothing may have been written.
use Rattle.std.proofs.Common.{◌≡◌, ℕ, List, [], ◌∷◌, ◌++◌, Option, Some, None, Result, refl, ap, ◌∙◌, codes}
use Rattle.std.{proofs.Common.{string_bytes, option_map, IfErr, IsErrAnd}, specs.declared.alloc.Global.Global}
use Rattle.std.{specs.declared.string.String.String, proofs.lemmas.Result.err_from_is_err_and}
use Rattle.sfv.specs.{Canonical.canonical, Statements.{IsParsedAs, IsSerializedAs}}
use Rattle.sfv.specs.Types.{FieldKind, item_field, list_field, dictionary_field, Version, SerializeError}
use Rattle.sfv.specs.{Values.{RawField, HasMember, Fits, bare_values}, Versions.IsSerializeError}
use Rattle.sfv_http_fields.specs.Priority.{PriorityValue, IsPriorityOf}
use Rattle.sfv_tool_lib.specs.Answers.{text_or_empty, without_newline, IsAnswer, IsToolFault, IsPriorityFault}
use Rattle.sfv_tool_lib.specs.declared.answer.ToolFault.{ToolFault}
use Rattle.sfv_tool_lib.specs.declared.answer.ToolFault.TheVariants as faults
use Rattle.sfv.specs.Types.serialize_errors as errors

-- nothing is written of a field without members
empty_text : (kind : FieldKind) (value : RawField kind) → ¬ HasMember kind value → [] ≡ canonical kind value
empty_text item_field i none = absurd (none tt)
empty_text list_field [] none = refl
empty_text list_field (m ∷ ms) none = absurd (none (m, ms, refl))
empty_text dictionary_field [] none = refl
empty_text dictionary_field (m ∷ ms) none = absurd (none (m, ms, refl))

pub serialized_line : (version : Version) (kind : FieldKind) (value : RawField kind) (o : Option (String Global))
    → IsSerializedAs version kind value (option_map string_bytes o) → text_or_empty o ≡ canonical kind value
serialized_line version kind value None h = empty_text kind value h
serialized_line version kind value (Some text) h = h.1

-- the line of a field that was read
pub answered : (reading writing : Version) (kind : FieldKind) (input : List ℕ) (value : RawField kind)
    (o : Option (String Global)) (line : List ℕ) → IsParsedAs reading kind input value → Fits writing kind value
    → text_or_empty o ≡ canonical kind value → line ≡ text_or_empty o ++ codes "\n"
    → IsAnswer reading writing kind input line
answered reading writing kind input value o line parsed fits same h = record {
  value = value;
  parsed = parsed;
  fits = fits;
  written = h ∙ ap (λ (t : List ℕ). t ++ codes "\n") same;
}

-- what was read isn't written
pub write_fails : (reading writing : Version) (kind : FieldKind) (t : List ℕ) (value : RawField kind)
    (r : Result (String Global) ToolFault) (e : SerializeError) → IsErrAnd r (λ f. f ≡ faults.Write e)
    → IsParsedAs reading kind t value → IsSerializeError writing (bare_values kind value) e
    → IfErr r (IsToolFault reading writing kind t)
write_fails reading writing kind t value r e exit parsed h =
    let p = err_from_is_err_and r exit in rw (p.1, p.2) (value, parsed, h)

-- what was read of a priority isn't written
pub priority_unwritten : (version : Version) (input : List ℕ) (value : PriorityValue) (r : Result (String Global) ToolFault)
    → IsErrAnd r (λ f. f ≡ faults.Write errors.OutOfMemory) → IsPriorityOf version (without_newline input) value
    → IfErr r (IsPriorityFault version input)
priority_unwritten version input value r exit read =
    let p = err_from_is_err_and r exit in rw (p.1, p.2) (refl, value, read)
