-- The results of the functions that read one parameter of a signature.
use Rattle.std.specs.Prelude.{◌≡◌, Bool, true, false, Option}
use Rattle.sfv.specs.Values.{BareValue}
use Rattle.sfv_signatures.specs.SignatureFields.{IsPart, is_other}
use Rattle.sfv_signatures.specs.declared.signature_fields.SignatureParam.{SignatureParam}
use Rattle.sfv_signatures.specs.declared.signature_fields.SignatureError.{SignatureError}
use Rattle.sfv_signatures.specs.declared.signature_fields.SignatureError.TheVariants as errors

-- r is the content of the found value, or none if no value was found; it has no other type
abbrev pub IsTypedPart : {A P : Type 0} → (A → BareValue) → (P → A) → (BareValue → Bool) → Option BareValue → Option P
    → Type 0
IsTypedPart kind content has_type found r = IsPart kind content found r × (is_other has_type found ≡ false)

-- the found value has another type, and the error names the parameter
abbrev pub IsWrongType : SignatureParam → (BareValue → Bool) → Option BareValue → SignatureError → Type 0
IsWrongType name has_type found error = (error ≡ errors.WrongType name) × (is_other has_type found ≡ true)
