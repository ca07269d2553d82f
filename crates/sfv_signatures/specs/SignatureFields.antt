-- The fields Signature-Input and Signature (RFC 9421, sections 4.1 and 4.2).
use Rattle.std.specs.Prelude.{◌≡◌, ℕ, List, [], ◌∷◌, Bool, true, false, not, Option, Some, None, MatchOption, codes}
use Rattle.std.specs.List.{find}
use Rattle.std.specs.Option.{option_map_or}
use Rattle.std.specs.Borrow.{Bor}
use Rattle.sfv.specs.CheckedTexts.{text_of}
use Rattle.sfv.specs.NumberValues.{integer_of}
use Rattle.sfv.specs.Ordered.{last_of}
use Rattle.sfv.specs.Trees.{inner_list_tree}
use Rattle.sfv.specs.Values.{BareValue, integer, string, byte_sequence, RawParameters, RawItem, RawInnerList, RawMember}
use Rattle.sfv.specs.Values.{item, inner_list}
use Rattle.sfv_signatures.specs.declared.signature_fields.SignatureInput.{SignatureInput}
use Rattle.sfv_signatures.specs.declared.signature_fields.SignatureParam.{SignatureParam}
use Rattle.sfv_signatures.specs.declared.signature_fields.SignatureParam.TheVariants as params
use Rattle.sfv_signatures.specs.declared.signature_fields.SignatureError.{SignatureError}
use Rattle.sfv_signatures.specs.declared.signature_fields.SignatureError.TheVariants as errors

-- r is the content of the found value, which has this kind, or none if no value was found
abbrev pub IsPart : {A P : Type 0} → (A → BareValue) → (P → A) → Option BareValue → Option P → Type 0
IsPart kind content found r = MatchOption r (found ≡ None) (λ p. found ≡ Some (kind (content p)))

-- the value is an integer, or a string
abbrev pub is_integer : BareValue → Bool
is_integer (integer n) = true
is_integer value = false

abbrev pub is_string : BareValue → Bool
is_string (string s) = true
is_string value = false

-- the found value has another type
abbrev pub is_other : (BareValue → Bool) → Option BareValue → Bool
is_other has_type found = option_map_or (λ value. not (has_type value)) found false

-- the input of the label: its inner list, and the six parameters with their types (section 2.3)
pub record IsInputOf (label : List ℕ) (members : List (List ℕ × RawMember)) (r : SignatureInput) : Type 0 where
  pub member : last_of label members ≡ Some (inner_list (inner_list_tree r.list.now))
  pub created : IsPart integer integer_of (last_of (codes "created") (inner_list_tree r.list.now).parameters) r.created
  pub expires : IsPart integer integer_of (last_of (codes "expires") (inner_list_tree r.list.now).parameters) r.expires
  pub nonce : IsPart string (λ s. text_of s) (last_of (codes "nonce") (inner_list_tree r.list.now).parameters) r.nonce
  pub alg : IsPart string (λ s. text_of s) (last_of (codes "alg") (inner_list_tree r.list.now).parameters) r.alg
  pub keyid : IsPart string (λ s. text_of s) (last_of (codes "keyid") (inner_list_tree r.list.now).parameters) r.keyid
  pub tag : IsPart string (λ s. text_of s) (last_of (codes "tag") (inner_list_tree r.list.now).parameters) r.tag

-- this parameter of a signature has another type
abbrev pub has_other : RawParameters → SignatureParam → Bool
has_other ps params.Created = is_other is_integer (last_of (codes "created") ps)
has_other ps params.Expires = is_other is_integer (last_of (codes "expires") ps)
has_other ps params.Nonce = is_other is_string (last_of (codes "nonce") ps)
has_other ps params.Alg = is_other is_string (last_of (codes "alg") ps)
has_other ps params.Keyid = is_other is_string (last_of (codes "keyid") ps)
has_other ps params.Tag = is_other is_string (last_of (codes "tag") ps)

-- the parameters of a signature in order
abbrev pub six : List SignatureParam
six = params.Created ∷ params.Expires ∷ params.Nonce ∷ params.Alg ∷ params.Keyid ∷ params.Tag ∷ []

-- the error of an input: no member, an item, or an inner list whose first parameter of another type is this one
abbrev pub IsInputError : Option RawMember → SignatureError → Type 0
IsInputError found errors.UnknownLabel = found ≡ None
IsInputError found errors.WrongMember = (i : RawItem) × (found ≡ Some (item i))
IsInputError found (errors.WrongType param) =
    (l : RawInnerList) × (found ≡ Some (inner_list l)) × (find (has_other l.parameters) six ≡ Some param)

-- the found member is a byte sequence with these bytes
abbrev pub IsSignature : Option RawMember → Bor (List ℕ) → Type 0
IsSignature found bytes = (ps : RawParameters)
    × (found ≡ Some (item (record { bare = byte_sequence bytes.now; parameters = ps })))

-- the error of a signature: no member, or a member that is not a byte sequence
abbrev pub IsSignatureError : Option RawMember → SignatureError → Type 0
IsSignatureError found errors.UnknownLabel = found ≡ None
IsSignatureError found errors.WrongMember = (m : RawMember) × (found ≡ Some m) × ((bytes : Bor (List ℕ)) → ¬ IsSignature (Some m) bytes)
IsSignatureError found (errors.WrongType param) = ⊥
