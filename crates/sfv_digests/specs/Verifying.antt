-- Verification of the digests of a content (RFC 9530, sections 2 and 3).
use Rattle.std.specs.Prelude.{◌≡◌, ◌≢◌, ⊤, ℕ, List, Option, Some, None, MatchOption, codes}
use Rattle.sha2.specs.Sha256.{sha256}
use Rattle.sha2.specs.Sha512.{sha512}
use Rattle.http_header.specs.HeaderMap.{Entries}
use Rattle.http_header.specs.FieldValue.{FieldValue}
use Rattle.sfv_readers.specs.Field.{Rfc9651, dictionary_field, IsReadBy}
use Rattle.sfv_headers.specs.Lines.{text_in}
use Rattle.sfv_headers.specs.Fields.{HasText}
use Rattle.sfv_http_fields.specs.ContentDigests.{Members}
use Rattle.sfv_http_fields.specs.LastDigests.{Held, held_of}
use Rattle.sfv_http_fields.specs.declared.content_digest.reading.Algorithm.TheVariants.{Sha256, Sha512}
use Rattle.sfv_digests.specs.declared.Verification.{Verification}
use Rattle.sfv_digests.specs.declared.Verification.TheVariants.{Matches, Differs, NoKnownAlgorithm, NoField}
use Rattle.sfv_digests.specs.declared.DigestField.{DigestField}
use Rattle.sfv_digests.specs.declared.DigestField.TheVariants.{ContentDigest, ReprDigest}

-- there is no member, or it is this digest
abbrev pub Agrees : List ℕ → Option (Option (List ℕ)) → Type 0
Agrees digest member = MatchOption member ⊤ (λ bytes. bytes ≡ Some digest)

-- there is a member, and it is not this digest: it has other bytes, or is not a byte sequence
abbrev pub Disagrees : List ℕ → Option (Option (List ℕ)) → Type 0
Disagrees digest member = MatchOption member ⊥ (λ bytes. bytes ≢ Some digest)

-- no known algorithm has a member
abbrev pub IsUnknown : Held → Type 0
IsUnknown held = (held.sha_256 ≡ None) × (held.sha_512 ≡ None)

-- A match: each known digest is the digest of the content, and there is one. Otherwise, the first that differs; or no
-- algorithm is known.
abbrev pub IsVerification : List ℕ → Held → Verification → Type 0
IsVerification content held Matches =
    Agrees (sha256 content) held.sha_256 × Agrees (sha512 content) held.sha_512 × ¬ IsUnknown held
IsVerification content held (Differs Sha256) = Disagrees (sha256 content) held.sha_256
IsVerification content held (Differs Sha512) =
    Agrees (sha256 content) held.sha_256 × Disagrees (sha512 content) held.sha_512
IsVerification content held NoKnownAlgorithm = IsUnknown held
IsVerification content held NoField = ⊥

-- the text parses to a dictionary, and this is the verification of its last members
abbrev pub IsVerified : List ℕ → List ℕ → Verification → Type 0
IsVerified content text found = IsReadBy Rfc9651 dictionary_field
    (λ (v : Verification) (members : Members). IsVerification content (held_of members) v) text found

-- the name of the field
abbrev pub name_of : DigestField → List ℕ
name_of ContentDigest = codes "content-digest"
name_of ReprDigest = codes "repr-digest"

-- the verification of the field in the map, or no field
abbrev pub IsVerifiedIn : List ℕ → Entries FieldValue → List ℕ → Verification → Type 0
IsVerifiedIn content headers name NoField = text_in headers name ≡ None
IsVerifiedIn content headers name found = HasText headers name (λ text. IsVerified content text found)
