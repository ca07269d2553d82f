-- The results of the private functions of the Content-Digest field.
use Rattle.std.specs.Prelude.{◌≡◌, ◌⊎◌, ℕ, List, Option, Some, None, option_map, bytes_eq, Result, MatchResult}
use Rattle.sfv.specs.Maps.{insert_entry}
use Rattle.sfv_http_fields.specs.ContentDigests.{Members, Digests, sha_256_key, sha_512_key}
use Rattle.sfv_http_fields.specs.ContentDigests.{digests_in, bytes_member}
use Rattle.sfv_http_fields.specs.declared.content_digest.ContentDigest.{ContentDigest}
use Rattle.sfv_http_fields.specs.declared.content_digest.DigestError.{DigestError}
use Rattle.sfv_http_fields.specs.declared.content_digest.DigestError.TheVariants as errors
use Rattle.sfv_http_fields.specs.declared.content_digest.reading.Algorithm.{Algorithm}
use Rattle.sfv_http_fields.specs.declared.content_digest.reading.Algorithm.TheVariants as algorithms
use Rattle.sfv_http_fields.specs.LastDigests.{Held}

abbrev pub key_of : Algorithm → List ℕ
key_of algorithms.Sha256 = sha_256_key
key_of algorithms.Sha512 = sha_512_key

-- these are the bytes of the digests
abbrev pub HoldsDigests : Held → Digests → Type 0
HoldsDigests held d = (held.sha_256 ≡ option_map Some d.sha_256) × (held.sha_512 ≡ option_map Some d.sha_512)

-- a last member is not a byte sequence
abbrev pub HoldsWrongType : Held → Type 0
HoldsWrongType held = (held.sha_256 ≡ Some None) ⊎ (held.sha_512 ≡ Some None)

-- The digests of the last members. The only error is a member that is not a byte sequence.
abbrev pub GivesDigests : Held → Result ContentDigest DigestError → Type 0
GivesDigests held result = MatchResult result (λ digest. HoldsDigests held (digests_in digest))
    (λ e. (e ≡ errors.WrongType) × HoldsWrongType held)

-- the members with a digest inserted, if there is one
abbrev pub entered : Members → List ℕ → Option (List ℕ) → Members
entered members key None = members
entered members key (Some bytes) = insert_entry bytes_eq members key (bytes_member bytes)
