-- The Content-Digest field (RFC 9530, section 2): a Dictionary. A key names a hash algorithm, and its value is the
-- digest by this algorithm, as a Byte Sequence.
use Rattle.std.specs.Prelude.{◌≡◌, ⊤, ℕ, List, [], ◌∷◌, ◌++◌, ◌⊎◌, codes, Option, Some, None, option_map, Result}
use Rattle.std.specs.Prelude.{MatchResult, MatchOption}
use Rattle.std.specs.declared.alloc.Global.{Global}
use Rattle.std.specs.declared.vec.Vec.{Vec}
use Rattle.sfv.specs.Values.{BareValue, byte_sequence, RawMember, item, inner_list}
use Rattle.sfv.specs.Types.{dictionary_field, Rfc9651}
use Rattle.sfv.specs.Grammar.{IsFieldText}
use Rattle.sfv.specs.Ordered.{last_of}
use Rattle.sfv.specs.Errors.{out_of_memory}
use Rattle.sfv.specs.Parsers.{IsParseError}
use Rattle.sfv_readers.specs.Field.{ErrorNeedsMark}
use Rattle.sfv_http_fields.specs.declared.content_digest.ContentDigest.{ContentDigest}
use Rattle.sfv_http_fields.specs.declared.content_digest.DigestError.{DigestError}
use Rattle.sfv_http_fields.specs.declared.content_digest.DigestError.TheVariants as errors

-- the members of a dictionary in the order of the text, repeated keys included
abbrev pub Members : Type 0
Members = List (List ℕ × RawMember)

-- the keys of the two algorithms (section 5)
abbrev pub sha_256_key : List ℕ
sha_256_key = codes "sha-256"

abbrev pub sha_512_key : List ℕ
sha_512_key = codes "sha-512"

-- the bytes of a byte sequence, and `None` for another kind
abbrev pub bare_bytes : BareValue → Option (List ℕ)
bare_bytes (byte_sequence bytes) = Some bytes
bare_bytes value = None

-- the bytes of a member that is a byte sequence, with any parameters
abbrev pub bytes_in : RawMember → Option (List ℕ)
bytes_in (item i) = bare_bytes i.bare
bytes_in (inner_list l) = None

-- the bytes of a key's last member: `None` without a member, `Some None` if the last is not a byte sequence
abbrev pub last_bytes : List ℕ → Members → Option (Option (List ℕ))
last_bytes key members = option_map bytes_in (last_of key members)

-- for each algorithm, a digest or none
pub record Digests : Type 0 where
  pub sha_256 : Option (List ℕ)
  pub sha_512 : Option (List ℕ)

abbrev pub no_digests : Digests
no_digests = record { sha_256 = None; sha_512 = None }

-- the bytes of a digest
abbrev pub digest_bytes : Option (Vec ℕ Global) → Option (List ℕ)
digest_bytes digest = option_map (λ bytes. bytes.items) digest

abbrev pub digests_in : ContentDigest → Digests
digests_in d = record { sha_256 = digest_bytes d.sha_256; sha_512 = digest_bytes d.sha_512 }

-- Each digest is the bytes of its key's last member. Without such a member, there is no digest. Other keys are ignored.
pub record AreDigests (members : Members) (digests : Digests) : Type 0 where
  pub sha_256 : last_bytes sha_256_key members ≡ option_map Some digests.sha_256
  pub sha_512 : last_bytes sha_512_key members ≡ option_map Some digests.sha_512

-- the last member of one of the keys is not a byte sequence
abbrev pub HasWrongType : Members → Type 0
HasWrongType members = (last_bytes sha_256_key members ≡ Some None) ⊎ (last_bytes sha_512_key members ≡ Some None)

-- the text is a dictionary, and `P` holds of its members
pub record IsDictionary (text : List ℕ) (P : Members → Type 0) : Type 0 where
  pub members : Members
  pub accepted : IsFieldText Rfc9651 dictionary_field members text
  pub holds : P members

-- the text is a dictionary with these digests
abbrev pub IsContentDigest : List ℕ → Digests → Type 0
IsContentDigest text digests = IsDictionary text (λ members. AreDigests members digests)

abbrev pub HasDigests : List ℕ → ContentDigest → Type 0
HasDigests text digest = IsContentDigest text (digests_in digest)

-- The text is not a dictionary, or memory ran out. Or it is a dictionary, but the last member of one of the keys is not
-- a byte sequence.
abbrev pub IsDigestError : List ℕ → DigestError → Type 0
IsDigestError text (errors.Field e) = IsParseError Rfc9651 dictionary_field text e
IsDigestError text errors.WrongType = IsDictionary text HasWrongType

-- the error is out of memory only if the text contains a backslash, a percent sign or a colon
abbrev pub NeedsMarkFor : List ℕ → DigestError → Type 0
NeedsMarkFor text (errors.Field e) = ErrorNeedsMark text e
NeedsMarkFor text errors.WrongType = ⊤

-- if the text has digests, these are returned, unless memory ran out
abbrev pub ReturnsDigests : List ℕ → Result ContentDigest DigestError → Type 0
ReturnsDigests text result = (digests : Digests) → IsContentDigest text digests
    → MatchResult result (λ digest. digests_in digest ≡ digests) (λ e. e ≡ errors.Field out_of_memory)

-- the same digests, or `None` if there are none
abbrev pub AreSameDigests : ContentDigest → Option ContentDigest → Type 0
AreSameDigests digest again =
    MatchOption again (digests_in digest ≡ no_digests) (λ d. digests_in d ≡ digests_in digest)

-- the member for a digest: a byte sequence without parameters
abbrev pub bytes_member : List ℕ → RawMember
bytes_member bytes = item (record { bare = byte_sequence bytes; parameters = [] })

-- the member of a digest, if there is one
abbrev pub digest_member : List ℕ → Option (List ℕ) → Members
digest_member key None = []
digest_member key (Some bytes) = (key, bytes_member bytes) ∷ []

-- the dictionary for these digests
abbrev pub digest_members : Digests → Members
digest_members d = digest_member sha_256_key d.sha_256 ++ digest_member sha_512_key d.sha_512
