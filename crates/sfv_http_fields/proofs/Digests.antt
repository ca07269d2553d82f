-- The digests of members: of a text, of what was read of it, and of what is written.
use Rattle.std.proofs.Common.{◌≡◌, ℕ, List, refl, sym, ap, ◌∙◌, subst, inl, inr, Option, Some, None, option_map, Result}
use Rattle.std.proofs.Common.{Ok, Err, IfOk, IfErr, IfSome, string_bytes}
use Rattle.std.specs.declared.{alloc.Global.Global, string.String.String}
use Rattle.sfv.{specs.Types.Error, proofs.Callers.last_of-ordered}
use Rattle.sfv_readers.specs.Field.{RawMember, item, inner_list, dictionary_field, Rfc9651, last_of, ordered}
use Rattle.sfv_readers.specs.Field.{ordered_member, IsParsedAs, IsSerializedAs, ErrorNeedsMark}
use Rattle.sfv_http_fields.specs.ContentDigests.{Members, sha_256_key, sha_512_key, bytes_in, last_bytes, Digests}
use Rattle.sfv_http_fields.specs.ContentDigests.{digests_in, AreDigests, HasWrongType, IsDictionary, IsContentDigest}
use Rattle.sfv_http_fields.specs.ContentDigests.{HasDigests, IsDigestError, ReturnsDigests, digest_members}
use Rattle.sfv_http_fields.specs.{ContentDigests.NeedsMarkFor, DigestSteps.{HoldsDigests, HoldsWrongType, GivesDigests}}
use Rattle.sfv_http_fields.specs.LastDigests.{Held, held_value, HoldsMembers}
use Rattle.sfv_http_fields.specs.declared.content_digest.ContentDigest.{ContentDigest}
use Rattle.sfv_http_fields.specs.declared.content_digest.{DigestError.DigestError, reading.LastMembers.LastMembers}
use Rattle.sfv_http_fields.specs.declared.content_digest.DigestError.TheVariants as errors

bytes_in-ordered : (o : Option RawMember) → option_map bytes_in (option_map ordered_member o) ≡ option_map bytes_in o
bytes_in-ordered None = refl
bytes_in-ordered (Some (item i)) = refl
bytes_in-ordered (Some (inner_list l)) = refl

-- a text has under a key what its ordered members have
last_bytes-ordered : (key : List ℕ) (raw : Members) → last_bytes key raw ≡ last_bytes key (ordered dictionary_field raw)
last_bytes-ordered key raw =
    sym (ap (option_map bytes_in) (last_of-ordered key raw) ∙ bytes_in-ordered (last_of key raw))

AreDigests-ordered : (raw : Members) (d : Digests) → AreDigests (ordered dictionary_field raw) d → AreDigests raw d
AreDigests-ordered raw d are = record {
  sha_256 = last_bytes-ordered sha_256_key raw ∙ are.sha_256;
  sha_512 = last_bytes-ordered sha_512_key raw ∙ are.sha_512;
}

HasWrongType-ordered : (raw : Members) → HasWrongType (ordered dictionary_field raw) → HasWrongType raw
HasWrongType-ordered raw (inl wrong) = inl (last_bytes-ordered sha_256_key raw ∙ wrong)
HasWrongType-ordered raw (inr wrong) = inr (last_bytes-ordered sha_512_key raw ∙ wrong)

one_digest : (a b : Option (List ℕ)) → option_map Some a ≡ option_map Some b → a ≡ b
one_digest None None h = refl
one_digest None (Some y) h = absurd (cc)
one_digest (Some x) None h = absurd (cc)
one_digest (Some x) (Some y) h = cc

-- members have one digest by each algorithm
one_AreDigests : (members : Members) (d e : Digests) → AreDigests members d → AreDigests members e → d ≡ e
one_AreDigests members d e h k =
    let first = one_digest d.sha_256 e.sha_256 (sym h.sha_256 ∙ k.sha_256) in
    let second = one_digest d.sha_512 e.sha_512 (sym h.sha_512 ∙ k.sha_512) in
    λ i. record { sha_256 = first i; sha_512 = second i }

right_digest : (a : Option (List ℕ)) → ¬ (option_map Some a ≡ Some None)
right_digest None h = absurd (cc)
right_digest (Some x) h = absurd (cc)

-- and where they have digests, none is of a wrong type
right_members : (members : Members) (d : Digests) → AreDigests members d → ¬ HasWrongType members
right_members members d h (inl wrong) = right_digest d.sha_256 (sym h.sha_256 ∙ wrong)
right_members members d h (inr wrong) = right_digest d.sha_512 (sym h.sha_512 ∙ wrong)

-- what the members that were read give is what the text gives
module _ (text : List ℕ) (value : Members) (parsed : IsParsedAs Rfc9651 dictionary_field text value) where
  of_text : (P : Members → Type 0) → P parsed.raw → IsDictionary text P
  of_text P holds = record { members = parsed.raw; accepted = parsed.accepted; holds = holds }

  are : (d : Digests) → AreDigests value d → AreDigests parsed.raw d
  are d h = AreDigests-ordered parsed.raw d (rw parsed.holds at h)

  wrong : HasWrongType value → HasWrongType parsed.raw
  wrong h = HasWrongType-ordered parsed.raw (rw parsed.holds at h)

  -- the members of the text are those that were read
  are_read : (d : Digests) → IsContentDigest text d → AreDigests parsed.raw d
  are_read d h = rw (parsed.only h.members h.accepted) at h.holds

module _ (text : List ℕ) (found : LastMembers) (h : HoldsMembers text found) where
  kept_are : (d : Digests) → HoldsDigests (held_value found) d → AreDigests h.0 d
  kept_are d holds = let same = subst (λ (held : Held). HoldsDigests held d) h.2 holds in
      record { sha_256 = same.0; sha_512 = same.1 }

  kept_wrong : HoldsWrongType (held_value found) → HasWrongType h.0
  kept_wrong holds = subst HoldsWrongType h.2 holds

  pub digests_read : (r : Result ContentDigest DigestError) → GivesDigests (held_value found) r → IfOk r (HasDigests text)
  digests_read (Ok digest) g = let d = digests_in digest in
      of_text text h.0 h.1 _ (are text h.0 h.1 d (kept_are d g))
  digests_read (Err e) g = tt

  pub digests_failed : (r : Result ContentDigest DigestError) → GivesDigests (held_value found) r
      → IfErr r (IsDigestError text)
  digests_failed (Ok digest) g = tt
  digests_failed (Err e) g = rw g.0 (of_text text h.0 h.1 HasWrongType (wrong text h.0 h.1 (kept_wrong g.1)))

  pub digests_memory : (r : Result ContentDigest DigestError) → GivesDigests (held_value found) r
      → IfErr r (NeedsMarkFor text)
  digests_memory (Ok digest) g = tt
  digests_memory (Err e) g = rw g.0 tt

  pub digests_returned : (r : Result ContentDigest DigestError) → GivesDigests (held_value found) r
      → ReturnsDigests text r
  digests_returned (Ok digest) g d is = let own = digests_in digest in
      one_AreDigests h.1.raw own d (are text h.0 h.1 own (kept_are own g)) (are_read text h.0 h.1 d is)
  digests_returned (Err e) g d is =
      absurd (right_members h.1.raw d (are_read text h.0 h.1 d is) (wrong text h.0 h.1 (kept_wrong g.1)))

-- an error of the reading
pub error_memory : (text : List ℕ) (e : Error) → ErrorNeedsMark text e → NeedsMarkFor text (errors.Field e)
error_memory text e h = h

pub ruleset reading = (digests_read, digests_failed, digests_memory, digests_returned, error_memory)

-- digests are those of their own members
AreDigests-members : (d : Digests) → AreDigests (digest_members d) d
unfolding last_of
AreDigests-members d = go d.sha_256 d.sha_512
  where
    of : Option (List ℕ) → Option (List ℕ) → Digests
    of a b = record { sha_256 = a; sha_512 = b }

    go : (a b : Option (List ℕ)) → AreDigests (digest_members (of a b)) (of a b)
    go None None = record { sha_256 = refl; sha_512 = refl }
    go None (Some y) = record { sha_256 = refl; sha_512 = refl }
    go (Some x) None = record { sha_256 = refl; sha_512 = refl }
    go (Some x) (Some y) = record { sha_256 = refl; sha_512 = refl }

-- so what is written is read as these digests
pub digests_written : (d : Digests) (o : Option (String Global))
    → IsSerializedAs Rfc9651 dictionary_field (digest_members d) (option_map string_bytes o)
    → IfSome o (λ text. IsContentDigest (string_bytes text) d)
digests_written d None h = tt
digests_written d (Some text) h =
    let parsed = h.2 in
    of_text _ (digest_members d) parsed _ (are _ (digest_members d) parsed d (AreDigests-members d))
