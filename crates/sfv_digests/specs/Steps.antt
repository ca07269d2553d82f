-- The results of the private functions.
use Rattle.std.specs.Prelude.{◌≡◌, ℕ, List, Option, Some, None}
use Rattle.sha2.specs.Sha256.{sha256}
use Rattle.sha2.specs.Sha512.{sha512}
use Rattle.sfv_http_fields.specs.declared.content_digest.reading.Algorithm.{Algorithm}
use Rattle.sfv_http_fields.specs.declared.content_digest.reading.Algorithm.TheVariants.{Sha256, Sha512}
use Rattle.sfv_digests.specs.declared.comparing.Comparison.{Comparison}
use Rattle.sfv_digests.specs.declared.comparing.Comparison.TheVariants as comparisons
use Rattle.sfv_digests.specs.Verifying.{Disagrees}

-- the digest of a content by an algorithm
abbrev pub digest_by : Algorithm → List ℕ → List ℕ
digest_by Sha256 content = sha256 content
digest_by Sha512 content = sha512 content

-- how a member compares with a digest
abbrev pub IsComparison : List ℕ → Option (Option (List ℕ)) → Comparison → Type 0
IsComparison digest member comparisons.Absent = member ≡ None
IsComparison digest member comparisons.Same = member ≡ Some (Some digest)
IsComparison digest member comparisons.Different = Disagrees digest member
