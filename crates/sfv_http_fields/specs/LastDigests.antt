-- The last member of each algorithm in a field of digests (RFC 9530, sections 2 and 3).
use Rattle.std.specs.Prelude.{◌≡◌, ℕ, List, Option, option_map}
use Rattle.std.specs.declared.alloc.Global.{Global}
use Rattle.std.specs.declared.vec.Vec.{Vec}
use Rattle.sfv_readers.specs.Field.{Rfc9651, dictionary_field, IsReadBy}
use Rattle.sfv_http_fields.specs.ContentDigests.{Members, sha_256_key, sha_512_key, last_bytes, digest_bytes}
use Rattle.sfv_http_fields.specs.declared.content_digest.reading.LastMembers.{LastMembers}

-- for each algorithm, the bytes of its last member, as `last_bytes` has them
pub record Held : Type 0 where
  pub sha_256 : Option (Option (List ℕ))
  pub sha_512 : Option (Option (List ℕ))

abbrev pub held_of : Members → Held
held_of members = record { sha_256 = last_bytes sha_256_key members; sha_512 = last_bytes sha_512_key members }

abbrev pub held_in : Option (Option (Vec ℕ Global)) → Option (Option (List ℕ))
held_in member = option_map digest_bytes member

abbrev pub held_value : LastMembers → Held
held_value found = record { sha_256 = held_in found.sha_256; sha_512 = held_in found.sha_512 }

-- the text parses to a dictionary with these last members
abbrev pub HoldsMembers : List ℕ → LastMembers → Type 0
HoldsMembers text found =
    IsReadBy Rfc9651 dictionary_field (λ (f : LastMembers) (ms : Members). held_value f ≡ held_of ms) text found
