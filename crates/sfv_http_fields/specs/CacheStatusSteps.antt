-- The state of one member.
use Rattle.std.specs.Prelude.{ℤ, Bool, false, Option, option_map, codes}
use Rattle.sfv_readers.specs.Field.{integer_of, RawParameters, last_of, Head, of_item, of_inner_list}
use Rattle.sfv_http_fields.specs.declared.cache_status.Cache.{Cache}
use Rattle.sfv_http_fields.specs.CacheStatus.{names_cache, is_true, integer_in}

pub record CacheValue : Type 0 where
  pub is_named : Bool
  pub hit : Bool
  pub ttl : Option ℤ

abbrev pub is_named : Head → Bool
is_named (of_item b) = names_cache b
is_named (of_inner_list xs) = false

abbrev pub kept_of : Head → RawParameters → CacheValue
kept_of head ps = record {
  is_named = is_named head;
  hit = is_true (last_of (codes "hit") ps);
  ttl = integer_in (last_of (codes "ttl") ps);
}

abbrev pub kept_value : Cache → CacheValue
kept_value c = record { is_named = c.is_named; hit = c.hit; ttl = option_map integer_of c.ttl }
