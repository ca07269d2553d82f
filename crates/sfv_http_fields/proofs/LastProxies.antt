-- The state of a member after one more parameter.
use Rattle.std.proofs.Common.{refl, ◌≡◌, ℕ, List, Some, bytes_eq, codes, if◌then◌else◌}
use Rattle.sfv_readers.{specs.Field.{BareValue, RawParameters, last_of, put, Head}, proofs.Puts.of_put}
use Rattle.sfv_http_fields.specs.{Kept.{name_of, kept_of}, ProxyStatus.{error_of, status_of}}

pub kept_put : (head : Head) (ps : RawParameters) (k : List ℕ) (v : BareValue) → kept_of head (put ps k v) ≡ record {
  name = name_of head;
  error = if bytes_eq k (codes "error") then error_of (Some v) else error_of (last_of (codes "error") ps);
  received_status = if bytes_eq k (codes "received-status") then status_of (Some v)
      else status_of (last_of (codes "received-status") ps);
}
kept_put head ps k v = rw (of_put error_of (codes "error") ps k v, of_put status_of (codes "received-status") ps k v) refl
