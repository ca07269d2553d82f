use Rattle.std.proofs.Common.{◌≡◌, length, ◌&&◌, bytes_eq}
use Rattle.sfv_digests.proofs.comparing.is_equal.Given as goal

abbrev pub invariant-loop-byte : goal.invariant-loop-byte
invariant-loop-byte l =
    (bytes_eq l.bytes l.digest ≡ (l.equal && bytes_eq l.byte-iterator.a.rest.now l.byte-iterator.b.rest.now))
    × (length l.byte-iterator.a.rest.now ≡ length l.byte-iterator.b.rest.now)
