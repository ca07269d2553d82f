use Rattle.std.proofs.Common.{◌≤◌, length, string_bytes, string_capacity}
use Rattle.sfv_writer.{specs.Quoted.piece_of, proofs.Written.IsWrittenUpTo}
use Rattle.sfv_writer.proofs.quoted.serialize_pieces.Given as goal

abbrev pub invariant-loop-byte : goal.invariant-loop-byte
invariant-loop-byte g l = IsWrittenUpTo (piece_of g.Q.Escaping.display) (string_bytes l.fn.output) l.bytes l.rest
    (string_bytes l.output) × (string_capacity l.fn.output ≤ string_capacity l.output)

abbrev pub decreases-loop-byte : goal.decreases-loop-byte
decreases-loop-byte g l = length l.rest
