use Rattle.std.proofs.Common.{length}
use Rattle.sfv_writer.proofs.Encoded.{IsEncodedUpTo}
use Rattle.sfv_writer.proofs.byte_sequence.serialize_base64.Given as goal

abbrev pub invariant-loop-block : goal.invariant-loop-block
invariant-loop-block g l = IsEncodedUpTo l.fn.output l.fn.input l.rest l.output

abbrev pub decreases-loop-block : goal.decreases-loop-block
decreases-loop-block g l = length l.rest

abbrev pub invariant-loop-group : goal.invariant-loop-group
invariant-loop-group g l = IsEncodedUpTo l.fn.output l.fn.input l.rest l.output

abbrev pub decreases-loop-group : goal.decreases-loop-group
decreases-loop-group g l = length l.rest
