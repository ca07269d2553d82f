use Rattle.std.proofs.Common.{length}
use Rattle.sfv.proofs.reads.Coded.{IsDecodedUpTo}
use Rattle.sfv.proofs.parser.byte_sequence.append_symbols.Given as goal

abbrev pub invariant-loop-block : goal.invariant-loop-block
invariant-loop-block l = IsDecodedUpTo l.fn.bytes.items l.fn.symbols l.rest l.bytes.items

abbrev pub decreases-loop-block : goal.decreases-loop-block
decreases-loop-block l = length l.rest
