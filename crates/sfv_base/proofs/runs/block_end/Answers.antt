use Rattle.std.proofs.Common.{sym, arith, rules}
use Rattle.sfv_base.proofs.RunEnds.{block_passed, block_ends, end_within}
use Rattle.sfv_base.proofs.runs.block_end.Goals as goal

pub returns-then-outside-ne0 : goal.returns-then-outside-ne0
returns-then-outside-ne0 g c =
    let made = c.as_chunks.ensures in
    sym (block_ends g.C.RunClass.class 32 (omega arith) c.args.bytes.now _ c.loop-block.block-index c.loop-block.end _ made.front
    made.front_len c.loop-block-test.true c.loop-block.invariant.0 c.loop-block.invariant.1 (omega (arith, made.front_len, c.loop-block-test.true, c.loop-block.invariant.1))
    c.outside-outside.ensures c.if-outside-ne0.true)

pub loop-block-preserved : goal.loop-block-preserved
loop-block-preserved g c =
    let made = c.as_chunks.ensures in (
      block_passed g.C.RunClass.class 32 (omega arith) c.args.bytes.now _ c.loop-block.block-index c.loop-block.end _ made.front
          made.front_len c.loop-block-test.true c.loop-block.invariant.0 c.loop-block.invariant.1 (omega (arith, made.front_len, c.loop-block-test.true, c.loop-block.invariant.1))
          c.outside-outside.ensures c.if-outside-ne0.false,
      omega arith,
    )

pub overflow_add-result-2 : goal.overflow_add-result-2
overflow_add-result-2 g c = let le = end_within g.C.RunClass.class c.as_chunks.result.1.now c.byte_end.result
    c.byte_end.ensures in search rules
