use Rattle.std.proofs.Common.{◌-◌, length, sym, arith, rules}
use Rattle.sfv_base.proofs.RunEnds.{block_passed, block_ends, last_passed, last_ends, last_mask}
use Rattle.sfv_base.proofs.runs.half_block_end.Goals as goal

pub returns-then-outside-ne0 : goal.returns-then-outside-ne0
returns-then-outside-ne0 g c =
    let made = c.as_chunks.ensures in
    sym (block_ends g.C.RunClass.class 16 (omega arith) c.args.bytes.now _ c.loop-block.block-index c.loop-block.end _ made.front
    made.front_len c.loop-block-test.true c.loop-block.invariant.0 c.loop-block.invariant.1 (omega (arith, made.front_len, c.loop-block-test.true, c.loop-block.invariant.1))
    c.outside_half-outside.ensures c.if-outside-ne0.true)

pub loop-block-preserved : goal.loop-block-preserved
loop-block-preserved g c =
    let made = c.as_chunks.ensures in (
      block_passed g.C.RunClass.class 16 (omega arith) c.args.bytes.now _ c.loop-block.block-index c.loop-block.end _ made.front
          made.front_len c.loop-block-test.true c.loop-block.invariant.0 c.loop-block.invariant.1 (omega (arith, made.front_len, c.loop-block-test.true, c.loop-block.invariant.1))
          c.outside_half-outside.ensures c.if-outside-ne0.false,
      omega arith,
    )

pub returns-then-outside-ne0-2 : goal.returns-then-outside-ne0-2
returns-then-outside-ne0-2 g c = sym (last_ends g.C.RunClass.class 16 (omega arith) c.args.bytes.now
    (length c.args.bytes.now - 16) c.loop-block.end _ (omega (arith, c.requires)) c.loop-block.invariant.0
    (search rules) (last_mask g.C.RunClass.class 16 c.args.bytes.now c.in-Some.last.now _ _
    c.outside_half-outside-2.ensures c.in-Some.ensures.cases.1) c.if-outside-ne0-2.true)

pub returns : goal.returns
returns g c = sym (last_passed g.C.RunClass.class 16 (omega arith) c.args.bytes.now
    (length c.args.bytes.now - 16) c.loop-block.end _ (omega (arith, c.requires)) c.loop-block.invariant.0
    (search rules) (last_mask g.C.RunClass.class 16 c.args.bytes.now c.in-Some.last.now _ _
    c.outside_half-outside-2.ensures c.in-Some.ensures.cases.1) c.if-outside-ne0-2.false)
