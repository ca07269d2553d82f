use Rattle.std.proofs.Common.{◌∙◌, ◌++◌, ℕ, List, ap, arith}
use Rattle.sfv.proofs.reads.Coded.{more_decoded}
use Rattle.sfv.proofs.parser.byte_sequence.append_symbols.Goals as goal

pub loop-block-preserved : goal.loop-block-preserved
loop-block-preserved c =
    let split = c.in-Some.ensures.cases in
    more_decoded c.args.bytes.now.items c.args.symbols.now c.loop-block.rest.now c.loop-block.bytes.items c.in-Some.block.now
    c.in-Some.after.now c.extend_from_slice.new.self.items 16 c.loop-block.invariant (omega (arith, split.2)) (omega arith)
    split.0 split.1 (c.in_ok-extend_from_slice.ensures.items ∙ ap (λ (l : List ℕ). c.loop-block.bytes.items ++ l) c.block_bytes.ensures)
