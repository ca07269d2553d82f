use Rattle.std.{proofs.Common.{◌≡◌, ◌+◌, ◌*◌, drop}, specs.List.prefix_len}
use Rattle.sfv_base.proofs.runs.block_end.Given as goal

abbrev pub invariant-loop-block : goal.invariant-loop-block
invariant-loop-block g l = (prefix_len g.C.RunClass.class l.bytes ≡ l.end
    + prefix_len g.C.RunClass.class (drop l.end l.bytes)) × (l.end ≡ 32 * l.block-index)
