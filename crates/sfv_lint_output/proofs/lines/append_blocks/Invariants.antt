use Rattle.std.proofs.Common.{take, string_bytes}
use Rattle.sfv_lint_output.specs.Lines.{AppendsBlocks}
use Rattle.sfv_lint_output.proofs.lines.append_blocks.Given as goal

abbrev pub invariant-loop-field : goal.invariant-loop-field
invariant-loop-field l = AppendsBlocks l.colors l.tree (take l.field-index l.fields) (string_bytes l.initial.out)
    (string_bytes l.out)
