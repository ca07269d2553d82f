use Rattle.std.proofs.Common.{ap, ◌∙◌, ◌++◌}
use Rattle.sfv_lint_head.proofs.Joining.{joined_all}
use Rattle.sfv_lint_head.proofs.lines.join.Goals as goal

pub returns : goal.returns
returns c = joined_all _ _ _ _ _ _ _ c.in-Some.ensures.cases.0 c.loop-line-test.false
    (c.in_ok-extend_from_slice.ensures.items ∙ ap (λ t. t ++ c.as_slice.result.now) c.new-text.ensures.items
    ∙ c.as_slice.ensures.value) c.loop-line.invariant
