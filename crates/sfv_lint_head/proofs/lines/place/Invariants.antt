use Rattle.std.proofs.Common.{◌≡◌, ◌++◌, ◌∷◌, [], drop, map}
use Rattle.sfv_lint_head.specs.Lines.{place_in}
use Rattle.sfv_lint_head.proofs.lines.place.Given as goal

abbrev pub invariant-loop-line : goal.invariant-loop-line
invariant-loop-line l = place_in (map (λ line. line.items) l.lines) l.index
    ≡ place_in (map (λ line. line.items) (drop l.line-index l.others) ++ l.last.items ∷ []) l.column
