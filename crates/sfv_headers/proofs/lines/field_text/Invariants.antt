use Rattle.std.proofs.Common.{map}
use Rattle.sfv_headers.{specs.Lines.lines_in, proofs.Joining.IsSoFar}
use Rattle.sfv_headers.proofs.lines.field_text.Given as goal

abbrev pub invariant-loop-value : goal.invariant-loop-value
invariant-loop-value g l =
    (goal.iterator-loop-value g).can_next l.value-iterator × (goal.iterator-loop-value g).is_finite l.value-iterator
    × IsSoFar (lines_in l.headers (g.K.AsHeaderName.name l.fn.name)) l.text (map (λ value. value.bytes) l.value-iterator)
