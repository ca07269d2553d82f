use Rattle.std.proofs.Common.{◌≡◌, ◌++◌, map, true, codes}
use Rattle.http_header.specs.Token.{lowercase}
use Rattle.sfv.specs.Written.{with_separators}
use Rattle.sfv_headers.specs.Lines.{lines_in}
use Rattle.sfv_signatures.specs.HttpMessages.{without_start, without_end}
use Rattle.sfv_signatures.proofs.lines.plain_text.Given as goal

abbrev pub invariant-loop-value : goal.invariant-loop-value
invariant-loop-value l = (goal.iterator-loop-value).can_next l.value-iterator
    × (goal.iterator-loop-value).is_finite l.value-iterator × (l.text.items ++ with_separators l.is_first (codes ", ")
    (map (λ line. without_end (without_start line)) (map (λ v. v.bytes) l.value-iterator)) ≡ with_separators true
    (codes ", ") (map (λ line. without_end (without_start line)) (lines_in l.fields (lowercase l.name))))
