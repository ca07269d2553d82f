use Rattle.std.proofs.Common.{map, string_bytes}
use Rattle.http_header.specs.Token.{lowercase}
use Rattle.sfv_headers.specs.Lines.{lines_in}
use Rattle.sfv_signatures.{specs.HttpMessages.{without_start, without_end}, proofs.Joined.IsSoFar}
use Rattle.sfv_signatures.proofs.lines.append_plain_text.Given as goal

abbrev pub invariant-loop-value : goal.invariant-loop-value
invariant-loop-value l =
    (goal.iterator-loop-value).can_next l.value-iterator × (goal.iterator-loop-value).is_finite l.value-iterator
    × IsSoFar (string_bytes l.fn.base) (string_bytes l.base) l.is_first
    (map (λ line. without_end (without_start line)) (map (λ v. v.bytes) l.value-iterator))
    (map (λ line. without_end (without_start line)) (lines_in l.fields (lowercase l.name)))
