use Rattle.std.proofs.Common.{◌≡◌, ◌++◌, map, true, codes, string_bytes}
use Rattle.http_header.specs.Token.{lowercase}
use Rattle.sfv.specs.{Canonical.bare_text, Values.byte_sequence, Written.with_separators}
use Rattle.sfv_headers.specs.Lines.{lines_in}
use Rattle.sfv_signatures.specs.HttpMessages.{without_start, without_end}
use Rattle.sfv_signatures.proofs.lines.append_byte_text.Given as goal

abbrev pub invariant-loop-value : goal.invariant-loop-value
invariant-loop-value l = (goal.iterator-loop-value).can_next l.value-iterator
    × (goal.iterator-loop-value).is_finite l.value-iterator × (string_bytes l.base ++ with_separators l.is_first
    (codes ", ") (map (λ line. bare_text (byte_sequence (without_end (without_start line))))
    (map (λ v. v.bytes) l.value-iterator)) ≡ string_bytes l.fn.base ++ with_separators true (codes ", ")
    (map (λ line. bare_text (byte_sequence (without_end (without_start line)))) (lines_in l.fields (lowercase l.name))))
