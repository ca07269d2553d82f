use Rattle.std.proofs.Common.{◌≡◌, take, map}
use Rattle.httparse.specs.Spans.{header_bytes}
use Rattle.sfv_lint_head.specs.Heads.{line_of}
use Rattle.sfv_lint_head.proofs.head.field_lines.Given as goal

abbrev pub invariant-loop-header : goal.invariant-loop-header
invariant-loop-header l = map line_of l.lines.items ≡ map (header_bytes l.section) (take l.header-index l.headers)
