use Rattle.std.proofs.Common.{map, drop}
use Rattle.httparse.specs.Spans.{header_bytes}
use Rattle.sfv_headers.proofs.Joining.{IsSoFar}
use Rattle.sfv_http_fields.specs.Lines.{lines_of}
use Rattle.sfv_http_fields.proofs.request.lines.joined_lines.Given as goal

abbrev pub invariant-loop-header : goal.invariant-loop-header
invariant-loop-header l = IsSoFar (lines_of l.name (map (header_bytes l.input) l.headers)) l.text
    (lines_of l.name (map (header_bytes l.input) (drop l.header-index l.headers)))
