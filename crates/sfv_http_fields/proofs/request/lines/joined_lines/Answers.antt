use Rattle.std.proofs.Common.{map}
use Rattle.httparse.specs.Spans.{header_bytes}
use Rattle.sfv_headers.proofs.Joining.{none_yet}
use Rattle.sfv_http_fields.specs.Lines.{lines_of}
use Rattle.sfv_http_fields.proofs.{Faults.of_any, Joined.{line_appended, line_left_out, line_fails}}
use Rattle.sfv_http_fields.proofs.request.lines.joined_lines.Goals.{then-is_named+in_ok-add_line, else-is_named}
use Rattle.sfv_http_fields.proofs.request.lines.joined_lines.Goals as goal

pub loop-header-init : goal.loop-header-init
loop-header-init c = none_yet (lines_of c.args.name.now (map (header_bytes c.args.input.now) c.args.headers.now))

pub loop-header-preserved : goal.loop-header-preserved
loop-header-preserved c = elim c.if-is_named.branch [
  | then-is_named+in_ok-add_line w ↦
      rw w.text-is (line_appended c.args.name.now (header_bytes c.args.input.now) c.args.headers.now
      c.loop-header.header-index c.loop-header-test.true _ c.loop-header.text c.loop-header.invariant c.of.result.now
      c.of.ensures w.of-then-is_named.result.now w.of-then-is_named.ensures w.if-is_named.ensures
      w.in_ok-add_line.field-0 w.in_ok-add_line.ensures.text w.in_ok-add_line.ensures.borrowed)
  | else-is_named w ↦
      rw w.text-is (line_left_out c.args.name.now (header_bytes c.args.input.now) c.args.headers.now
      c.loop-header.header-index c.loop-header-test.true _ c.loop-header.text c.loop-header.invariant c.of.result.now
      c.of.ensures w.if-is_named.ensures)
]

pub returns-in_err-add_line-clause-memory : goal.returns-in_err-add_line-clause-memory
returns-in_err-add_line-clause-memory c = of_any c.from_residual.result
    (line_fails c.args.name.now (header_bytes c.args.input.now) c.args.headers.now c.loop-header.header-index
    c.loop-header-test.true _ c.loop-header.text c.loop-header.invariant c.of.result.now c.of.ensures
    c.if-is_named.ensures c.in_err-add_line.ensures.memory)
