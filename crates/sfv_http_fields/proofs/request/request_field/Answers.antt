use Rattle.std.proofs.Common.{length, take, refl, map}
use Rattle.httparse.specs.Spans.{header_bytes}
use Rattle.sfv_http_fields.{specs.Lines.text_of_lines, proofs.Faults.lines_fault, proofs.Heads.request_text}
use Rattle.sfv_http_fields.proofs.request.request_field.Goals as goal

pub returns-in_ok-text-in-Complete-clause-text : goal.returns-in_ok-text-in-Complete-clause-text
returns-in_ok-text-in-Complete-clause-text c =
    let input = c.args.input.now in
    request_text c.args.name.now input c.parse_request.new.headers c.in-Complete.head c.in_ok-text-in-Complete.text.items
    (rw c.in-Complete.is at c.in_ok-head.ensures.complete) c.in_ok-text-in-Complete.ensures.text

pub returns-in_err-text-in-Complete-clause-failed : goal.returns-in_err-text-in-Complete-clause-failed
returns-in_err-text-in-Complete-clause-failed c =
    let input = c.args.input.now in
    let name = c.args.name.now in
    let headers = c.parse_request.new.headers in
    let head = c.in-Complete.head in
    let text = text_of_lines name (map (header_bytes input) (take head.headers headers)) in
    lines_fault name (length c.args.headers.now) input text c.from_residual-in_err-text-in-Complete.result
    c.from_residual-in_err-text-in-Complete.ensures.1 (request_text name input headers head text
    (rw c.in-Complete.is at c.in_ok-head.ensures.complete) refl) c.in_err-text-in-Complete.ensures.memory
