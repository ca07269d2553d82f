use Rattle.std.proofs.Common.{arith, string_bytes}
use Rattle.sfv_headers.proofs.Writes.{printable, written_read, serializing_fails, text_of_member}
use Rattle.sfv_headers.proofs.writing.write_field.Goals as goal

pub returns-in_err-append_to-clause-failed : goal.returns-in_err-append_to-clause-failed
returns-in_err-append_to-clause-failed g c =
    let kind = g.T.FieldType.kind in
    let value = g.T.FieldType.tree c.args.value.now in
    serializing_fails c.args.version kind value c.from_residual.result c.args.headers.now
    (g.K.AsHeaderName.name c.args.name) c.in_err-append_to.field-0.0 c.from_residual.ensures.1
    c.in_err-append_to.ensures.unsupported
    (λ out. text_of_member kind value (let room = c.in_err-append_to.ensures.room out in omega (arith, room, c.new-text.ensures.len)))

pub put_line-requires-clause-text : goal.put_line-requires-clause-text
put_line-requires-clause-text g c =
    let kind = g.T.FieldType.kind in
    let value = g.T.FieldType.tree c.args.value.now in
    printable c.args.version kind value (string_bytes c.append_to.new.text)
    (rw c.new-text.ensures.bytes at c.in_ok-append_to.ensures.text) c.in_ok-append_to.ensures.read_back

pub returns-then-branch-clause-read_back : goal.returns-then-branch-clause-read_back
returns-then-branch-clause-read_back g c =
    let kind = g.T.FieldType.kind in
    let value = g.T.FieldType.tree c.args.value.now in
    written_read c.args.version kind value c.put_line.result c.args.headers.now c.put_line.new.headers
    (g.K.AsHeaderName.name c.args.name) (string_bytes c.append_to.new.text) c.put_line.ensures.line
    (rw c.new-text.ensures.bytes at c.in_ok-append_to.ensures.text) c.in_ok-append_to.ensures.read_back
