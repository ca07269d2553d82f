use Rattle.std.proofs.Common.{inl, sym, subst}
use Rattle.sfv.specs.Statements.{IsSerializedAs}
use Rattle.sfv_tool_lib.proofs.Lines.{serialized_line, answered, write_fails}
use Rattle.sfv_tool_lib.proofs.answer.answer_as.Goals as goal

pub returns-in_err-text-clause-failed : goal.returns-in_err-text-clause-failed
returns-in_err-text-clause-failed g c = write_fails c.args.reading c.args.writing g.T.FieldType.kind c.args.input.now
    (g.T.FieldType.tree c.in_ok-value.value) c.from_residual-in_err-text.result c.in_err-text.field-0.0
    c.from_residual-in_err-text.ensures.1 c.in_ok-value.ensures.read c.in_err-text.ensures.unsupported

pub returns-in_err-line-clause-failed : goal.returns-in_err-line-clause-failed
returns-in_err-line-clause-failed g c =
    write_fails c.args.reading c.args.writing g.T.FieldType.kind c.args.input.now (g.T.FieldType.tree c.in_ok-value.value)
    c.from_residual-in_err-line.result c.in_err-line.field-0.0 c.from_residual-in_err-line.ensures.1 c.in_ok-value.ensures.read
    (inl (c.in_err-line.ensures.out_of_memory, c.in_ok-text.ensures.unsupported))

pub returns-clause-accepted : goal.returns-clause-accepted
returns-clause-accepted g c =
    let text = subst (IsSerializedAs c.args.writing g.T.FieldType.kind (g.T.FieldType.tree c.in_ok-value.value))
    (sym (g.met.T.FieldType.into_written _ _ c.into.ensures)) c.in_ok-text.ensures.text in
    answered c.args.reading c.args.writing g.T.FieldType.kind c.args.input.now (g.T.FieldType.tree c.in_ok-value.value) c.into.result _
    c.in_ok-value.ensures.read c.in_ok-text.ensures.unsupported
    (serialized_line c.args.writing g.T.FieldType.kind _ c.into.result text) c.in_ok-line.ensures.line

pub returns-clause-seed : goal.returns-clause-seed
returns-clause-seed g c = (c.in_ok-value.value, c.in_ok-value.ensures.seed, c.in_ok-value.ensures.read)
