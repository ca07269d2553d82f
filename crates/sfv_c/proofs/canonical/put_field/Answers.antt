use Rattle.std.proofs.Common.{sym, subst, string_bytes, option_map}
use Rattle.sfv.specs.Statements.{IsSerializedAs}
use Rattle.sfv_c.proofs.canonical.put_field.Goals as goal

pub returns-clause-put : goal.returns-clause-put
returns-clause-put g c = record {
  value = g.T.FieldType.tree c.in_ok-value.value;
  parsed = c.in_ok-value.ensures.read;
  text = option_map string_bytes c.into.result;
  serialized = subst (IsSerializedAs c.args.writing g.T.FieldType.kind (g.T.FieldType.tree c.in_ok-value.value))
      (sym (g.met.T.FieldType.into_written _ _ c.into.ensures)) c.in_ok-text.ensures.text;
  put = c.put_text.ensures;
}
