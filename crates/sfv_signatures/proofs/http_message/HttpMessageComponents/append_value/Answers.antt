use Rattle.std.proofs.Common.{sym, ◌∙◌}
use Rattle.sfv.specs.Trees.{pairs_tree}
use Rattle.sfv_signatures.proofs.Dispatch.{http_fault, http_derived, http_field}
use Rattle.sfv_signatures.proofs.http_message.HttpMessageComponents.append_value.Goals as goal

pub returns-in-Some : goal.returns-in-Some
returns-in-Some c = record {
  value = http_fault c.args.self.now c.args.name.now (pairs_tree c.args.params.now.entries) c.in-Some.kind
      c.in-Some.ensures;
}

pub returns-then-is_derived : goal.returns-then-is_derived
returns-then-is_derived c = record {
  value = http_derived c.args.self.now c.args.name.now (pairs_tree c.args.params.now.entries)
      c.args.base.now c.append_derived.new.base c.append_derived.result
      c.in_default.ensures (sym c.is_derived.ensures ∙ c.if-is_derived.true) c.append_derived.ensures;
}

pub returns : goal.returns
returns c = record {
  value = http_field c.args.self.now c.args.name.now (pairs_tree c.args.params.now.entries)
      c.args.base.now c.append_field.new.base c.append_field.result c.in_default.ensures
      c.section.result (sym c.is_derived.ensures ∙ c.if-is_derived.false) c.section.ensures c.append_field.ensures;
}
