use Rattle.std.proofs.Common.{sym, ◌∙◌}
use Rattle.sfv.specs.Trees.{inner_list_tree}
use Rattle.sfv_signatures.proofs.Unambiguous.{same_base_agrees}
use Rattle.sfv_signatures.proofs.same_base.have_same_base.Goals as goal

pub returns-clause-agree : goal.returns-clause-agree
returns-clause-agree g c = λ same. same_base_agrees (g.A.Components.gives c.args.message.now)
    (g.B.Components.gives c.args.other.now) (inner_list_tree c.args.list.now) (inner_list_tree c.args.other_list.now)
    c.as_str.result.now c.as_str-2.result.now _ _ c.as_str.ensures.value c.as_str-2.ensures.value
    (sym c.eq.ensures ∙ same) c.in_ok-base.ensures.base c.in_ok-other_base.ensures.base
