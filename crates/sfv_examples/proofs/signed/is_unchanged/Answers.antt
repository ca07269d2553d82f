use Rattle.std.proofs.Common.{sym, ◌∙◌}
use Rattle.sfv.specs.Field.{inner_list_tree}
use Rattle.sfv_signatures.{specs.HttpMessages.HttpGives, proofs.Unambiguous.same_base_agrees}
use Rattle.sfv_examples.proofs.signed.is_unchanged.Goals as goal

-- the texts are equal, and each is a base
pub returns-clause-agree : goal.returns-clause-agree
returns-clause-agree c = λ same. same_base_agrees (HttpGives c.args.sent.now) (HttpGives c.args.received.now)
    (inner_list_tree c.args.list.now) (inner_list_tree c.args.list.now) c.as_str.result.now c.as_str-2.result.now _ _
    c.as_str.ensures.value c.as_str-2.ensures.value (sym c.eq.ensures ∙ same) c.in_ok-base.ensures.base
    c.in_ok-other.ensures.base
