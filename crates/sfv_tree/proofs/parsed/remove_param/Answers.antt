use Rattle.std.proofs.Common.{◌∙◌, ap, option_map}
use Rattle.sfv_spec.{specs.Ordered.last_of, proofs.Collapse.last_of-without_same}
use Rattle.sfv_values.specs.{BareItems.bare_value, CheckedTexts.text_of}
use Rattle.sfv_tree.{specs.Trees.pairs_tree, proofs.Distinct.param_found, proofs.Removed.param_removed}
use Rattle.sfv_tree.proofs.parsed.remove_param.Goals as goal

pub returns-clause-last : goal.returns-clause-last
returns-clause-last c = ap (option_map bare_value) c.shift_remove.ensures.value ∙ param_found _ _ c.len.ensures.unique

pub returns-clause-gone : goal.returns-clause-gone
returns-clause-gone c = ap (λ es. last_of (text_of c.args.key) (pairs_tree es)) c.shift_remove.ensures.entries
    ∙ ap (last_of (text_of c.args.key)) (param_removed _ _ c.len.ensures.unique)
    ∙ last_of-without_same _ (pairs_tree c.args.params.now.entries)

pub returns-clause-others : goal.returns-clause-others
returns-clause-others c = ap pairs_tree c.shift_remove.ensures.entries ∙ param_removed _ _ c.len.ensures.unique
