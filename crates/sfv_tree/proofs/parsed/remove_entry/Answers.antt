use Rattle.std.proofs.Common.{◌∙◌, ap, option_map}
use Rattle.sfv_spec.{specs.Ordered.last_of, proofs.Collapse.last_of-without_same}
use Rattle.sfv_values.specs.CheckedTexts.{text_of}
use Rattle.sfv_tree.specs.Trees.{member_tree, dictionary_tree}
use Rattle.sfv_tree.proofs.{Distinct.member_found, Removed.member_removed}
use Rattle.sfv_tree.proofs.parsed.remove_entry.Goals as goal

pub returns-clause-last : goal.returns-clause-last
returns-clause-last c = ap (option_map member_tree) c.shift_remove.ensures.value ∙ member_found _ _ c.len.ensures.unique

pub returns-clause-gone : goal.returns-clause-gone
returns-clause-gone c = ap (λ es. last_of (text_of c.args.key) (dictionary_tree es)) c.shift_remove.ensures.entries
    ∙ ap (last_of (text_of c.args.key)) (member_removed _ _ c.len.ensures.unique)
    ∙ last_of-without_same _ (dictionary_tree c.args.dict.now.entries)

pub returns-clause-others : goal.returns-clause-others
returns-clause-others c = ap dictionary_tree c.shift_remove.ensures.entries ∙ member_removed _ _ c.len.ensures.unique
