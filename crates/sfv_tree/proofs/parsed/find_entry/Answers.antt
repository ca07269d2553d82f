use Rattle.std.proofs.Common.{◌∙◌, ap, option_map}
use Rattle.sfv_tree.{specs.Trees.member_tree, proofs.Distinct.member_found}
use Rattle.sfv_tree.proofs.parsed.find_entry.Goals as goal

pub returns-clause-last : goal.returns-clause-last
returns-clause-last c = ap (option_map member_tree) c.find.ensures.value ∙ member_found _ _ c.find.ensures.unique
