use Rattle.std.proofs.Common.{◌∙◌, ap, option_map}
use Rattle.sfv_values.specs.BareItems.{bare_value}
use Rattle.sfv_tree.proofs.Distinct.{param_found}
use Rattle.sfv_tree.proofs.parsed.find_param.Goals as goal

pub returns-clause-last : goal.returns-clause-last
returns-clause-last c = ap (option_map bare_value) c.find.ensures.value ∙ param_found _ _ c.find.ensures.unique
