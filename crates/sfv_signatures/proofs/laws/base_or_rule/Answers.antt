use Rattle.sfv_signatures.proofs.Rules.{base_or_rule_lem}
use Rattle.sfv_signatures.proofs.laws.base_or_rule.Goals as goal

pub returns : goal.returns
returns g c = λ message. base_or_rule_lem (g.M.Components.gives message)
