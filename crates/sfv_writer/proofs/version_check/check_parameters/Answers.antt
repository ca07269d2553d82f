use Rattle.std.proofs.Common.{[], ◌∷◌, subst}
use Rattle.sfv_writer.{specs.Versions.ChecksVersion, proofs.Checks.{checks_whole, param_values}, proofs.Lent.map_gives}
use Rattle.sfv_writer.proofs.version_check.check_parameters.Goals as goal

pub returns : goal.returns
returns c = subst (λ bs. ChecksVersion c.args.version bs c.check_all.result) (param_values _)
    (checks_whole (λ b. b ∷ []) c.args.version _ (map_gives _ _ _ _ c.values.ensures.rest) c.check_all.ensures)
