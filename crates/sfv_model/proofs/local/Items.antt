-- On how much of the text keys, parameters and items rest.
use Rattle.sfv_model.specs.{Items.{key_at, value_at, parameter_at, parameters_at, item_at}, Judgements.Local}
use Rattle.sfv_model.proofs.{Types.Version, local.Bare.Local-bare, local.Combinators.local_rules}
use Rattle.sfv_model.proofs.sound.{Items.Consumes-parameter, Many.Local-many}

-- ---- what an answer rests on

pub Local-key : Local key_at
unfolding key_at
Local-key = search local_rules depth 40

pub Local-value : (version : Version) → Local (value_at version)
unfolding value_at
Local-value version = search (local_rules, Local-bare) depth 40

pub Local-parameter : (version : Version) → Local (parameter_at version)
unfolding parameter_at
Local-parameter version = search (local_rules, Local-key, Local-value) depth 40

pub Local-parameters : (version : Version) → Local (parameters_at version)
unfolding parameters_at
Local-parameters version = Local-many _ _ (Consumes-parameter _) (Local-parameter _)

pub Local-item : (version : Version) → Local (item_at version)
unfolding item_at
Local-item version = search (local_rules, Local-bare, Local-parameters) depth 40
