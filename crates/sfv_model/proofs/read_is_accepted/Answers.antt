use Rattle.sfv_model.proofs.Theorems.{read_is_accepted}
use Rattle.sfv_model.proofs.read_is_accepted.Goals as goal

pub returns : goal.returns
returns c = read_is_accepted
