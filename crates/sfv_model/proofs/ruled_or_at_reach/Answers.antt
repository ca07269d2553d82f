use Rattle.sfv_model.proofs.FaultTable.{ruled_or_at_reach}
use Rattle.sfv_model.proofs.ruled_or_at_reach.Goals as goal

pub returns : goal.returns
returns c = ruled_or_at_reach
