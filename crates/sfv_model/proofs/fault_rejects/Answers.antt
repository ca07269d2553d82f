use Rattle.sfv_model.proofs.FaultTable.{fault_rejects}
use Rattle.sfv_model.proofs.fault_rejects.Goals as goal

pub returns : goal.returns
returns c = fault_rejects
