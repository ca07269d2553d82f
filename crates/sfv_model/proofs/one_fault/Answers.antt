use Rattle.sfv_model.proofs.FaultTable.{one_fault}
use Rattle.sfv_model.proofs.one_fault.Goals as goal

pub returns : goal.returns
returns c = one_fault
