use Rattle.sfv_model.proofs.FaultTable.{field_or_fault}
use Rattle.sfv_model.proofs.field_or_fault.Goals as goal

pub returns : goal.returns
returns c = field_or_fault
