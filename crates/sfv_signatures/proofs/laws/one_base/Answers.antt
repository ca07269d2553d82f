use Rattle.sfv_signatures.proofs.Unambiguous.{one_base_lem}
use Rattle.sfv_signatures.proofs.laws.one_base.Goals as goal

pub returns : goal.returns
returns c = one_base_lem
