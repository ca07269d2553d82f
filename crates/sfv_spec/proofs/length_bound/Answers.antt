use Rattle.sfv_spec.proofs.Lengths.{length_bound_lem}
use Rattle.sfv_spec.proofs.length_bound.Goals as goal

pub returns : goal.returns
returns c = length_bound_lem
