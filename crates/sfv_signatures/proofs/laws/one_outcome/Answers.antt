use Rattle.sfv_signatures.proofs.OneOutcome.{http_one}
use Rattle.sfv_signatures.proofs.laws.one_outcome.Goals as goal

pub returns : goal.returns
returns c = http_one
