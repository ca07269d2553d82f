-- On how much of the text a number rests.
use Rattle.std.proofs.Common.{Bool}
use Rattle.sfv_model.specs.Bare.{sign_at, long_at, decimal_at, fraction_at, point_at, whole_at, number_at}
use Rattle.sfv_model.{specs.Judgements.Local, proofs.local.Combinators.local_rules}

-- ---- what an answer rests on

Local-long : (dated : Bool) → Local (long_at dated)
unfolding long_at
Local-long dated = search local_rules depth 40

pub Local-number : (dated : Bool) → Local (number_at dated)
unfolding number_at sign_at whole_at point_at fraction_at decimal_at
Local-number dated = search (local_rules, Local-long) depth 40
