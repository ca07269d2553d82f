use Rattle.std.proofs.Common.{refl}
use Rattle.sfv_writer.proofs.version_check.check_rfc8941.Goals as goal

pub returns-in-Date : goal.returns-in-Date
returns-in-Date c = rw c.in-Date.is (_, refl, refl)

pub returns-in-DisplayString : goal.returns-in-DisplayString
returns-in-DisplayString c = rw c.in-DisplayString.is (_, refl, refl)
