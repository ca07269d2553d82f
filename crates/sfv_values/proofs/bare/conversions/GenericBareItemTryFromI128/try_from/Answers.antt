use Rattle.std.proofs.Common.{rules}
use Rattle.sfv_values.proofs.bare.conversions.GenericBareItemTryFromI128.try_from.Goals as goal

pub returns : goal.returns
returns g c = ((c.in_ok-try_from.field-0, c.from.ensures, search rules), search rules)
