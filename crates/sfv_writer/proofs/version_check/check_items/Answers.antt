use Rattle.sfv_spec.specs.Values.{item_values}
use Rattle.sfv_writer.proofs.{Checks.checks_whole, Lent.slice_gives}
use Rattle.sfv_writer.proofs.version_check.check_items.Goals as goal

pub returns : goal.returns
returns c = checks_whole item_values c.args.version _ (slice_gives _ _ _ c.iter.ensures.rest) c.check_all.ensures
