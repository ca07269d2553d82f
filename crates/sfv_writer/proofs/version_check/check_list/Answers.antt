use Rattle.std.proofs.Common.{◌∙◌}
use Rattle.sfv_writer.proofs.{Checks.checks_whole, Lent.slice_gives}
use Rattle.sfv_writer.proofs.version_check.check_list.Goals as goal

pub returns : goal.returns
returns c = checks_whole _ _ _ (slice_gives _ _ _ (c.iter.ensures.rest ∙ c.deref.ensures.value)) c.check_all.ensures
