use Rattle.std.proofs.Common.{◌∙◌}
use Rattle.sfv_base.{specs.Lanes.is_marked, proofs.Masks.mask_same}
use Rattle.sfv_base.proofs.runs.outside.Goals as goal

pub returns : goal.returns
returns g c = c.unmarked.ensures ∙ mask_same (is_marked c.table.result.now) g.C.RunClass.class c.args.lanes
    c.fits-lanes.1 c.table.ensures
