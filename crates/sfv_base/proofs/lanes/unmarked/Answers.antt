use Rattle.std.proofs.Common.{arith}
use Rattle.sfv_base.proofs.Masks.{low_halves, high_halves, by_look_ups}
use Rattle.sfv_base.proofs.lanes.unmarked.Goals as goal

pub looked_up-by_low-requires : goal.looked_up-by_low-requires
looked_up-by_low-requires c = low_halves 32 c.args.lanes

pub looked_up-by_high-requires : goal.looked_up-by_high-requires
looked_up-by_high-requires c = high_halves 32 c.args.lanes c.fits-lanes.1

pub returns : goal.returns
returns c = by_look_ups 32 (omega arith) c.args.low.now c.args.lanes _ _ c.fits-lanes.0 c.fits-lanes.1 c.looked_up-by_low.ensures
    c.looked_up-by_high.ensures
