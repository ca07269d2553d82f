use Rattle.std.proofs.Common.{arith}
use Rattle.sfv_base.proofs.Masks.{low_halves, high_halves, by_look_ups}
use Rattle.sfv_base.proofs.lanes.unmarked_half.Goals as goal

pub looked_up_half-by_low-requires : goal.looked_up_half-by_low-requires
looked_up_half-by_low-requires c = low_halves 16 c.args.lanes

pub looked_up_half-by_high-requires : goal.looked_up_half-by_high-requires
looked_up_half-by_high-requires c = high_halves 16 c.args.lanes c.fits-lanes.1

pub returns : goal.returns
returns c = by_look_ups 16 (omega arith) c.args.low.now c.args.lanes _ _ c.fits-lanes.0 c.fits-lanes.1 c.looked_up_half-by_low.ensures
    c.looked_up_half-by_high.ensures
