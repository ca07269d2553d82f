use Rattle.std.proofs.Common.{arith}
use Rattle.sfv_base.proofs.Masks.{places_ok, looked_up}
use Rattle.sfv_base.proofs.lanes.looked_up.Goals as goal

pub swizzle : goal.swizzle
swizzle c = places_ok c.args.places c.fits-places.0 c.requires

pub returns : goal.returns
returns c = looked_up c.args.table.now c.args.places (omega arith) c.fits-places.0 c.requires
