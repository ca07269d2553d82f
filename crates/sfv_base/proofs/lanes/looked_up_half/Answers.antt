use Rattle.sfv_base.proofs.Masks.{half_places_ok, half_looked_up}
use Rattle.sfv_base.proofs.lanes.looked_up_half.Goals as goal

pub swizzle : goal.swizzle
swizzle c = half_places_ok c.args.places c.fits-places.0 c.requires

pub returns : goal.returns
returns c = half_looked_up c.args.table.now c.args.places c.fits-places.0 c.requires
