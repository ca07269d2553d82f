use Rattle.sfv.proofs.reads.Blocks.{groups_are, halves_fit}
use Rattle.sfv.proofs.parser.base64_blocks.groups_of.Goals as goal

pub dot4-front : goal.dot4-front
dot4-front c = ((halves_fit 4 c.args.values c.fits-values.0 c.requires).0, tt)

pub dot4-back : goal.dot4-back
dot4-back c = ((halves_fit 4 c.args.values c.fits-values.0 c.requires).1, tt)

pub returns : goal.returns
returns c = groups_are 4 c.args.values c.fits-values.0 c.requires
