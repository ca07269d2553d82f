use Rattle.sfv_writer.proofs.Blocks.{values_are}
use Rattle.sfv_writer.proofs.base64_blocks.values_in.Goals as goal

pub returns : goal.returns
returns c = values_are 4 c.args.pairs c.fits-pairs.0 c.fits-pairs.1
