use Rattle.sfv_writer.proofs.Blocks.{pairs_are}
use Rattle.sfv_writer.proofs.base64_blocks.pairs_of.Goals as goal

pub returns : goal.returns
returns c = pairs_are c.args.bytes c.fits-bytes.0 c.fits-bytes.1
