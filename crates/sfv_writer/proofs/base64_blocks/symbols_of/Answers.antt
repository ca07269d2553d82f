use Rattle.sfv_writer.proofs.Blocks.{rows_ok, symbols_are}
use Rattle.sfv_writer.proofs.base64_blocks.symbols_of.Goals as goal

pub swizzle : goal.swizzle
swizzle c = rows_ok c.args.values c.fits-values.0 c.requires

pub returns : goal.returns
returns c = symbols_are c.offsets.result c.args.values c.fits-values.0 c.requires c.offsets.ensures
