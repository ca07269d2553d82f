use Rattle.sfv.proofs.reads.Blocks.{rows_ok, values_are}
use Rattle.sfv.proofs.parser.base64_blocks.values_of.Goals as goal

pub swizzle : goal.swizzle
swizzle c = rows_ok c.args.symbols c.fits-symbols.0 c.fits-symbols.1

pub returns : goal.returns
returns c = values_are c.offsets.result c.args.symbols c.fits-symbols.0 c.fits-symbols.1 c.requires c.offsets.ensures
