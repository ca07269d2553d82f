use Rattle.std.proofs.{Common.w32, lemmas.Simd.below_from_Fits}
use Rattle.sfv.proofs.reads.Blocks.{bytes_are}
use Rattle.sfv.proofs.parser.base64_blocks.bytes_of.Goals as goal

pub returns : goal.returns
returns c = bytes_are c.args.groups c.fits-groups.0 (below_from_Fits w32 c.args.groups c.fits-groups.1)
