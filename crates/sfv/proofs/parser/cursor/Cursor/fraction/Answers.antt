use Rattle.std.proofs.Common.{arith}
use Rattle.sfv.proofs.reads.Runs.{spelt_below}
use Rattle.sfv.proofs.parser.cursor.Cursor.fraction.Goals as goal

pub overflow_mul-magnitude : goal.overflow_mul-magnitude
overflow_mul-magnitude c = omega (arith, spelt_below _ _ 12 c.requires.spells.1 c.requires.most)

pub overflow_add-magnitude : goal.overflow_add-magnitude
overflow_add-magnitude c = omega (arith, spelt_below _ _ 12 c.requires.spells.1 c.requires.most)

pub signed-requires : goal.signed-requires
signed-requires c = omega (arith, spelt_below _ _ 12 c.requires.spells.1 c.requires.most, c.thousandths.ensures.below)
