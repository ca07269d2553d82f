use Rattle.std.proofs.Common.{refl, le-ltb, ne_eqb}
use Rattle.sfv_model.specs.Bare.{whole_at, point_at}
use Rattle.sfv.specs.parser.Values.{number_value_of}
use Rattle.sfv.proofs.reads.{Errors.reads_same, Runs.spelt_below, Steps.whole_point}
use Rattle.sfv.proofs.parser.cursor.Cursor.after_integer_part.Goals as goal

pub signed-requires : goal.signed-requires
signed-requires c = spelt_below _ _ 15 c.requires.spells.1 c.requires.most

pub returns : goal.returns
returns c =
    λ dated ds h. reads_same number_value_of c.args.self.now c.args.self.now c.fraction.new.self c.fraction.result
    (point_at dated c.args.negative ds) (whole_at dated c.args.negative ds) refl (whole_point dated _ _ _
    (rw h.count (ne_eqb _ 0 c.if-whole-eq0.false)) c.if-next_is_digit.ensures c.if-not-next_is.ensures
    (rw h.count (le-ltb 12 _ c.if-whole-gt12.false))) (c.fraction.ensures dated ds h)
