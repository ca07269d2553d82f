use Rattle.std.proofs.Common.{◌∙◌}
use Rattle.sfv_model.specs.Bare.{whole_at, number_at}
use Rattle.sfv.{specs.parser.Values.number_value_of, proofs.reads.Errors.reads_same, proofs.reads.Steps.number_is}
use Rattle.sfv.proofs.parser.cursor.Cursor.number.Goals as goal

pub returns : goal.returns
returns c = λ dated.
    let d = c.digits-whole.ensures.digits in
    reads_same number_value_of c.args.self.now c.digits-whole.new.self c.after_integer_part.new.self
    c.after_integer_part.result (whole_at dated c.sign-negative.result d.0)
    (number_at dated) (c.digits-whole.ensures.kept ∙ c.sign-negative.ensures.kept)
    (number_is dated _ _ _ _ _ c.sign-negative.ensures.sign d.2) (c.after_integer_part.ensures dated d.0 d.1)
