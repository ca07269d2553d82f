use Rattle.std.proofs.{Common.{get_or, arith, length-drop}, lemmas.List.drop_more}
use Rattle.sfv.proofs.parser.cursor.Cursor.skip.Goals as goal

pub returns-clause-skips : goal.returns-clause-skips
returns-clause-skips c =
    let input = c.args.self.now.parser.input.now in
    let i = c.args.self.now.index in
    (get_or input i 0, drop_more input i 0 (omega (arith, c.requires, length-drop i input)))
