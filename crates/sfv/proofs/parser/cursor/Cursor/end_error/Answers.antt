use Rattle.std.proofs.Common.{refl, ◌∙◌, ap, is_some}
use Rattle.sfv.{specs.parser.Cursor.kept, proofs.reads.Errors.FaultOf-here, proofs.reads.Escapes.stops}
use Rattle.sfv.proofs.parser.cursor.Cursor.end_error.Goals as goal

pub returns : goal.returns
returns g c =
    let at_byte = c.is_some.ensures ∙ ap is_some c.peek.ensures in
    rw (c.error.ensures, c.end_error.ensures, at_byte) (FaultOf-here _ c.args.self.now (kept c.args.self.now) _ refl
    (stops g.Q.QuotedText.display _ c.requires.plain c.requires.quote c.requires.mark))
