use Rattle.std.proofs.Common.{◌≡◌, ◌∙◌, true, refl, ap, not, is_some}
use Rattle.sfv_model.specs.Reader.{first}
use Rattle.sfv.specs.parser.Cursor.{kept, version, rest}
use Rattle.sfv.proofs.{reads.Errors.FaultOf-here, reads.Steps.key_none, trees.Fields.begin_fails, trees.Parts.key_fails}
use Rattle.sfv.proofs.parser.tree.DictionaryMembers.expect_start.Goals as goal

pub returns : goal.returns
returns c =
    let v = version c.args.cursor.now in
    let t = rest c.args.cursor.now in
    let some : is_some (first t) ≡ true = rw (← c.peek.ensures) (c.is_none.ensures ∙ ap not c.if-is_none.false) in
    rw c.error.ensures (FaultOf-here _ c.args.cursor.now (kept c.args.cursor.now) _ refl
    (begin_fails true v t some _ _ (key_fails v t _ _ (key_none _ c.if-next_is_key_start.ensures))))
