use Rattle.std.proofs.{Common.{◌≡◌, ◌∙◌, true, false, ap, not, is_some}, lemmas.Result.IfErr-weaker}
use Rattle.sfv_model.specs.Reader.{first}
use Rattle.sfv.specs.parser.Cursor.{input, version, rest}
use Rattle.sfv.proofs.trees.{Errors.fault_with, Fields.begin_fails, Parts.entry_fails}
use Rattle.sfv.proofs.parser.tree.ListMembers.expect_start.Goals as goal

pub returns : goal.returns
returns c =
    let v = version c.args.cursor.now in
    let t = rest c.args.cursor.now in
    let some : is_some (first t) ≡ true = rw (← c.peek.ensures) (c.is_none.ensures ∙ ap not c.if-is_none.false) in
    IfErr-weaker c.expect_bare_item_start.result _ _ (λ e fault. fault_with (input c.args.cursor.now) e _ _
    (λ k q h. begin_fails false v t some k q (entry_fails v t c.if-next_is.ensures k q h)) fault)
    c.expect_bare_item_start.ensures
