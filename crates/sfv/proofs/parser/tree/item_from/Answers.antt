use Rattle.std.proofs.Common.{◌∙◌, sym}
use Rattle.sfv_tree.specs.Trees.{item_tree}
use Rattle.sfv.proofs.{reads.Errors.left_with, trees.Items.{item_rejected, item_trailing, item_read}}
use Rattle.sfv.proofs.parser.tree.item_from.Goals as goal

pub returns-in_err-bare_item-clause-rejected : goal.returns-in_err-bare_item-clause-rejected
returns-in_err-bare_item-clause-rejected c =
    rw (left_with c.from_residual.ensures.1) (item_rejected (c.args.parser, c.args.alloc) _ _ c.requires.1.1
    c.in_err-bare_item.field-0.0 c.in_err-bare_item.ensures.tree)

pub returns-then-is_some-clause-rejected : goal.returns-then-is_some-clause-rejected
returns-then-is_some-clause-rejected c =
    let built = c.in_ok-bare_item.ensures.tree in
    rw c.error.ensures (item_trailing (c.args.parser, c.args.alloc) _ _ c.requires.1.1 _ _ c.skip_sp.new.self built.0
    built.1 c.skip_sp.ensures.skipped.1 (c.skip_sp.ensures.kept ∙ built.3)
    (rw (← c.peek.ensures) (sym c.is_some.ensures ∙ c.if-is_some.true)))

pub returns-clause-read : goal.returns-clause-read
returns-clause-read c =
    let built = c.in_ok-bare_item.ensures.tree in
    item_read (c.args.parser, c.args.alloc) _ _ c.requires.1.1 _ _ c.skip_sp.new.self built.0 built.1
    c.skip_sp.ensures.skipped.1 (item_tree c.with_params.result)
    (rw (← c.peek.ensures) (sym c.is_some.ensures ∙ c.if-is_some.false)) (c.with_params.ensures.tree ∙ built.2)
