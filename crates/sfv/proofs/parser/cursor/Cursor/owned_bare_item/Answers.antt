use Rattle.sfv.{specs.parser.Cursor.input, proofs.reads.Errors.left_with, proofs.trees.Errors.{refused, refused_needs}}
use Rattle.sfv.proofs.parser.cursor.Cursor.owned_bare_item.Goals as goal

pub returns-in_err-bare_item-clause-read : goal.returns-in_err-bare_item-clause-read
returns-in_err-bare_item-clause-read c =
    rw (left_with c.from_residual.ensures.1) (refused (input c.args.self.now) _ _ c.in_err-bare_item.ensures.read)

pub returns-in_err-bare_item-clause-memory : goal.returns-in_err-bare_item-clause-memory
returns-in_err-bare_item-clause-memory c =
    rw (left_with c.from_residual.ensures.1) (refused_needs (input c.args.self.now) _ _ c.in_err-bare_item.ensures.read)
