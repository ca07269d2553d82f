use Rattle.std.proofs.Common.{◌∙◌, refl}
use Rattle.sfv_model.specs.{Items.parameters_at, Members.{inner_items_at, inner_at, inner_of}}
use Rattle.sfv.{specs.parser.Cursor.{version, rest}, proofs.reads.Errors.{left_with, kept_reads}}
use Rattle.sfv.proofs.trees.{Errors.fails_in, Parts.{items_fail, closed_fails, inner_some, inner_list_parts}}
use Rattle.sfv.proofs.parser.cursor.Cursor.tree_inner_list.Goals as goal

pub returns-in_err-items-clause-tree : goal.returns-in_err-items-clause-tree
returns-in_err-items-clause-tree c =
    rw (left_with c.from_residual.ensures.1) (fails_in inner_items_at inner_at c.args.self.now c.args.self.now _ refl
    (items_fail (version c.args.self.now) (rest c.args.self.now)) c.in_err-items.ensures.tree)

pub returns-in_err-tree_parameters-clause-tree : goal.returns-in_err-tree_parameters-clause-tree
returns-in_err-tree_parameters-clause-tree c =
    let read = c.in_ok-items.ensures.tree in
    rw (left_with c.from_residual-in_err-tree_parameters.ensures.1) (fails_in parameters_at inner_at c.args.self.now
    c.tree_inner_items.new.self _ read.3 (closed_fails (version c.args.self.now) _ _ read.0 read.1)
    c.in_err-tree_parameters.ensures.tree)

pub returns-clause-tree : goal.returns-clause-tree
returns-clause-tree c =
    let read = c.in_ok-items.ensures.tree in
    let built = c.in_ok-tree_parameters.ensures.tree in (
      inner_of read.0 built.0,
      inner_some _ _ _ _ _ _ read.1 (kept_reads parameters_at _ _ _ read.3 ∙ built.1),
      inner_list_parts _ _ _ _ read.2 built.2,
      built.3 ∙ read.3,
    )
