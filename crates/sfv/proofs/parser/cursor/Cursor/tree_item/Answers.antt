use Rattle.std.proofs.Common.{refl}
use Rattle.sfv_model.specs.{Bare.bare_at, Items.{parameters_at, item_at}}
use Rattle.sfv.{specs.parser.Cursor.{version, rest}, proofs.reads.Errors.left_with}
use Rattle.sfv.proofs.trees.{Errors.fails_in, Parts.{bare_fails, later_fails, item_builds}}
use Rattle.sfv.proofs.parser.cursor.Cursor.tree_item.Goals as goal

pub returns-in_err-bare_item-clause-tree : goal.returns-in_err-bare_item-clause-tree
returns-in_err-bare_item-clause-tree c =
    rw (left_with c.from_residual.ensures.1) (fails_in bare_at item_at c.args.self.now c.args.self.now _ refl
    (bare_fails (version c.args.self.now) (rest c.args.self.now)) c.in_err-bare_item.ensures.read)

pub returns-in_err-tree_parameters-clause-tree : goal.returns-in_err-tree_parameters-clause-tree
returns-in_err-tree_parameters-clause-tree c =
    let read = c.in_ok-bare_item.ensures.read in
    rw (left_with c.from_residual-in_err-tree_parameters.ensures.1) (fails_in parameters_at item_at c.args.self.now
    c.owned_bare_item.new.self _ read.3 (later_fails (version c.args.self.now) _ _ read.0 read.1)
    c.in_err-tree_parameters.ensures.tree)

pub returns-clause-tree : goal.returns-clause-tree
returns-clause-tree c =
    let read = c.in_ok-bare_item.ensures.read in
    item_builds c.args.self.now c.owned_bare_item.new.self c.tree_parameters.new.self _
    c.tree_parameters.new.params.entries read.0 read.1 read.2 read.3 c.in_ok-tree_parameters.ensures.tree
