use Rattle.std.proofs.Common.{◌∙◌, true, refl, ap}
use Rattle.sfv_spec.{specs.Values.{item, boolean}, proofs.Marks.true_with}
use Rattle.sfv_model.specs.{Items.parameters_at, Members.member_value_at}
use Rattle.sfv.{specs.parser.Cursor.version, proofs.reads.Errors.{left_with, kept_reads}}
use Rattle.sfv.proofs.trees.{Errors.fails_in, Parts.{value_builds, true_fails, true_some, item_parts}}
use Rattle.sfv.proofs.parser.cursor.Cursor.tree_member_value.Goals as goal

pub returns-then-take_if-clause-tree : goal.returns-then-take_if-clause-tree
returns-then-take_if-clause-tree c = value_builds c.args.self.now c.take_if.new.self c.tree_member.new.self
    c.tree_member.result c.if-take_if.ensures.takes c.take_if.ensures.kept c.tree_member.ensures.tree

pub returns-in_err-tree_parameters-clause-tree : goal.returns-in_err-tree_parameters-clause-tree
returns-in_err-tree_parameters-clause-tree c =
    rw (left_with c.from_residual.ensures.1) (fails_in parameters_at member_value_at c.args.self.now c.take_if.new.self
    _ c.take_if.ensures.kept (true_fails (version c.args.self.now) _ _ c.if-take_if.ensures.takes)
    c.in_err-tree_parameters.ensures.tree)

pub returns-clause-tree : goal.returns-clause-tree
returns-clause-tree c =
    let built = c.in_ok-tree_parameters.ensures.tree in (
      true_with built.0,
      true_some _ _ _ _ _ c.if-take_if.ensures.takes (kept_reads parameters_at _ _ _ c.take_if.ensures.kept ∙ built.1),
      ap item (c.with_params.ensures.tree ∙ item_parts (boolean true) (boolean true) _ _ refl built.2),
      built.3 ∙ c.take_if.ensures.kept,
    )
