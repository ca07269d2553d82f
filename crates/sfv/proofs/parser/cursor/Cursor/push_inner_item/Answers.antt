use Rattle.std.proofs.Common.{◌∙◌, ap, Ok, Err}
use Rattle.indexmap.specs.IndexMap.{hasher_of}
use Rattle.sfv_spec.specs.{Events.begins_item, Ordered.ordered_item}
use Rattle.sfv_model.specs.{Items.item_at, Members.inner_item_at}
use Rattle.sfv_tree.proofs.Words.{item_with}
use Rattle.sfv.proofs.{reads.Errors.left_with, trees.Parts.{led_builds, pushed_item, pushed_item_seed}}
use Rattle.sfv.proofs.parser.cursor.Cursor.push_inner_item.Goals as goal

pub returns-in_err-bare_item-clause-tree : goal.returns-in_err-bare_item-clause-tree
unfolding inner_item_at
returns-in_err-bare_item-clause-tree c =
    rw (left_with c.from_residual.ensures.1) (led_builds (λ b. item_with b c.tree_item.new.params.entries) ordered_item
    begins_item item_at c.args.self.now c.tree_item.new.self (Err c.in_err-bare_item.field-0.0)
    c.in_err-bare_item.ensures.tree)

pub returns-clause-tree : goal.returns-clause-tree
unfolding inner_item_at
returns-clause-tree c =
    let built = led_builds (λ b. item_with b c.tree_item.new.params.entries) ordered_item begins_item item_at
    c.args.self.now c.tree_item.new.self (Ok c.in_ok-bare_item.bare_item) c.in_ok-bare_item.ensures.tree in (
      built.0,
      built.1,
      pushed_item _ _ _ c.with_params.result built.0 c.in_ok-make_room.ensures.items c.push_reserved.ensures.items
          (c.with_params.ensures.tree ∙ built.2),
      built.3,
    )

pub returns-clause-seed : goal.returns-clause-seed
returns-clause-seed c h = pushed_item_seed c.args.self.now.parser.seed _ _ _ c.with_params.result
    c.in_ok-make_room.ensures.items c.push_reserved.ensures.items (ap hasher_of c.with_params.ensures.params
    ∙ c.in_ok-bare_item.ensures.seed ∙ c.with_hasher-params.ensures.hasher) h
