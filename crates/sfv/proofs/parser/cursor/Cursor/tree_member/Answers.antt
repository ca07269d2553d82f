use Rattle.std.proofs.Common.{◌∙◌, ap, subst, sym, All}
use Rattle.std.specs.declared.{alloc.Global.Global, vec.Vec.Vec}
use Rattle.indexmap.specs.IndexMap.{hasher_of}
use Rattle.sfv_model.specs.{Items.item_at, Members.{inner_at, member_at}}
use Rattle.sfv_tree.specs.{Seeds.ItemHasSeed, declared.parsed.Item.Item}
use Rattle.sfv.specs.{Field.{item, inner_list}, parser.Cursor.version}
use Rattle.sfv.proofs.{reads.Errors.{left_with, kept_reads}, trees.Errors.fails_in}
use Rattle.sfv.proofs.trees.{Loops.seed_kept, Parts.{list_fails, item_fails, member_list_some, member_item_some}}
use Rattle.sfv.proofs.parser.cursor.Cursor.tree_member.Goals as goal

pub returns-in_err-items-clause-tree : goal.returns-in_err-items-clause-tree
returns-in_err-items-clause-tree c =
    rw (left_with c.from_residual.ensures.1) (fails_in inner_at member_at c.args.self.now c.take_if.new.self _
    c.take_if.ensures.kept (list_fails (version c.args.self.now) _ _ c.if-take_if.ensures.takes)
    c.in_err-items.ensures.tree)

pub returns-then-take_if-clause-tree : goal.returns-then-take_if-clause-tree
returns-then-take_if-clause-tree c =
    let built = c.in_ok-items.ensures.tree in (
      built.0,
      member_list_some _ _ _ _ _ c.if-take_if.ensures.takes (kept_reads inner_at _ _ _ c.take_if.ensures.kept
          ∙ built.1),
      ap inner_list c.with_params.ensures.tree ∙ built.2,
      built.3 ∙ c.take_if.ensures.kept,
    )

pub returns-then-take_if-clause-seed : goal.returns-then-take_if-clause-seed
returns-then-take_if-clause-seed c = (
  ap hasher_of c.with_params.ensures.params ∙ c.in_ok-items.ensures.seed ∙ c.with_hasher-params.ensures.hasher,
  subst (All (ItemHasSeed c.args.self.now.parser.seed))
      (sym (ap (λ (v : Vec Item Global). v.items) c.with_params.ensures.items))
      (seed_kept (λ s. All (ItemHasSeed s) c.in_ok-items.items.items) c.take_if.new.self c.args.self.now
      c.take_if.ensures.kept c.in_ok-items.ensures.item_seeds),
)

pub returns-in_err-bare_item-clause-tree : goal.returns-in_err-bare_item-clause-tree
returns-in_err-bare_item-clause-tree c =
    rw (left_with c.from_residual-in_err-bare_item.ensures.1) (fails_in item_at member_at c.args.self.now
    c.take_if.new.self _ c.take_if.ensures.kept
    (item_fails (version c.args.self.now) _ _ c.if-take_if.ensures.takes) c.in_err-bare_item.ensures.tree)

pub returns-clause-tree : goal.returns-clause-tree
returns-clause-tree c =
    let built = c.in_ok-bare_item.ensures.tree in (
      item built.0,
      member_item_some _ _ _ _ _ c.if-take_if.ensures.takes (kept_reads item_at _ _ _ c.take_if.ensures.kept
          ∙ built.1),
      ap item (c.with_params-2.ensures.tree ∙ built.2),
      built.3 ∙ c.take_if.ensures.kept,
    )
