use Rattle.std.proofs.Common.{◌≡◌, ◌∙◌, false, refl, inr, ap, map, not, sym, subst, [], All, is_some}
use Rattle.std.proofs.lemmas.List.Elements.{All-nil}
use Rattle.sfv_spec.specs.Ordered.{ordered_item}
use Rattle.sfv_model.specs.{Members.inner_items_at, Reader.first}
use Rattle.sfv_tree.specs.{Seeds.ItemHasSeed, Trees.item_tree}
use Rattle.sfv.specs.parser.Cursor.{kept, version, rest}
use Rattle.sfv.proofs.reads.{Delimiters.{items_none, items_closed, items_first}, Errors.{left_with, FaultOf-here}}
use Rattle.sfv.proofs.trees.Errors.{Any, Never}
use Rattle.sfv.proofs.trees.Loops.{as_one, built_first, built_more, built_all, items_with, item_added, seed_kept}
use Rattle.sfv.proofs.trees.Loops.{keeps_seed, first_fails, delimiter_fails, one_fails}
use Rattle.sfv.proofs.visits.Loops.{shorter, items_loop}
use Rattle.sfv.proofs.parser.cursor.Cursor.tree_inner_items.Goals as goal

pub returns-then-is_none-clause-tree : goal.returns-then-is_none-clause-tree
returns-then-is_none-clause-tree c =
    let none : is_some (first (rest c.args.self.now)) ≡ false =
    rw (← c.peek.ensures) (c.is_none.ensures ∙ ap not c.if-is_none.true) in
    rw c.error.ensures (inr (FaultOf-here _ c.args.self.now (kept c.args.self.now) _ refl
    (items_none (version c.args.self.now) (rest c.args.self.now) none)))

pub returns-then-take_if-clause-tree : goal.returns-then-take_if-clause-tree
returns-then-take_if-clause-tree c = (
  [],
  items_closed _ _ _ _ _ (rw (← c.peek.ensures) (c.is_none.ensures
      ∙ ap not c.if-is_none.false)) c.skip_sp.ensures.skipped.1 c.if-take_if.ensures.takes,
  ap (map item_tree) c.new-items.ensures.items,
  c.take_if.ensures.kept
      ∙ c.skip_sp.ensures.kept,
)

pub returns-then-take_if-clause-seed : goal.returns-then-take_if-clause-seed
returns-then-take_if-clause-seed c =
    let seed = c.args.self.now.parser.seed in
    subst (All (ItemHasSeed seed)) (sym c.new-items.ensures.items) (All-nil (ItemHasSeed seed))

pub returns-in_err-push_inner_item-clause-tree : goal.returns-in_err-push_inner_item-clause-tree
returns-in_err-push_inner_item-clause-tree c =
    rw (left_with c.from_residual.ensures.1) (first_fails items_loop inner_items_at c.args.self.now c.take_if.new.self
    _ (
      items_first _ _ _ _ _ (rw (← c.peek.ensures) (c.is_none.ensures
          ∙ ap not c.if-is_none.false)) c.skip_sp.ensures.skipped.1 c.if-take_if.ensures.takes,
      c.take_if.ensures.kept
          ∙ c.skip_sp.ensures.kept,
    ) c.in_err-push_inner_item.ensures.tree)

pub loop-items-init : goal.loop-items-init
loop-items-init c =
    let same = c.take_if.ensures.kept ∙ c.skip_sp.ensures.kept in
    let seed = c.take_if.new.self.parser.seed in
    record {
      built = built_first items_loop (map ordered_item) items_with item_added c.args.self.now _ c.take_if.new.self
          c.push_inner_item.new.self _ _ (
            items_first _ _ _ _ _ (rw (← c.peek.ensures) (c.is_none.ensures ∙ ap not c.if-is_none.false))
                c.skip_sp.ensures.skipped.1 c.if-take_if.ensures.takes,
            same,
          ) (ap (map item_tree) c.new-items.ensures.items) c.in_ok-push_inner_item.ensures.tree;
      seed = seed_kept (λ s. All (ItemHasSeed s) c.push_inner_item.new.items.items) c.take_if.new.self
          c.args.self.now same (c.in_ok-push_inner_item.ensures.seed
          (subst (All (ItemHasSeed seed)) (sym c.new-items.ensures.items) (All-nil (ItemHasSeed seed))));
    }

pub returns-in_err-consume_item_delimiter-clause-tree : goal.returns-in_err-consume_item_delimiter-clause-tree
returns-in_err-consume_item_delimiter-clause-tree c =
    rw (left_with c.from_residual-in_err-consume_item_delimiter.ensures.1) (delimiter_fails items_loop inner_items_at
    c.args.self.now c.loop-items.self _ c.loop-items.invariant.built.visited c.in_err-consume_item_delimiter.ensures)

pub loop-items-smaller : goal.loop-items-smaller
loop-items-smaller c =
    let wanted = rw c.if-branch.true at c.in_ok-consume_item_delimiter.ensures in
    shorter Any Never items_loop c.loop-items.self c.consume_item_delimiter.new.self
    c.push_inner_item-in-loop-items.new.self tt tt wanted (as_one items_loop items_with
    c.consume_item_delimiter.new.self c.push_inner_item-in-loop-items.new.self _ _
    c.in_ok-push_inner_item-2.ensures.tree)

pub loop-items-preserved : goal.loop-items-preserved
loop-items-preserved c =
    let wanted = rw c.if-branch.true at c.in_ok-consume_item_delimiter.ensures in
    record {
      built = built_more items_loop (map ordered_item) items_with item_added c.args.self.now _ c.loop-items.self
          c.consume_item_delimiter.new.self c.push_inner_item-in-loop-items.new.self _ _ c.loop-items.invariant.built
          wanted c.in_ok-push_inner_item-2.ensures.tree;
      seed = keeps_seed (λ s is. All (ItemHasSeed s) is) c.consume_item_delimiter.new.self c.args.self.now
          c.loop-items.items.items c.push_inner_item-in-loop-items.new.items.items
          (wanted.1 ∙ c.loop-items.invariant.built.visited.same) c.in_ok-push_inner_item-2.ensures.seed
          c.loop-items.invariant.seed;
    }

pub returns-in_err-push_inner_item-2-clause-tree : goal.returns-in_err-push_inner_item-2-clause-tree
returns-in_err-push_inner_item-2-clause-tree c =
    let wanted = rw c.if-branch.true at c.in_ok-consume_item_delimiter.ensures in
    rw (left_with c.from_residual-in_err-push_inner_item-2.ensures.1) (one_fails items_loop inner_items_at
    c.args.self.now c.loop-items.self c.consume_item_delimiter.new.self _ c.loop-items.invariant.built.visited wanted
    c.in_err-push_inner_item-2.ensures.tree)

pub returns-clause-tree : goal.returns-clause-tree
returns-clause-tree c =
    let wanted = rw c.if-branch.false at c.in_ok-consume_item_delimiter.ensures in
    built_all items_loop (map ordered_item) items_with item_added c.args.self.now _ c.loop-items.self
    c.consume_item_delimiter.new.self _ c.loop-items.invariant.built wanted
