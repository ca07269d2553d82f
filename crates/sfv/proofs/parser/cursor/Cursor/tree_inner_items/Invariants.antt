use Rattle.std.proofs.Common.{length, map, All}
use Rattle.sfv_spec.specs.Ordered.{ordered_item}
use Rattle.sfv_model.specs.Members.{inner_items_at}
use Rattle.sfv_tree.specs.{Seeds.ItemHasSeed, Trees.item_tree}
use Rattle.sfv.{specs.parser.Cursor.{version, rest}, proofs.trees.Loops.BuiltSoFar, proofs.visits.Loops.items_loop}
use Rattle.sfv.proofs.parser.cursor.Cursor.tree_inner_items.Given as goal

abbrev pub invariant-loop-items : goal.invariant-loop-items
invariant-loop-items l = record {
  built : BuiltSoFar items_loop (map ordered_item) l.fn.self (inner_items_at (version l.fn.self) (rest l.fn.self))
      l.self (map item_tree l.items.items);
  seed : All (ItemHasSeed l.fn.self.parser.seed) l.items.items;
}

abbrev pub decreases-loop-items : goal.decreases-loop-items
decreases-loop-items l = length (rest l.self)
