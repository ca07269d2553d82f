use Rattle.std.proofs.Common.{◌≡◌}
use Rattle.indexmap.specs.IndexMap.{hasher_of}
use Rattle.sfv_tree.{specs.Trees.item_tree, specs.declared.parsed.Item.Item, proofs.Clones.{each_cloned, each_seeded}}
use Rattle.sfv_tree.proofs.parsed.copy_items.Goals as goal

pub returns-clause-tree : goal.returns-clause-tree
returns-clause-tree c = each_cloned item_tree (λ x y. hasher_of y.params ≡ hasher_of x.params) _ _
    c.in_ok-copy.ensures.cases.0

pub returns-clause-seeds : goal.returns-clause-seeds
returns-clause-seeds c = each_seeded (λ x y. item_tree y ≡ item_tree x) (λ (i : Item). hasher_of i.params) _ _
    c.in_ok-copy.ensures.cases.0
