use Rattle.std.proofs.Common.{rules, ◌≢◌, [], ◌∙◌}
use Rattle.sfv_tree.{specs.Trees.pairs_tree, proofs.Entered.{entered_again, insert_entry-entered}}
use Rattle.sfv_tree.proofs.parsed.copy_params.Goals as goal

pub loop-key-init : goal.loop-key-init
loop-key-init c = (
  rw (c.in_ok-copy.ensures.empty, c.into_iter-key-iterator.ensures.into_iter_gives, c.iter-key-items.ensures.rest)
      (entered_again _ c.iter-key-items.ensures.unique),
  c.in_ok-copy.ensures.hasher ∙ c.hasher.ensures,
  λ none. rw (c.into_iter-key-iterator.ensures.into_iter_gives, c.iter-key-items.ensures.rest) none,
)

pub loop-key-preserved : goal.loop-key-preserved
loop-key-preserved c = (
  rw (c.in_ok-insert_clone.ensures.entries, insert_entry-entered) (rw c.in-Some.ensures.steps at c.loop-key.invariant.0),
  c.in_ok-insert_clone.ensures.seed ∙ c.loop-key.invariant.1,
  λ none. let same = rw c.in-Some.ensures.steps at c.loop-key.invariant.2 none in absurd (cc same),
)

pub returns-in_err-insert_clone-clause-out_of_memory : goal.returns-in_err-insert_clone-clause-out_of_memory
returns-in_err-insert_clone-clause-out_of_memory c =
    let some : pairs_tree c.args.params.now.entries ≢ [] = λ none.
    let same = rw c.in-Some.ensures.steps at c.loop-key.invariant.2 none in cc same in search rules

pub returns-clause-tree : goal.returns-clause-tree
returns-clause-tree c = rw c.shrink_to_fit.ensures.entries (rw c.in-None.ensures.steps.0 at c.loop-key.invariant.0)

pub returns-clause-seed : goal.returns-clause-seed
returns-clause-seed c = c.shrink_to_fit.ensures.hasher ∙ c.loop-key.invariant.1
