use Rattle.std.proofs.Common.{◌≡◌}
use Rattle.sfv_values.{specs.BareItems.bare_value, proofs.Copies.copied_value}
use Rattle.sfv_tree.proofs.Entered.{pairs_tree-insert}
use Rattle.sfv_tree.proofs.parsed.insert_clone.Goals as goal

pub returns-clause-entries : goal.returns-clause-entries
returns-clause-entries c =
    let value : bare_value c.in_ok-clone-2.field-0 ≡ bare_value c.args.value.now =
    copied_value _ _ _ _ (λ s t h. h) (λ s t h. h.0) (λ s t h. h) (λ s t h. h) _ _ c.in_ok-clone-2.ensures.cases in
    rw (c.in_ok-insert.ensures.entries, pairs_tree-insert, value, c.in_ok-clone.ensures.cases)
