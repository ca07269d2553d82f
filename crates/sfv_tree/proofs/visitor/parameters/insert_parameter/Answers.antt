use Rattle.std.proofs.Common.{refl}
use Rattle.sfv_tree.proofs.Entered.{pairs_tree-insert}
use Rattle.sfv_tree.proofs.visitor.parameters.insert_parameter.Goals as goal

pub returns-clause-entries : goal.returns-clause-entries
returns-clause-entries c = rw (
  c.in_ok-insert.ensures.entries,
  pairs_tree-insert,
  c.in_ok-value.ensures.value,
  c.in_ok-key.ensures.text,
) refl
