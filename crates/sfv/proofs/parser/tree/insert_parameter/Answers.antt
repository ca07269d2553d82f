use Rattle.std.proofs.Common.{refl}
use Rattle.sfv_tree.proofs.Entered.{pairs_tree-insert}
use Rattle.sfv.proofs.parser.tree.insert_parameter.Goals as goal

pub returns-clause-entries : goal.returns-clause-entries
returns-clause-entries c = rw (
  c.in_ok-enter_parameter.ensures.entries,
  pairs_tree-insert,
  c.in_ok-value.ensures.value,
  c.in_ok-key.ensures.text,
) refl
