use Rattle.std.proofs.Common.{subst}
use Rattle.sfv_spec.specs.Values.{IsBareValue}
use Rattle.sfv_tree.specs.Trees.{item_tree}
use Rattle.sfv_writer.proofs.Parameters.{item_on_ok}
use Rattle.sfv_writer.proofs.item.serialize_item.Goals as goal

pub returns-clause-value : goal.returns-clause-value
returns-clause-value g c = item_on_ok (item_tree c.args.item.now) c.serialize_all_parameters.result
    (subst IsBareValue c.as_ref_item.ensures.value c.in_ok-serialize_bare_item.ensures.value)
    c.serialize_all_parameters.ensures.value c.serialize_all_parameters.ensures.distinct
