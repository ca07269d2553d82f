use Rattle.std.proofs.Common.{Some, string_bytes}
use Rattle.sfv_spec.specs.{Values.bare_values, declared.field_kind.FieldKind.TheVariants.Item as item_field}
use Rattle.sfv_tree.specs.Trees.{item_tree}
use Rattle.sfv_writer.proofs.{Checks.{look_fails, memory_fails}, ReadBack.serialized_for}
use Rattle.sfv.proofs.field_type.ItemFieldType.serialize_for.Goals as goal

pub returns-in_err-check_item-clause-unsupported : goal.returns-in_err-check_item-clause-unsupported
returns-in_err-check_item-clause-unsupported c =
    let version = c.args.version in
    let item = item_tree c.args.self.now in
    let error = c.in_err-check_item.field-0.0 in
    look_fails version (bare_values item_field item) _ _ c.from_residual.ensures.1 c.in_err-check_item.ensures

pub returns-in_err-text-clause-unsupported : goal.returns-in_err-text-clause-unsupported
returns-in_err-text-clause-unsupported c =
    let version = c.args.version in
    let item = item_tree c.args.self.now in
    memory_fails version (bare_values item_field item) c.from_residual-in_err-text.result
    c.from_residual-in_err-text.ensures.1 c.in_ok-check_item.ensures

pub returns-clause-text : goal.returns-clause-text
returns-clause-text c =
    let version = c.args.version in
    let item = item_tree c.args.self.now in
    serialized_for version item_field item (Some (string_bytes c.in_ok-text.text))
    c.in_ok-check_item.ensures c.in_ok-text.ensures.text

pub returns-clause-unsupported : goal.returns-clause-unsupported
returns-clause-unsupported c = c.in_ok-check_item.ensures
