use Rattle.std.proofs.Common.{map, subst, flat_map}
use Rattle.sfv_spec.{specs.Values.{AllFit, item_values}, proofs.Marks.parameter_values}
use Rattle.sfv_tree.specs.Trees.{item_tree, pairs_tree}
use Rattle.sfv_writer.{specs.Versions.NamesFirstUnfit, proofs.Checks.{at_exit, names_front, looks_after}}
use Rattle.sfv_writer.proofs.version_check.check_inner_list.Goals as goal

pub returns-in_err-check_items : goal.returns-in_err-check_items
returns-in_err-check_items c =
    let version = c.args.version in
    at_exit c.from_residual.result _ _ _ c.from_residual.ensures.1
    (names_front version (flat_map item_values (map item_tree c.args.list.now.items.items)) (parameter_values
    (pairs_tree c.args.list.now.params.entries)) _ (subst (λ is. NamesFirstUnfit version (flat_map item_values
    (map item_tree is)) c.in_err-check_items.field-0.0) c.deref.ensures.value c.in_err-check_items.ensures))

pub returns : goal.returns
returns c =
    let version = c.args.version in
    looks_after _ _ _ _ (subst (λ is. AllFit version (flat_map item_values
    (map item_tree is))) c.deref.ensures.value c.in_ok-check_items.ensures) c.check_parameters.ensures
