use Rattle.std.proofs.Common.{[], ◌∷◌, subst}
use Rattle.sfv_spec.{specs.Values.AllFit, proofs.Marks.parameter_values}
use Rattle.sfv_values.specs.BareItems.{bare_value}
use Rattle.sfv_tree.specs.Trees.{pairs_tree}
use Rattle.sfv_writer.{specs.Versions.NamesFirstUnfit, proofs.Checks.{at_exit, names_front, looks_after}}
use Rattle.sfv_writer.proofs.version_check.check_item.Goals as goal

pub returns-in_err-check_bare_item : goal.returns-in_err-check_bare_item
returns-in_err-check_bare_item c =
    let version = c.args.version in
    let params = parameter_values (pairs_tree c.args.item.now.params.entries) in
    at_exit c.from_residual.result _ _ _ c.from_residual.ensures.1
    (names_front version (bare_value c.args.item.now.bare_item ∷ []) params _
    (subst (λ b. NamesFirstUnfit version (b ∷ []) c.in_err-check_bare_item.field-0.0) c.as_ref_item.ensures.value c.in_err-check_bare_item.ensures))

pub returns : goal.returns
returns c =
    let version = c.args.version in
    let params = parameter_values (pairs_tree c.args.item.now.params.entries) in
    looks_after _ (bare_value c.args.item.now.bare_item ∷ []) _ _ (subst (λ b. AllFit version
    (b ∷ [])) c.as_ref_item.ensures.value c.in_ok-check_bare_item.ensures) c.check_parameters.ensures
