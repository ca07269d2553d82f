use Rattle.std.proofs.Common.{◌≡◌, refl}
use Rattle.sfv_values.{specs.BareItems.bare_value, proofs.Copies.copied_value}
use Rattle.sfv_tree.proofs.parsed.ItemClone.clone.Goals as goal

pub returns : goal.returns
returns c =
    let value : bare_value c.in_ok-value.value ≡ bare_value c.args.self.now.bare_item =
    copied_value _ _ _ _ (λ s t h. h) (λ s t h. h.0) (λ s t h. h) (λ s t h. h) _ _ c.in_ok-value.ensures.cases in
    record {
      cases = (
        rw (c.with_params.ensures.value, c.with_params.ensures.params, value, c.in_ok-params.ensures.tree) refl,
        rw c.with_params.ensures.params c.in_ok-params.ensures.seed,
      );
    }
