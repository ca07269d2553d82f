use Rattle.std.proofs.Common.{◌≡◌, subst, string_bytes}
use Rattle.sfv.specs.Trees.{inner_list_tree}
use Rattle.sfv_signatures.specs.{Components.IsBaseError, declared.base_error.BaseError.BaseError}
use Rattle.sfv_signatures.proofs.{Lined.{step_more, error_at}, Named.on_error}
use Rattle.sfv_signatures.proofs.base.signature_base.Goals as goal

pub returns-in_err-append_at-clause-failed : goal.returns-in_err-append_at-clause-failed
returns-in_err-append_at-clause-failed g c =
    let message = g.M.Components.gives c.args.message.now in
    let l = inner_list_tree c.args.list.now in
    let fault : IsBaseError message l c.in_err-append_at.field-0.0 =
    error_at message l c.loop-index.index (string_bytes c.loop-index.base) c.in_err-append_at.field-0.0
    c.loop-index.invariant c.in_err-append_at.ensures.line c.in_err-append_at.ensures.place in
    on_error c.from_residual.result _ _ (IsBaseError message l) c.from_residual.ensures.1
    (λ (e : BaseError) h. let same : c.in_err-append_at.field-0.0 ≡ e = cc (h) in subst (IsBaseError message l) same fault)

pub loop-index-preserved : goal.loop-index-preserved
loop-index-preserved g c = step_more (g.M.Components.gives c.args.message.now) (inner_list_tree c.args.list.now)
    c.loop-index.index (string_bytes c.loop-index.base) (string_bytes c.append_at.new.base) c.loop-index.invariant
    c.in_ok-append_at.ensures.line
