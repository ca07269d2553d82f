use Rattle.std.proofs.Common.{◌≡◌, ◌++◌, ◌∷◌, [], List, ℕ, refl, rules, codes}
use Rattle.sfv.specs.{BareItems.ref_value, Canonical.bare_text, CheckedTexts.text_of as key_text}
use Rattle.sfv.specs.Serializers.{is_empty_so_far, sequence_version, params_sink}
use Rattle.sfv.{specs.Written.{LacksRoom, separator_before, param_text}, proofs.Callers.{more_as, more_after}}
use Rattle.sfv_examples.proofs.{Exits.{at_exit, next_error, lacks_second}, Parts.{with_param, grown_as, grown_rests}}
use Rattle.sfv.specs.Types.serialize_errors as errors
use Rattle.sfv_examples.proofs.serializing.put_with.Goals as goal

pub returns-in_err-inner-clause-grows : goal.returns-in_err-inner-clause-grows
returns-in_err-inner-clause-grows g c = grown_rests g.X.Sink g.met.X.Sink.same_again c.args.inner.now
    (params_sink c.in_ok-params.params).now c.parameter.follows.lender-at-none _ _ _ _ _ _ _
    c.in_ok-params.ensures.text c.in_err-inner.was c.parameter.follows.holds-at-none (search rules) (search rules)

pub returns-clause-text : goal.returns-clause-text
returns-clause-text g c =
    let last = (params_sink c.in_ok-inner.field-0).now in
    let text = with_param (separator_before (is_empty_so_far c.args.inner.now) (codes " ")) (bare_text (ref_value c.args.value))
    (param_text (key_text c.args.param.0) (ref_value c.args.param.1)) in
    let whole = more_after g.X.Sink g.met.X.Sink.same_again c.args.inner.now (params_sink c.in_ok-params.params).now
    last _ _ _ _ c.in_ok-params.ensures.text c.in_ok-inner.ensures.text text in
    more_as g.X.Sink c.args.inner.now last _ _ _ _ _ _ whole (search rules) (search rules) (search rules) (search rules)

pub returns-clause-grows : goal.returns-clause-grows
returns-clause-grows g c =
    let last = (params_sink c.in_ok-inner.field-0).now in
    let whole = more_after g.X.Sink g.met.X.Sink.same_again c.args.inner.now (params_sink c.in_ok-params.params).now
    last _ _ _ _ c.in_ok-params.ensures.text c.in_ok-inner.ensures.text refl in
    grown_as g.X.Sink c.args.inner.now last _ _ _ _ whole (search rules) (search rules)

pub returns-in_err-params-clause-unsupported : goal.returns-in_err-params-clause-unsupported
returns-in_err-params-clause-unsupported g c =
    next_error c.in_err-params.field-0.0 c.from_residual.result c.from_residual.ensures.1 (sequence_version c.args.inner.now)
    [] (ref_value c.args.value) (ref_value c.args.param.1 ∷ []) _ tt c.in_err-params.ensures.unsupported

pub returns-in_err-inner-clause-room : goal.returns-in_err-inner-clause-room
returns-in_err-inner-clause-room g c =
    let old = g.X.Sink.text c.args.inner.now.sink in
    let front : List ℕ = separator_before (is_empty_so_far c.args.inner.now) (codes " ") in
    let value : List ℕ = bare_text (ref_value c.args.value) in
    let param : List ℕ = param_text (key_text c.args.param.0) (ref_value c.args.param.1) in
    at_exit c.in_err-inner.field-0.0 c.from_residual-in_err-inner.result c.from_residual-in_err-inner.ensures.1 _
    (λ e. e ≡ errors.OutOfMemory → LacksRoom old (front ++ (value ++ (param ++ []))))
    (λ memory. lacks_second old front value (g.X.Sink.text (params_sink c.in_ok-params.params).now.sink)
    c.in_ok-params.ensures.text.1 c.in_ok-params.ensures.text.5 param [] (c.in_err-inner.ensures.room memory))
