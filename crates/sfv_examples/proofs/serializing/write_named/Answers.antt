use Rattle.std.proofs.Common.{◌≡◌, ◌++◌, ◌∷◌, [], List, ℕ, codes}
use Rattle.sfv.specs.{Field.{ref_value, text_of}, Serializers.{is_empty_so_far, sequence_version, params_sink}}
use Rattle.sfv.specs.Written.{LacksRoom, separator_before, keyed_text, param_text}
use Rattle.sfv_examples.proofs.Exits.{at_exit, next_error, lacks_second}
use Rattle.sfv.specs.Types.serialize_errors as errors
use Rattle.sfv_examples.proofs.serializing.write_named.Goals as goal

pub returns-in_err-params-clause-unsupported : goal.returns-in_err-params-clause-unsupported
returns-in_err-params-clause-unsupported g c =
    next_error c.in_err-params.field-0.0 c.from_residual.result c.from_residual.ensures.1 (sequence_version c.args.dict.now)
    [] (ref_value c.args.value) (ref_value c.args.param ∷ []) _ tt c.in_err-params.ensures.unsupported

pub returns-in_err-dict-clause-room : goal.returns-in_err-dict-clause-room
returns-in_err-dict-clause-room g c =
    let old = g.W.Sink.text c.args.dict.now.sink in
    let front : List ℕ = separator_before (is_empty_so_far c.args.dict.now) (codes ", ") in
    let value : List ℕ = keyed_text (text_of c.args.name) (ref_value c.args.value) in
    let param : List ℕ = param_text (text_of c.args.key) (ref_value c.args.param) in
    at_exit c.in_err-dict.field-0.0 c.from_residual-in_err-dict.result c.from_residual-in_err-dict.ensures.1 _
    (λ e. e ≡ errors.OutOfMemory → LacksRoom old (front ++ (value ++ (param ++ []))))
    (λ memory. lacks_second old front value (g.W.Sink.text (params_sink c.in_ok-params.params).now.sink)
    c.in_ok-params.ensures.text.1 c.in_ok-params.ensures.text.5 param [] (c.in_err-dict.ensures.room memory))
