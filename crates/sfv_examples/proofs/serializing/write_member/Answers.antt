use Rattle.std.proofs.Common.{◌≡◌, ◌++◌, ◌∷◌, [], List, ℕ, codes}
use Rattle.sfv.specs.{BareItems.ref_value, Canonical.bare_text, CheckedTexts.text_of}
use Rattle.sfv.specs.Serializers.{is_empty_so_far, sequence_version, params_sink}
use Rattle.sfv.specs.Written.{LacksRoom, separator_before, param_text}
use Rattle.sfv_examples.proofs.Exits.{at_exit, next_error, lacks_second, lacks_third}
use Rattle.sfv.specs.Types.serialize_errors as errors
use Rattle.sfv_examples.proofs.serializing.write_member.Goals as goal

pub returns-in_err-params-clause-unsupported : goal.returns-in_err-params-clause-unsupported
returns-in_err-params-clause-unsupported g c =
    next_error c.in_err-params.field-0.0 c.from_residual.result c.from_residual.ensures.1 (sequence_version c.args.list.now)
    [] (ref_value c.args.value) (ref_value c.args.first ∷ ref_value c.args.second ∷ []) _ tt
    c.in_err-params.ensures.unsupported

pub returns-in_err-parameter-clause-room : goal.returns-in_err-parameter-clause-room
returns-in_err-parameter-clause-room g c =
    let old = g.W.Sink.text c.args.list.now.sink in
    let front : List ℕ = separator_before (is_empty_so_far c.args.list.now) (codes ", ") in
    let value : List ℕ = bare_text (ref_value c.args.value) in
    let one : List ℕ = param_text (text_of c.args.key) (ref_value c.args.first) in
    let two : List ℕ = param_text (text_of c.args.key) (ref_value c.args.second) in
    at_exit c.in_err-parameter.field-0.0 c.from_residual-in_err-parameter.result c.from_residual-in_err-parameter.ensures.1
    _ (λ e. e ≡ errors.OutOfMemory → LacksRoom old (front ++ (value ++ (one ++ (two ++ [])))))
    (λ memory. lacks_second old front value (g.W.Sink.text (params_sink c.in_ok-params.params).now.sink)
    c.in_ok-params.ensures.text.1 c.in_ok-params.ensures.text.5 one (two ++ []) (c.in_err-parameter.ensures.room memory))

pub returns-in_err-list-clause-room : goal.returns-in_err-list-clause-room
returns-in_err-list-clause-room g c =
    let old = g.W.Sink.text c.args.list.now.sink in
    let front : List ℕ = separator_before (is_empty_so_far c.args.list.now) (codes ", ") in
    let value : List ℕ = bare_text (ref_value c.args.value) in
    let one : List ℕ = param_text (text_of c.args.key) (ref_value c.args.first) in
    let two : List ℕ = param_text (text_of c.args.key) (ref_value c.args.second) in
    at_exit c.in_err-list.field-0.0 c.from_residual-in_err-list.result c.from_residual-in_err-list.ensures.1 _
    (λ e. e ≡ errors.OutOfMemory → LacksRoom old (front ++ (value ++ (one ++ (two ++ [])))))
    (λ memory. lacks_third old front value (g.W.Sink.text (params_sink c.in_ok-params.params).now.sink)
    c.in_ok-params.ensures.text.1 c.in_ok-params.ensures.text.5
    (g.W.Sink.text (params_sink c.in_ok-parameter.field-0).now.sink) one two [] c.in_ok-parameter.ensures.text.1
    c.in_ok-parameter.ensures.text.5 (c.in_err-list.ensures.room memory))
