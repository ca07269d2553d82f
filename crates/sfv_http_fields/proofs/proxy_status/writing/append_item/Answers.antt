use Rattle.std.proofs.Common.{rules, ◌≡◌, ◌++◌, ◌∙◌, refl, codes, string_bytes, pos}
use Rattle.sfv.specs.{Canonical.bare_text, Field.{ref_value, token, integer, text_of as token_text}, Written.param_text}
use Rattle.sfv_http_fields.proofs.ReadBack.{three_added}
use Rattle.sfv_http_fields.proofs.proxy_status.writing.append_item.Goals as goal

pub returns-clause-text : goal.returns-clause-text
returns-clause-text c =
    let old = string_bytes c.args.text.now in
    let name = bare_text (ref_value c.args.name) in
    let error = param_text (codes "error") (token (token_text c.args.error)) in
    let status = param_text (codes "received-status") (integer (pos c.args.received_status)) in
    let first : string_bytes c.in_ok-params.params.sink.now ≡ old ++ name = search rules in
    let second : string_bytes c.in_ok-params-2.params.sink.now ≡ old ++ name ++ error =
    c.in_ok-params-2.ensures.text.0 ∙ rw (first, c.key_ref.ensures) refl in
    let is : ref_value c.from-status.result ≡ integer (pos c.args.received_status) = search rules in
    let third : string_bytes c.in_ok-text.field-0.sink.now ≡ old ++ name ++ error ++ status =
    c.in_ok-text.ensures.text.0 ∙ rw (second, c.key_ref-2.ensures, is) refl in
    (search rules) ∙ third ∙ three_added old name error status
