use Rattle.std.proofs.Common.{codes, string_bytes, subst, lit<}
use Rattle.sfv_spec.specs.Canonical.{value_text}
use Rattle.sfv_values.specs.BareItems.{bare_value}
use Rattle.sfv_writer.{specs.Written.{Appends, param_text}, proofs.Appended.{put, after, stops, unchanged}}
use Rattle.sfv_writer.proofs.item.serialize_parameter.Goals as goal

pub returns-clause-text : goal.returns-clause-text
returns-clause-text g c =
    let result = c.serialize_value.result in
    after _ (codes ";") _ _ _ result (put _ _ _ _ c.in_ok-push.ensures.bytes (c.in_ok-push.ensures.ascii (lit< tt)))
    (after _ c.args.key.now _ _ _ result (put _ _ _ _ c.in_ok-serialize_key.ensures.text c.as_key_ref.ensures)
    (subst (λ v. Appends c.serialize_key.new.output c.serialize_value.new.output (value_text v) result)
    c.as_ref_item.ensures.value c.serialize_value.ensures.text))

pub returns-in_err-serialize_key-clause-text : goal.returns-in_err-serialize_key-clause-text
returns-in_err-serialize_key-clause-text g c = stops (string_bytes c.args.output.now) (codes ";") _ _
    (param_text c.args.key.now (bare_value c.args.value.now)) _ c.from_residual-in_err-serialize_key.ensures.0
    (put _ _ _ _ c.in_ok-push.ensures.bytes (c.in_ok-push.ensures.ascii (lit< tt)))
    (unchanged _ _ c.in_err-serialize_key.ensures.text)
