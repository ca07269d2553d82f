use Rattle.std.proofs.Common.{◌≡◌, ◌++◌, ◌∙◌, List, [], ℕ, true, false, lit<, string_bytes, sym, ap, ◌/◌, nat_abs}
use Rattle.std.{proofs.Common.{decimal, append-nil}, specs.Int.is_negative}
use Rattle.sfv_spec.{specs.Canonical.decimal_text, proofs.Marks.minus_text}
use Rattle.sfv_base.specs.Numbers.{thousandths_of}
use Rattle.sfv_writer.{specs.Written.Extends, proofs.Appended.{next, unchanged, stops}}
use Rattle.sfv_writer.proofs.Decimals.{same_number, minus_of, front_of, decimal_parts}
use Rattle.sfv_writer.proofs.number.serialize_decimal_parts.Goals.{then-value-lt0+in_ok-push, else-value-lt0}
use Rattle.sfv_writer.proofs.number.serialize_decimal_parts.Goals as goal

pub returns-clause-text : goal.returns-clause-text
returns-clause-text g c =
    let old : List ℕ = string_bytes c.args.output.now in
    let z = thousandths_of c.args.value in
    let same = same_number c.from-value.result _ z c.from-value.ensures c.as_integer_scaled_1000.ensures in
    let front : string_bytes c.if-value-lt0.output ≡ old ++ minus_text (is_negative z) = elim c.if-value-lt0.branch [
      | then-value-lt0+in_ok-push w ↦ front_of old _ _ _ _ (ap string_bytes w.output-is) w.in_ok-push.ensures.bytes
          (w.in_ok-push.ensures.ascii (lit< tt) ∙ sym (minus_of _ z true same w.if-value-lt0.true))
      | else-value-lt0 w ↦ front_of old [] _ _ _ (ap string_bytes w.output-is) (sym (append-nil old))
          (sym (minus_of _ z false same w.if-value-lt0.false))
    ] in
    decimal_parts _ _ _ _ _ _ z _ _ (c.unsigned_abs-magnitude.ensures.value ∙ ap nat_abs same) front
    c.in_ok-serialize_natural.ensures.text (c.in_ok-push-2.ensures.ascii (lit< tt))
    c.in_ok-push-2.ensures.bytes c.serialize_fraction.ensures.text

pub returns-in_err-serialize_natural-clause-text : goal.returns-in_err-serialize_natural-clause-text
returns-in_err-serialize_natural-clause-text g c =
    let old : List ℕ = string_bytes c.args.output.now in
    let front : Extends old (string_bytes c.if-value-lt0.output) = elim c.if-value-lt0.branch [
      | then-value-lt0+in_ok-push w ↦ (_, ap string_bytes w.output-is ∙ w.in_ok-push.ensures.bytes)
      | else-value-lt0 w ↦ unchanged old _ (ap string_bytes w.output-is)
    ] in
    stops old front.0 _ _ (decimal_text (thousandths_of c.args.value)) c.from_residual-in_err-serialize_natural.result
    c.from_residual-in_err-serialize_natural.ensures.0 front.1 (unchanged _ _ c.in_err-serialize_natural.ensures.text)

pub returns-in_err-push-2-clause-text : goal.returns-in_err-push-2-clause-text
returns-in_err-push-2-clause-text g c =
    let old : List ℕ = string_bytes c.args.output.now in
    let front : Extends old (string_bytes c.if-value-lt0.output) = elim c.if-value-lt0.branch [
      | then-value-lt0+in_ok-push w ↦ (_, ap string_bytes w.output-is ∙ w.in_ok-push.ensures.bytes)
      | else-value-lt0 w ↦ unchanged old _ (ap string_bytes w.output-is)
    ] in
    stops old (front.0 ++ decimal (c.unsigned_abs-magnitude.result / 1000)) _ _ (decimal_text (thousandths_of c.args.value))
    c.from_residual-in_err-push-2.result c.from_residual-in_err-push-2.ensures.0
    (next old front.0 _ (decimal (c.unsigned_abs-magnitude.result / 1000)) _ front.1 c.in_ok-serialize_natural.ensures.text)
    (unchanged _ _ c.in_err-push-2.ensures.bytes)
