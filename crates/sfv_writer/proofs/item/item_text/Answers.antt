use Rattle.sfv_spec.specs.declared.field_kind.FieldKind.TheVariants.{Item as item_field}
use Rattle.sfv_writer.proofs.ReadBack.{serialized}
use Rattle.sfv_writer.proofs.item.item_text.Goals as goal

pub returns : goal.returns
returns c =
    let written = c.in_ok-serialize_item.ensures in
    record { text = serialized item_field _ _ _ tt c.text_for_item-text.ensures.bytes written.text written.value }
