-- On how much of the text a field rests.
use Rattle.sfv_model.specs.{Fields.whole_field_at, Judgements.Local}
use Rattle.sfv_model.proofs.Types.{FieldKind, item_field, list_field, dictionary_field, Version}
use Rattle.sfv_model.proofs.local.{Combinators.local_rules, Items.Local-item, Members.{Local-entry, Local-keyed}}
use Rattle.sfv_model.proofs.sound.{Members.{Sound-entry, Sound-keyed}, Separated.Local-members}

pub Local-field : (version : Version) (kind : FieldKind) → Local (whole_field_at version kind)
unfolding whole_field_at
Local-field version item_field = search (local_rules, Local-item) depth 40
Local-field version list_field = Local-members _ _ _ (Sound-entry _) (Local-entry _)
Local-field version dictionary_field = Local-members _ _ _ (Sound-keyed _) (Local-keyed _)
