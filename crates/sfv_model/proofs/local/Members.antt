-- On how much of the text inner lists and members rest.
use Rattle.sfv_spec.specs.{Events.inner_item_events, declared.version.Version.Version}
use Rattle.sfv_model.specs.Judgements.{Local}
use Rattle.sfv_model.specs.Members.{inner_item_at, next_item_at, inner_items_at, inner_at, member_at, entry_at}
use Rattle.sfv_model.specs.{Members.{member_value_at, keyed_at}, Reader.many}
use Rattle.sfv_model.proofs.local.{Combinators.local_rules, Items.{Local-key, Local-parameters, Local-item}}
use Rattle.sfv_model.proofs.sound.{Many.Local-many, Members.Consumes-next_item}

-- ---- what an answer rests on

pub Local-inner_item : (version : Version) → Local (inner_item_at version)
unfolding inner_item_at
Local-inner_item version = search (local_rules, Local-item) depth 40

pub Local-next_item : (version : Version) → Local (next_item_at version)
unfolding next_item_at
Local-next_item version = search (local_rules, Local-inner_item) depth 40

pub Local-next_items : (version : Version) → Local (many inner_item_events (next_item_at version))
Local-next_items version = Local-many _ _ (Consumes-next_item _) (Local-next_item _)

pub Local-items : (version : Version) → Local (inner_items_at version)
unfolding inner_items_at
Local-items version = search (local_rules, Local-inner_item, Local-next_items) depth 40

pub Local-inner : (version : Version) → Local (inner_at version)
unfolding inner_at
Local-inner version = search (local_rules, Local-items, Local-parameters) depth 40

pub Local-member : (version : Version) → Local (member_at version)
unfolding member_at
Local-member version = search (local_rules, Local-item, Local-inner) depth 40

pub Local-entry : (version : Version) → Local (entry_at version)
unfolding entry_at
Local-entry version = search (local_rules, Local-member) depth 40

pub Local-member_value : (version : Version) → Local (member_value_at version)
unfolding member_value_at
Local-member_value version = search (local_rules, Local-member, Local-parameters) depth 40

pub Local-keyed : (version : Version) → Local (keyed_at version)
unfolding keyed_at
Local-keyed version = search (local_rules, Local-key, Local-member_value) depth 40
