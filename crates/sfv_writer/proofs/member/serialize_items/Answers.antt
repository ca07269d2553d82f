use Rattle.std.{proofs.Common.{◌≡◌, codes}, specs.Slice.Iter.iter_steps}
use Rattle.sfv_spec.specs.{Canonical.item_text, Ordered.ordered_item, Values.{IsItem, item_values}}
use Rattle.sfv_tree.specs.Trees.{item_tree}
use Rattle.sfv_writer.proofs.{AllTaken.whole_written, Lent.slice_gives}
use Rattle.sfv_writer.proofs.member.serialize_items.Goals as goal

pub returns : goal.returns
returns g c =
    let w = c.serialize_elements.ensures in
    let all = whole_written iter_steps c.iter.result (λ i. item_tree i.now) item_text item_values (λ i. IsItem i
    × (ordered_item i ≡ i)) (codes " ") _ c.args.output.now c.serialize_elements.new.output c.serialize_elements.result
    (slice_gives item_tree c.iter.result c.args.items.now c.iter.ensures.rest) w.text w.room w.stays w.kept in
    record { text = all.0; room = all.1; values = all.2 }
