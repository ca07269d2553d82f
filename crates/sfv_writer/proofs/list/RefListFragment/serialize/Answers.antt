use Rattle.std.{proofs.Common.{◌≡◌, codes, ◌∙◌}, specs.Slice.Iter.iter_steps}
use Rattle.indexmap.proofs.MapLemmas.{OnOk-map}
use Rattle.sfv_spec.specs.{Canonical.member_text, Ordered.ordered_member, Values.{IsMember, member_values}}
use Rattle.sfv_spec.proofs.Distinct.{list_own}
use Rattle.sfv_tree.specs.Trees.{member_tree, list_tree}
use Rattle.sfv_writer.proofs.{AllTaken.whole_written, Lent.slice_gives, Separated.all_both, Words.lent_list_member}
use Rattle.sfv_writer.proofs.list.RefListFragment.serialize.Goals as goal

pub returns : goal.returns
returns g c =
    let members = list_tree c.args.self.now.items in
    let w = c.serialize_elements.ensures in
    let all = whole_written iter_steps c.iter.result lent_list_member member_text member_values
    (λ m. IsMember m × (ordered_member m ≡ m)) (codes ", ") members c.args.output.now c.serialize_elements.new.output
    c.serialize_elements.result (slice_gives member_tree c.iter.result c.args.self.now.items
    (c.iter.ensures.rest ∙ c.deref.ensures.value)) w.text w.room w.stays w.kept in
    record {
      text = all.0;
      room = all.1;
      valid = OnOk-map c.serialize_elements.result _ _ (λ good.
          let both = all_both IsMember (λ m. ordered_member m ≡ m) members good in
          record { parts = both.0; distinct = list_own members both.1 }) all.2;
    }
