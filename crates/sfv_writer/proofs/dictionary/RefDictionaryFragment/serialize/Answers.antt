use Rattle.std.{proofs.Common.{◌≡◌, codes, IsTrue}, specs.Map.Iter.{TakesFirst, deref_pair}}
use Rattle.indexmap.proofs.MapLemmas.{OnOk-map}
use Rattle.sfv_spec.specs.{Canonical.dictionary_member_text, Classes.is_key, Ordered.ordered_member}
use Rattle.sfv_spec.{specs.Values.{IsMember, member_values}, proofs.Distinct.dictionary_own}
use Rattle.sfv_tree.{specs.Trees.dictionary_tree, proofs.Distinct.members_distinct, proofs.Words.entry_tree}
use Rattle.sfv_writer.proofs.{AllTaken.whole_written, Lent.map_gives, Separated.all_both, Words.lent_dictionary_member}
use Rattle.sfv_writer.proofs.dictionary.RefDictionaryFragment.serialize.Goals as goal

pub returns : goal.returns
returns g c =
    let entries = c.args.self.now.entries in
    let members = dictionary_tree entries in
    let w = c.serialize_elements.ensures in
    let all = whole_written (TakesFirst deref_pair) c.iter.result lent_dictionary_member dictionary_member_text
    (λ m. member_values m.1) (λ m. (IsTrue (is_key m.0) × IsMember m.1) × (ordered_member m.1 ≡ m.1)) (codes ", ") members
    c.args.output.now c.serialize_elements.new.output c.serialize_elements.result
    (map_gives deref_pair entry_tree c.iter.result entries c.iter.ensures.rest) w.text w.room w.stays w.kept in
    record {
      text = all.0;
      room = all.1;
      valid = OnOk-map c.serialize_elements.result _ _ (λ good.
          let both = all_both (λ m. IsTrue (is_key m.0) × IsMember m.1) (λ m. ordered_member m.1 ≡ m.1) members good in
          record { parts = both.0; distinct = dictionary_own members (members_distinct entries c.iter.ensures.unique) both.1 }) all.2;
    }
