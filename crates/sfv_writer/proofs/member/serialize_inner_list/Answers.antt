use Rattle.std.{proofs.Common.{◌≡◌, map, codes, subst, lit<}, specs.List.AllByRecursion}
use Rattle.sfv_spec.specs.{Canonical.item_text, Ordered.ordered_item, Texts.joined, Values.IsItem}
use Rattle.sfv_spec.proofs.Distinct.{inner_list_own}
use Rattle.sfv_tree.specs.Trees.{item_tree}
use Rattle.sfv_writer.proofs.{Appended.{put, after, between}, Separated.{all_both, parts_on_ok}}
use Rattle.sfv_writer.proofs.member.serialize_inner_list.Goals as goal

pub returns-clause-text : goal.returns-clause-text
returns-clause-text g c = after _ _ _ _ _ _ (between (λ is. joined (codes " ") (map item_text
    (map item_tree is))) _ _ _ _ _ _ _ _ (put _ _ _ _ c.in_ok-push.ensures.bytes (c.in_ok-push.ensures.ascii
    (lit< tt))) c.deref.ensures.value c.in_ok-serialize_items.ensures.text (put _ _ _ _ c.in_ok-push-2.ensures.bytes
    (c.in_ok-push-2.ensures.ascii (lit< tt)))) c.serialize_all_parameters.ensures.text

pub returns-clause-value : goal.returns-clause-value
returns-clause-value g c =
    let good = subst (λ is. AllByRecursion (λ i. IsItem i
    × (ordered_item i ≡ i)) (map item_tree is)) c.deref.ensures.value c.in_ok-serialize_items.ensures.values in
    let both = all_both _ _ _ good in
    let parameters = c.serialize_all_parameters.ensures in
    parts_on_ok _ _ _ both.0 (inner_list_own _ both.1) parameters.value parameters.distinct
