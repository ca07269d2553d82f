use Rattle.std.proofs.Common.{lit<}
use Rattle.sfv_writer.proofs.Appended.{put, next, after, both_after}
use Rattle.sfv_writer.proofs.member.serialize_dictionary_member.Goals as goal

pub returns-in-Item-clause-text : goal.returns-in-Item-clause-text
returns-in-Item-clause-text g c = rw c.in-Item.is (both_after _ c.args.key.now _ _ _ _ c.serialize_item_after_key.result
    (put _ _ _ _ c.in_ok-serialize_key.ensures.text c.as_key_ref.ensures) c.serialize_item_after_key.ensures.text)

pub returns-in_ok-push-in-InnerList-clause-text : goal.returns-in_ok-push-in-InnerList-clause-text
returns-in_ok-push-in-InnerList-clause-text g c = rw c.in-InnerList.is (after _ _ _ _ _ c.serialize_inner_list.result
    (next _ c.args.key.now _ _ _ (put _ _ _ _ c.in_ok-serialize_key.ensures.text c.as_key_ref.ensures)
    (put _ _ _ _ c.in_ok-push-in-InnerList.ensures.bytes
    (c.in_ok-push-in-InnerList.ensures.ascii (lit< tt)))) c.serialize_inner_list.ensures.text)
