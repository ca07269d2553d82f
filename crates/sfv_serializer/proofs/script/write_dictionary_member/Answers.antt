use Rattle.std.proofs.Common.{◌≡◌, rules}
use Rattle.sfv_values.specs.CheckedTexts.{text_of as key_text}
use Rattle.sfv_serializer.specs.{ScriptSteps.{member_calls, inner_list_calls}, Serializers.is_empty_so_far}
use Rattle.sfv_serializer.proofs.{Room.{on_err, dictionary_inner_lacks}, Scripts.dictionary_inner_written}
use Rattle.sfv_serializer.proofs.script.write_dictionary_member.Goals as goal

pub returns-in-InnerList-clause-text : goal.returns-in-InnerList-clause-text
returns-in-InnerList-clause-text g c =
    let is : member_calls c.args.member.now
    ≡ inner_list_calls c.deref.result.now c.deref-in-InnerList.result.now c.in-InnerList.abandon = search rules in
    dictionary_inner_written g.W.Sink c.args.dictionary.now c.write_inner.new.sequence c.write_inner.result (key_text c.args.name) c.args.member.now _ _ _ is
    c.write_inner.ensures.text

pub returns-in-InnerList-clause-room : goal.returns-in-InnerList-clause-room
returns-in-InnerList-clause-room g c =
    let is : member_calls c.args.member.now
    ≡ inner_list_calls c.deref.result.now c.deref-in-InnerList.result.now c.in-InnerList.abandon = search rules in
    rw is (on_err c.write_inner.result (dictionary_inner_lacks (g.W.Sink.text c.args.dictionary.now.sink)
    (is_empty_so_far c.args.dictionary.now) (key_text c.args.name) c.deref.result.now c.deref-in-InnerList.result.now
    c.in-InnerList.abandon) c.write_inner.ensures.room)
