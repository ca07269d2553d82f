use Rattle.std.proofs.Common.{◌<◌, ◌∙◌, length, codes, rules}
use Rattle.sfv_spec.specs.{Canonical.member_text, Values.IsMember}
use Rattle.sfv_writer.proofs.Separated.{anyway}
use Rattle.sfv_serializer.specs.ScriptSteps.{written_member, member_calls, added_text}
use Rattle.sfv_serializer.proofs.{Room.calls_lack, Scripts.{calls_more, no_less}}
use Rattle.sfv_serializer.proofs.script.write_list_members.Goals as goal

pub loop-member-preserved : goal.loop-member-preserved
loop-member-preserved g c =
    let w = c.in_ok-write_list_member.ensures in
    let calls = c.args.calls.now in
    let within : c.loop-member.member-index < length calls = search rules in (
      g.met.W.Sink.same_again _ _ _ c.loop-member.invariant.0 w.text.0,
      calls_more written_member member_calls member_text IsMember (codes ", ") calls c.loop-member.member-index
          c.member-item.result _ _ _ _ _ _ within c.member-item.is c.loop-member.invariant.1 w.text.2 w.text.1 w.value,
      w.text.3 ∙ c.loop-member.invariant.2,
      w.text.4 ∙ c.loop-member.invariant.3,
      no_less c.loop-member.invariant.4 w.text.5,
    )

pub returns-in_err-write_list_member-clause-room : goal.returns-in_err-write_list_member-clause-room
returns-in_err-write_list_member-clause-room g c =
    let row = c.loop-member.invariant in
    let within : c.loop-member.member-index < length c.args.calls.now = search rules in
    anyway _ _ (calls_lack written_member added_text member_calls member_text IsMember (codes ", ") c.args.calls.now
    c.loop-member.member-index c.member-item.result _ _ (g.W.Sink.text c.args.list.now.sink)
    (g.W.Sink.text c.loop-member.list.sink) within c.member-item.is row.1 row.4
    c.in_err-write_list_member.ensures.room)
