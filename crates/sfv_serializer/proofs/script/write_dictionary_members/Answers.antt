use Rattle.std.proofs.Common.{◌<◌, ◌∙◌, length, codes, rules, take_all, IsTrue, option_map}
use Rattle.sfv_spec.specs.{Canonical.dictionary_member_text, Classes.is_key, Values.IsMember}
use Rattle.sfv_values.specs.CheckedTexts.{text_of as key_text}
use Rattle.sfv_writer.proofs.Separated.{anyway}
use Rattle.sfv_serializer.specs.ScriptSteps.{written_member, member_calls, added_text_of_pair}
use Rattle.sfv_serializer.proofs.{Room.calls_lack, Scripts.{calls_more, no_less}, Steps.grown_again}
use Rattle.sfv_serializer.proofs.script.write_dictionary_members.Goals as goal

pub loop-name-preserved : goal.loop-name-preserved
loop-name-preserved g c =
    let w = c.in_ok-write_dictionary_member.ensures in
    let calls = c.args.calls.now in
    let within : c.loop-name.name-index < length calls = search rules in (
      g.met.W.Sink.same_again _ _ _ c.loop-name.invariant.0 w.text.0,
      calls_more (λ c. option_map (λ m. (c.0, m)) (written_member c.1)) (λ m. (key_text m.0, member_calls m.1))
          dictionary_member_text (λ m. IsTrue (is_key m.0) × IsMember m.1) (codes ", ") calls c.loop-name.name-index
          c.loop-name-item.result _ _ _ _ _ _ within c.loop-name-item.is c.loop-name.invariant.1 w.text.2 w.text.1 w.value,
      w.text.3 ∙ c.loop-name.invariant.2,
      w.text.4 ∙ c.loop-name.invariant.3,
      no_less c.loop-name.invariant.4 w.text.5,
    )

pub returns-in_err-write_dictionary_member-clause-out_of_memory :
    goal.returns-in_err-write_dictionary_member-clause-out_of_memory
returns-in_err-write_dictionary_member-clause-out_of_memory g c =
    let row = c.loop-name.invariant in
    anyway _ _ (grown_again g.W.Sink g.met.W.Sink.same_again c.args.dictionary.now c.loop-name.dictionary
    c.write_dictionary_member.new.dictionary (row.0, (_, row.1.text), row.3, row.4)
    c.in_err-write_dictionary_member.ensures.out_of_memory)

pub returns-clause-text : goal.returns-clause-text
returns-clause-text g c =
    let row = c.loop-name.invariant in
    let all = rw (take_all c.loop-name.name-index c.args.calls.now c.loop-name-test.false) at row.1 in
    (row.0, all.text, all.first, row.2, row.3, row.4)

pub returns-clause-value : goal.returns-clause-value
returns-clause-value g c =
    let row = c.loop-name.invariant.1 in
    let all = rw (take_all c.loop-name.name-index c.args.calls.now c.loop-name-test.false) at row in
    all.good

pub returns-in_err-write_dictionary_member-clause-room : goal.returns-in_err-write_dictionary_member-clause-room
returns-in_err-write_dictionary_member-clause-room g c =
    let row = c.loop-name.invariant in
    let within : c.loop-name.name-index < length c.args.calls.now = search rules in
    anyway _ _ (calls_lack (λ c. option_map (λ m. (c.0, m)) (written_member c.1)) added_text_of_pair
    (λ m. (key_text m.0, member_calls m.1)) dictionary_member_text (λ m. IsTrue (is_key m.0) × IsMember m.1) (codes ", ")
    c.args.calls.now c.loop-name.name-index c.loop-name-item.result _ _ (g.W.Sink.text c.args.dictionary.now.sink)
    (g.W.Sink.text c.loop-name.dictionary.sink) within c.loop-name-item.is row.1 row.4
    c.in_err-write_dictionary_member.ensures.room)
