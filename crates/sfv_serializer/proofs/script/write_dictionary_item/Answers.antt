use Rattle.std.proofs.Common.{[], ◌∷◌, ◌<◌, ◌≤◌, length, refl, ◌∙◌, codes, rules, append-nil, take_all}
use Rattle.sfv_values.specs.{BareItems.ref_value, CheckedTexts.text_of as key_text}
use Rattle.sfv_writer.specs.Written.{separator_before, keyed_text, param_text}
use Rattle.sfv_serializer.specs.Serializers.{is_empty_so_far}
use Rattle.sfv_serializer.proofs.{Room.{params_lack, memory_lacks}, Scripts.{kept_grown, of_error}}
use Rattle.sfv_serializer.proofs.Steps.{put_before, params_text_more, are_params_more, grows, kept_grows, more_at}
use Rattle.sfv_serializer.proofs.Steps.{more_after}
use Rattle.sfv_serializer.proofs.script.write_dictionary_item.Goals as goal

pub returns-in-Err-clause-out_of_memory : goal.returns-in-Err-clause-out_of_memory
returns-in-Err-clause-out_of_memory g c = kept_grows g.W.Sink c.args.dictionary.now c.bare_item.follows.lender-at-none
    (of_error _ _ _ c.in-Err.is c.bare_item.follows.holds-at-none).0

pub loop-call-init : goal.loop-call-init
loop-call-init g c =
    let w = c.in-Ok.ensures in
    let all = append-nil (keyed_text (key_text c.args.name) (ref_value c.args.calls.now.value)) in
    (refl, rw all w.text, (w.is_value, tt), w.version ∙ c.requires)

pub loop-call-preserved : goal.loop-call-preserved
loop-call-preserved g c =
    let more = c.in-Ok-parameter.ensures in
    let row = c.loop-call.invariant in
    let n = c.loop-call.call-index in
    let params = c.args.calls.now.params.items in
    let within : n < length params = rw c.deref-call-items.ensures.value at c.loop-call-test.true in
    let is = rw c.deref-call-items.ensures.value at c.call-item.is in
    let after = put_before (separator_before (is_empty_so_far c.args.dictionary.now) (codes ", ")) _ _ _
    (params_text_more params n c.call-item.result within is
    (keyed_text (key_text c.args.name) (ref_value c.args.calls.now.value))) in (
      more.lent ∙ row.0,
      more_after g.W.Sink g.met.W.Sink.same_again c.args.dictionary.now c.loop-call.params.sink.now _ _ _ _ _ row.1
          more.text after,
      (row.2.0, are_params_more params n c.call-item.result within is row.2.1 more.is_key more.is_value),
      more.version ∙ row.3,
    )

pub returns-in-Err-parameter-clause-out_of_memory : goal.returns-in-Err-parameter-clause-out_of_memory
returns-in-Err-parameter-clause-out_of_memory g c =
    let s = g.W.Sink in
    let last = c.loop-call.params.sink.now in
    let so_far = grows s c.args.dictionary.now last _ _ c.loop-call.invariant.1 in
    let kept = (of_error _ _ _ c.in-Err-parameter.is c.parameter.follows.holds-at-none).0 in
    kept_grown s g.met.W.Sink.same_again c.args.dictionary.now last c.parameter.follows.lender-at-none _ _ so_far kept
    (search rules) (search rules)

pub returns-clause-text : goal.returns-clause-text
returns-clause-text g c =
    let params = c.args.calls.now.params.items in
    let all : length params ≤ c.loop-call.call-index = rw c.deref-call-items.ensures.value at c.loop-call-test.false in
    let whole = rw (take_all c.loop-call.call-index params all) at c.loop-call.invariant.1 in
    more_at g.W.Sink c.args.dictionary.now c.loop-call.params.sink.now _ _ _ (search rules) whole

pub returns-clause-value : goal.returns-clause-value
returns-clause-value g c =
    let params = c.args.calls.now.params.items in
    let all : length params ≤ c.loop-call.call-index = rw c.deref-call-items.ensures.value at c.loop-call-test.false in
    rw (take_all c.loop-call.call-index params all) at c.loop-call.invariant.2

pub returns-in-Err-parameter-clause-room : goal.returns-in-Err-parameter-clause-room
returns-in-Err-parameter-clause-room g c =
    let e = c.in-Err-parameter.ensures in
    let row = c.loop-call.invariant in
    let n = c.loop-call.call-index in
    let params = c.args.calls.now.params.items in
    let within : n < length params = rw c.deref-call-items.ensures.value at c.loop-call-test.true in
    let is = rw c.deref-call-items.ensures.value at c.call-item.is in
    let last = g.W.Sink.text c.loop-call.params.sink.now.sink in
    let one = param_text (key_text c.call-item.result.key) (ref_value c.call-item.result.value) in
    params_lack params n c.call-item.result within is (g.W.Sink.text c.args.dictionary.now.sink) last
    (separator_before (is_empty_so_far c.args.dictionary.now) (codes ", "))
    (keyed_text (key_text c.args.name) (ref_value c.args.calls.now.value))
    row.1.1 row.1.5 (memory_lacks _ (ref_value c.call-item.result.value ∷ []) last one _ row.3 e.unsupported e.room)
