use Rattle.std.proofs.Common.{[], ◌∷◌, codes, map, ◌∙◌, subst, rules, take_all}
use Rattle.sfv_values.specs.{BareItems.ref_value, CheckedTexts.text_of as key_text}
use Rattle.sfv_writer.{specs.Written.{separator_before, param_text}, proofs.Separated.anyway}
use Rattle.sfv_serializer.specs.{Scripts.{param_of_call, item_of_calls}, Serializers.{is_empty_so_far, KeepsSequence}}
use Rattle.sfv_serializer.proofs.Room.{unseparated, opening_lacks, either_lacks, ending_lacks, params_after_lack}
use Rattle.sfv_serializer.proofs.Room.{params_lack, memory_lacks}
use Rattle.sfv_serializer.proofs.Scripts.{begun_grown, more_grown, kept_grown, taken_away, away_grown, of_error}
use Rattle.sfv_serializer.proofs.Scripts.{inner_ended}
use Rattle.sfv_serializer.proofs.Steps.{params_text_more, are_params_more, kept_grows, more_at, more_after}
use Rattle.sfv_serializer.proofs.script.write_inner.Goals as goal

pub returns-in-Err-clause-out_of_memory : goal.returns-in-Err-clause-out_of_memory
returns-in-Err-clause-out_of_memory g c =
    let begun = c.in_ok-inner.ensures in
    away_grown g.W.Sink g.met.W.Sink.same_again c.args.sequence.now c.abandon.new.self.0 c.in_ok-inner.inner
    c.write_inner_items.new.inner _ _ _ g.met.W.Sink.same_itself begun.text begun.begins.1
    c.write_inner_items.ensures.grows c.abandon.ensures.text (search rules) (search rules)

pub returns-then-abandon-clause-text : goal.returns-then-abandon-clause-text
returns-then-abandon-clause-text g c =
    let s = g.W.Sink in
    let begun = c.in_ok-inner.ensures in
    let kept = taken_away s g.met.W.Sink.same_again c.args.sequence.now c.abandon-then-abandon.new.self.0
    c.in_ok-inner.inner c.write_inner_items.new.inner _ begun.text begun.begins.1
    c.write_inner_items.ensures.grows c.abandon-then-abandon.ensures.text in
    rw c.if-abandon.true (subst (KeepsSequence s c.args.sequence.now) (search rules) kept)

pub returns-in_err-ending-clause-out_of_memory : goal.returns-in_err-ending-clause-out_of_memory
returns-in_err-ending-clause-out_of_memory g c =
    let begun = c.in_ok-inner.ensures in
    let rests = of_error _ _ _ c.in_err-ending.was c.finish.follows.holds-at-none in
    anyway _ _ (away_grown g.W.Sink g.met.W.Sink.same_again c.args.sequence.now c.finish.follows.lender-at-none
    c.in_ok-inner.inner c.write_inner_items.new.inner _ _ _ g.met.W.Sink.same_itself begun.text begun.begins.1
    c.write_inner_items.ensures.grows rests (search rules) (search rules))

pub returns-in-Err-parameter-clause-out_of_memory : goal.returns-in-Err-parameter-clause-out_of_memory
returns-in-Err-parameter-clause-out_of_memory g c =
    let s = g.W.Sink in
    let again = g.met.W.Sink.same_again in
    let sequence = c.args.sequence.now in
    let grown = begun_grown s again sequence c.in_ok-inner.inner c.write_inner_items.new.inner _ _
    c.in_ok-inner.ensures.text c.write_inner_items.ensures.grows in
    let ended = more_grown s again sequence c.write_inner_items.new.inner.sink.now
    c.in_ok-ending.ending.sink.now _ _ grown c.in_ok-ending.ensures.text in
    let so_far = more_grown s again sequence c.in_ok-ending.ending.sink.now c.loop-call.ending.sink.now _ _
    ended c.loop-call.invariant.1 in
    let kept = (of_error _ _ _ c.in-Err-parameter.is c.parameter.follows.holds-at-none).0 in
    kept_grown s again sequence c.loop-call.ending.sink.now c.parameter.follows.lender-at-none _ _ so_far kept
    (search rules) (search rules)

pub returns-clause-text : goal.returns-clause-text
returns-clause-text g c =
    let s = g.W.Sink in
    let sequence = c.args.sequence.now in
    let params = c.args.params.now in
    let begun = c.in_ok-inner.ensures in
    let ending = c.in_ok-ending.ending.sink.now in
    let last = c.loop-call.ending.sink.now in
    let after = rw (take_all c.loop-call.call-index params c.loop-call-test.false) at c.loop-call.invariant.1 in
    let whole = inner_ended s g.met.W.Sink.same_again sequence ending last c.in_ok-inner.inner
    c.write_inner_items.new.inner (separator_before (is_empty_so_far sequence) g.K.SequenceKind.separator) (g.P.Fragment.text c.args.opening)
    (map item_of_calls c.args.items.now) (map param_of_call params) _ _ begun.text begun.begins.0 c.in_default.ensures.text
    c.in_ok-ending.ensures.text after in
    rw c.if-abandon.false (more_at s sequence last _ _ _ (search rules) whole)

pub loop-call-preserved : goal.loop-call-preserved
loop-call-preserved g c =
    let more = c.in-Ok.ensures in
    let row = c.loop-call.invariant in
    let n = c.loop-call.call-index in
    let params = c.args.params.now in
    let within = c.loop-call-test.true in
    let after = params_text_more params n c.call-item.result within c.call-item.is [] in (
      more.lent ∙ row.0,
      more_after g.W.Sink g.met.W.Sink.same_again c.in_ok-ending.ending.sink.now c.loop-call.ending.sink.now _ _ _ _ _
          row.1 more.text after,
      are_params_more params n c.call-item.result within c.call-item.is row.2 more.is_key more.is_value,
      more.version ∙ row.3,
    )

pub returns-in_err-inner-clause-out_of_memory : goal.returns-in_err-inner-clause-out_of_memory
returns-in_err-inner-clause-out_of_memory g c =
    anyway _ _ (kept_grows g.W.Sink c.args.sequence.now c.begin.follows.lender-at-none
    (of_error _ _ _ c.in_err-inner.was c.begin.follows.holds-at-none))

pub returns-then-abandon-clause-value : goal.returns-then-abandon-clause-value
returns-then-abandon-clause-value g c = rw c.if-abandon.true tt

pub returns-clause-value : goal.returns-clause-value
returns-clause-value g c =
    let params = c.args.params.now in
    let all = rw (take_all c.loop-call.call-index params c.loop-call-test.false) at c.loop-call.invariant.2 in
    rw c.if-abandon.false (c.in_ok-inner.ensures.valid, c.in_default.ensures.value, all)

pub returns-in_err-inner-clause-room : goal.returns-in_err-inner-clause-room
returns-in_err-inner-clause-room g c =
    let old = g.W.Sink.text c.args.sequence.now.sink in
    let front = separator_before (is_empty_so_far c.args.sequence.now) g.K.SequenceKind.separator in
    let opening = g.P.Fragment.text c.args.opening in
    let items = map item_of_calls c.args.items.now in
    let params = map param_of_call c.args.params.now in
    anyway _ _ (opening_lacks old front opening items params c.args.abandon c.in_err-inner.ensures.room)

pub returns-in-Err-clause-room : goal.returns-in-Err-clause-room
returns-in-Err-clause-room g c =
    let old = g.W.Sink.text c.args.sequence.now.sink in
    let front = separator_before (is_empty_so_far c.args.sequence.now) g.K.SequenceKind.separator in
    let opening = g.P.Fragment.text c.args.opening in
    let items = map item_of_calls c.args.items.now in
    let params = map param_of_call c.args.params.now in
    let begun = c.in_ok-inner.ensures in
    either_lacks old front opening items params (g.W.Sink.text c.in_ok-inner.inner.sink.now.sink)
    (is_empty_so_far c.in_ok-inner.inner) begun.text.1 begun.begins.0 begun.text.5 c.args.abandon c.in-Err.ensures.room

pub returns-in_err-ending-clause-room : goal.returns-in_err-ending-clause-room
returns-in_err-ending-clause-room g c =
    let old = g.W.Sink.text c.args.sequence.now.sink in
    let front = separator_before (is_empty_so_far c.args.sequence.now) g.K.SequenceKind.separator in
    let opening = g.P.Fragment.text c.args.opening in
    let items = map item_of_calls c.args.items.now in
    let params = map param_of_call c.args.params.now in
    let begun = c.in_ok-inner.ensures in
    let filled = c.in_default.ensures.text in
    rw c.if-abandon.false (anyway _ _ (ending_lacks old front opening items params
    (g.W.Sink.text c.in_ok-inner.inner.sink.now.sink) (is_empty_so_far c.in_ok-inner.inner) begun.text.1 begun.begins.0
    begun.text.5 (g.W.Sink.text c.write_inner_items.new.inner.sink.now.sink) filled.1 filled.5
    (unseparated (g.W.Sink.text c.write_inner_items.new.inner.sink.now.sink)
    c.write_inner_items.new.inner.sink.now.is_first (codes ")") c.in_err-ending.ensures.room)))

pub returns-in-Err-parameter-clause-room : goal.returns-in-Err-parameter-clause-room
returns-in-Err-parameter-clause-room g c =
    let old = g.W.Sink.text c.args.sequence.now.sink in
    let front = separator_before (is_empty_so_far c.args.sequence.now) g.K.SequenceKind.separator in
    let opening = g.P.Fragment.text c.args.opening in
    let items = map item_of_calls c.args.items.now in
    let begun = c.in_ok-inner.ensures in
    let filled = c.in_default.ensures.text in
    let ends = c.in_ok-ending.ensures.text in
    let row = c.loop-call.invariant in
    let e = c.in-Err-parameter.ensures in
    let ended = g.W.Sink.text c.in_ok-ending.ending.sink.now.sink in
    let last = g.W.Sink.text c.loop-call.ending.sink.now.sink in
    let one = param_text (key_text c.call-item.result.key) (ref_value c.call-item.result.value) in
    let after = params_lack c.args.params.now c.loop-call.call-index c.call-item.result c.loop-call-test.true
    c.call-item.is ended last [] [] row.1.1 row.1.5 (memory_lacks _ (ref_value c.call-item.result.value ∷ []) last one _ row.3 e.unsupported e.room) in
    rw c.if-abandon.false (params_after_lack old front opening items (map param_of_call c.args.params.now)
    (g.W.Sink.text c.in_ok-inner.inner.sink.now.sink) (is_empty_so_far c.in_ok-inner.inner) begun.text.1 begun.begins.0
    begun.text.5 (g.W.Sink.text c.write_inner_items.new.inner.sink.now.sink) filled.1 filled.5 ended ends.1 ends.5
    after)
