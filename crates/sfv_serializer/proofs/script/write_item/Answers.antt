use Rattle.std.proofs.Common.{[], ◌∷◌, ◌<◌, length, arith}
use Rattle.sfv_spec.specs.Canonical.{bare_text}
use Rattle.sfv_values.specs.{BareItems.ref_value, CheckedTexts.text_of as key_text}
use Rattle.sfv_writer.specs.Written.{param_text}
use Rattle.sfv_serializer.proofs.{Room.{params_lack, memory_lacks}, Scripts.{of_error, no_less}}
use Rattle.sfv_serializer.proofs.script.write_item.Goals as goal

pub returns-in-Err-parameter-clause-room : goal.returns-in-Err-parameter-clause-room
returns-in-Err-parameter-clause-room c =
    let e = c.in-Err-parameter.ensures in
    let row = c.loop-call.invariant in
    let params = c.args.calls.now.params.items in
    let within : c.loop-call.call-index < length params = rw c.deref-call-items.ensures.value at c.loop-call-test.true in
    let is = rw c.deref-call-items.ensures.value at c.call-item.is in
    let last = c.loop-call.params.sink.now in
    let one = param_text (key_text c.call-item.result.key) (ref_value c.call-item.result.value) in
    let kept = of_error _ _ _ c.in-Err-parameter.is c.parameter.follows.holds-at-none in
    let stays = no_less row.2 kept.0.1 in (
      grind (arith, stays),
      params_lack params c.loop-call.call-index c.call-item.result within is c.args.text.now last []
          (bare_text (ref_value c.args.calls.now.value)) row.1 row.2 (memory_lacks _ (ref_value c.call-item.result.value ∷ []) last one _ row.4 e.unsupported e.room),
    )
