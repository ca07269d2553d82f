use Rattle.std.proofs.Common.{◌<◌, length, arith, refl, sym, ◌∙◌, rules, append-nil}
use Rattle.sfv_writer.proofs.Separated.{anyway}
use Rattle.sfv_serializer.proofs.{Room.next_item_lacks, Scripts.{item_more, no_less}}
use Rattle.sfv_serializer.proofs.script.write_inner_items.Goals as goal

pub loop-calls-init : goal.loop-calls-init
loop-calls-init g c = (
  (refl, g.met.W.Sink.same_itself c.args.inner.now.sink.now.sink, refl, refl, refl),
  record { first = refl; text = sym (append-nil _); good = tt },
  refl,
  refl,
  omega arith,
)

pub loop-calls-preserved : goal.loop-calls-preserved
loop-calls-preserved g c =
    let w = c.in_ok-write_keyless_item.ensures in
    let row = c.loop-calls.invariant in
    let items = c.args.items.now in
    let within : c.loop-calls.calls-index < length items = search rules in (
      (
        w.text.0.0 ∙ row.0.0,
        g.met.W.Sink.same_again _ _ _ row.0.1 w.text.0.1,
        w.text.0.2 ∙ row.0.2,
        w.text.0.3 ∙ row.0.3,
        w.text.0.4 ∙ row.0.4,
      ),
      item_more _ _ _ _ _ _ _ _ _ within c.calls-item.is row.1 w.text.2 w.text.1 w.value,
      w.text.3 ∙ row.2,
      w.text.4 ∙ row.3,
      no_less row.4 w.text.5,
    )

pub returns-in_err-write_keyless_item-clause-room : goal.returns-in_err-write_keyless_item-clause-room
returns-in_err-write_keyless_item-clause-room g c =
    let row = c.loop-calls.invariant in
    let within : c.loop-calls.calls-index < length c.args.items.now = search rules in
    anyway _ _ (next_item_lacks c.args.items.now c.loop-calls.calls-index c.calls-item.result _ _
    (g.W.Sink.text c.args.inner.now.sink.now.sink) (g.W.Sink.text c.loop-calls.inner.sink.now.sink) within c.calls-item.is
    row.1 row.4 c.in_err-write_keyless_item.ensures.room)
