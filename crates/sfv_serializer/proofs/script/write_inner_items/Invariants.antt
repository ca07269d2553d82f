use Rattle.std.proofs.Common.{◌≡◌, ◌≤◌, take, map, codes, string_bytes, string_capacity}
use Rattle.sfv_spec.specs.{Canonical.item_text, Values.IsItem}
use Rattle.sfv_writer.proofs.Separated.{IsLed}
use Rattle.sfv_serializer.specs.{Scripts.item_of_calls, Serializers.{IsSameSequence, is_empty_so_far}}
use Rattle.sfv_serializer.proofs.script.write_inner_items.Given as goal

abbrev pub invariant-loop-calls : goal.invariant-loop-calls
invariant-loop-calls g l = IsSameSequence g.W.Sink l.fn.inner.sink l.inner.sink × IsLed item_text IsItem
    (codes " ") (map item_of_calls (take l.calls-index l.items)) (is_empty_so_far l.fn.inner) (is_empty_so_far l.inner)
    (string_bytes (g.W.Sink.text l.fn.inner.sink.now.sink)) (string_bytes (g.W.Sink.text l.inner.sink.now.sink))
    × (l.inner.version ≡ l.fn.inner.version) × (l.inner.kind ≡ l.fn.inner.kind)
    × (string_capacity (g.W.Sink.text l.fn.inner.sink.now.sink) ≤ string_capacity (g.W.Sink.text l.inner.sink.now.sink))
