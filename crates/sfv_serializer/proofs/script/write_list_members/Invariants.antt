use Rattle.std.proofs.Common.{◌≡◌, ◌≤◌, take, codes, string_bytes, string_capacity}
use Rattle.sfv_spec.specs.Canonical.{member_text}
use Rattle.sfv_spec.specs.{Values.IsMember, declared.field_kind.FieldKind.TheVariants.List as list_field}
use Rattle.sfv_writer.proofs.Separated.{IsLed}
use Rattle.sfv_serializer.specs.{ScriptSteps.{described, list_calls}, Serializers.is_empty_so_far}
use Rattle.sfv_serializer.proofs.script.write_list_members.Given as goal

abbrev pub invariant-loop-member : goal.invariant-loop-member
invariant-loop-member g l = g.W.Sink.same l.fn.list.sink l.list.sink × IsLed member_text IsMember
    (codes ", ") (described list_field (list_calls (take l.member-index l.calls))) (is_empty_so_far l.fn.list)
    (is_empty_so_far l.list) (string_bytes (g.W.Sink.text l.fn.list.sink)) (string_bytes (g.W.Sink.text l.list.sink))
    × (l.list.version ≡ l.fn.list.version) × (l.list.kind ≡ l.fn.list.kind)
    × (string_capacity (g.W.Sink.text l.fn.list.sink) ≤ string_capacity (g.W.Sink.text l.list.sink))
