use Rattle.std.proofs.Common.{◌≡◌, ◌≤◌, ◌++◌, string_bytes, string_capacity}
use Rattle.sfv_spec.specs.{Canonical.item_text, Values.IsItem, declared.version.Version.TheVariants.Rfc9651}
use Rattle.sfv_serializer.{specs.Serializers.{params_sink, params_version}, proofs.Scripts.item_so_far}
use Rattle.sfv_serializer.proofs.script.write_item.Given as goal

abbrev pub invariant-loop-call : goal.invariant-loop-call
invariant-loop-call l = ((params_sink l.params).ghost_name ≡ (params_sink l.initial.params).ghost_name)
    × (string_bytes (params_sink l.params).now ≡ string_bytes l.fn.text ++ item_text (item_so_far l.calls l.call-index))
    × (string_capacity l.fn.text ≤ string_capacity (params_sink l.params).now)
    × IsItem (item_so_far l.calls l.call-index) × (params_version l.params ≡ Rfc9651)
