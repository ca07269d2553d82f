use Rattle.std.proofs.Common.{◌≡◌, ◌≤◌, take, codes, string_bytes, string_capacity, IsTrue}
use Rattle.sfv_spec.specs.{Canonical.dictionary_member_text, Classes.is_key}
use Rattle.sfv_spec.specs.{Values.IsMember, declared.field_kind.FieldKind.TheVariants.Dictionary as dictionary_field}
use Rattle.sfv_writer.proofs.Separated.{IsLed}
use Rattle.sfv_serializer.specs.{ScriptSteps.{described, dictionary_calls}, Serializers.is_empty_so_far}
use Rattle.sfv_serializer.proofs.script.write_dictionary_members.Given as goal

abbrev pub invariant-loop-name : goal.invariant-loop-name
invariant-loop-name g l = g.W.Sink.same l.fn.dictionary.sink l.dictionary.sink
    × IsLed dictionary_member_text (λ m. IsTrue (is_key m.0) × IsMember m.1) (codes ", ") (described dictionary_field
    (dictionary_calls (take l.name-index l.calls))) (is_empty_so_far l.fn.dictionary) (is_empty_so_far l.dictionary)
    (string_bytes (g.W.Sink.text l.fn.dictionary.sink)) (string_bytes (g.W.Sink.text l.dictionary.sink))
    × (l.dictionary.version ≡ l.fn.dictionary.version) × (l.dictionary.kind ≡ l.fn.dictionary.kind)
    × (string_capacity (g.W.Sink.text l.fn.dictionary.sink) ≤ string_capacity (g.W.Sink.text l.dictionary.sink))
