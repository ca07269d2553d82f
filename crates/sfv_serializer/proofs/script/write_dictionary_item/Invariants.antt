use Rattle.std.proofs.Common.{◌≡◌, ◌++◌, false, codes}
use Rattle.sfv_spec.specs.Canonical.{dictionary_member_text}
use Rattle.sfv_spec.specs.{Values.{item, IsItem}, declared.version.Version.TheVariants.Rfc9651}
use Rattle.sfv_values.specs.CheckedTexts.{text_of as key_text}
use Rattle.sfv_writer.specs.Written.{separator_before}
use Rattle.sfv_serializer.specs.Serializers.{params_sink, params_version, HasAppended, is_empty_so_far}
use Rattle.sfv_serializer.proofs.Scripts.{item_so_far}
use Rattle.sfv_serializer.proofs.script.write_dictionary_item.Given as goal

abbrev pub invariant-loop-call : goal.invariant-loop-call
invariant-loop-call g l = ((params_sink l.params).ghost_name ≡ (params_sink l.initial.params).ghost_name)
    × HasAppended g.W.Sink l.fn.dictionary
    (params_sink l.params).now (separator_before (is_empty_so_far l.fn.dictionary) (codes ", ")
    ++ dictionary_member_text (key_text l.name, item (item_so_far l.calls l.call-index))) false
    × IsItem (item_so_far l.calls l.call-index) × (params_version l.params ≡ Rfc9651)
