use Rattle.std.proofs.Common.{◌≡◌, take, map, false}
use Rattle.sfv_spec.specs.Canonical.{parameters_text}
use Rattle.sfv_spec.specs.{Values.AreParameters, declared.version.Version.TheVariants.Rfc9651}
use Rattle.sfv_serializer.specs.{Scripts.param_of_call, Serializers.{HasAppended, params_sink, params_version}}
use Rattle.sfv_serializer.proofs.script.write_inner.Given as goal

abbrev pub invariant-loop-call : goal.invariant-loop-call
invariant-loop-call g l = ((params_sink l.ending).ghost_name ≡ (params_sink l.initial.ending).ghost_name)
    × HasAppended g.W.Sink (params_sink l.initial.ending).now (params_sink l.ending).now
    (parameters_text (map param_of_call (take l.call-index l.params))) false
    × AreParameters (map param_of_call (take l.call-index l.params)) × (params_version l.ending ≡ Rfc9651)
