use Rattle.std.proofs.Common.{rules, ◌∷◌, [], subst}
use Rattle.sfv.specs.{BareItems.ref_value, Serializers.sequence_version, Types.Version, Versions.IsSerializeError}
use Rattle.sfv_examples.proofs.Pairs.{first_unwritten, second_unwritten}
use Rattle.sfv_examples.proofs.versions.write_both.Goals as goal

pub returns-in_err-list-clause-failed : goal.returns-in_err-list-clause-failed
returns-in_err-list-clause-failed g c =
    first_unwritten (sequence_version c.args.list.now) (ref_value c.args.first) (ref_value c.args.second)
    c.in_err-list.field-0.0 c.from_residual.result c.from_residual.ensures.1 c.in_err-list.ensures.unsupported

pub returns-in_err-list-2-clause-failed : goal.returns-in_err-list-2-clause-failed
returns-in_err-list-2-clause-failed g c =
    let version : Version = sequence_version c.args.list.now in
    let e = c.in_err-list-2.field-0.0 in
    let looks : IsSerializeError version (ref_value c.args.second ∷ []) e =
    subst (λ now. IsSerializeError now (ref_value c.args.second ∷ []) e) (search rules) c.in_err-list-2.ensures.unsupported in
    second_unwritten version (ref_value c.args.first) (ref_value c.args.second) e
    c.from_residual-in_err-list-2.result c.from_residual-in_err-list-2.ensures.1 c.in_ok-list.ensures.unsupported looks
