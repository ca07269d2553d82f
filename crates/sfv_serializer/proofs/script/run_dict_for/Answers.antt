use Rattle.sfv_spec.specs.declared.field_kind.FieldKind.TheVariants.{Dictionary as dictionary_field}
use Rattle.sfv_writer.proofs.{Checks.at_exit, ReadBack.read_back}
use Rattle.sfv_serializer.specs.Scripts.{described_dictionary}
use Rattle.sfv_serializer.proofs.{Described.dictionary_fits, Handed.named_dictionary}
use Rattle.sfv_serializer.proofs.script.run_dict_for.Goals as goal

pub returns-clause-read_back : goal.returns-clause-read_back
returns-clause-read_back c =
    let version = c.args.version in
    let calls = c.args.calls.now in
    read_back version dictionary_field (described_dictionary calls) c.in_ok-has_member.ensures.value
    (dictionary_fits version calls c.in_ok-check_dictionary_calls.ensures)

pub returns-in_err-check_dictionary_calls-clause-some : goal.returns-in_err-check_dictionary_calls-clause-some
returns-in_err-check_dictionary_calls-clause-some c = at_exit c.from_residual.result _ _ _ c.from_residual.ensures.1
    (named_dictionary c.args.version c.args.calls.now _ c.in_err-check_dictionary_calls.ensures)
