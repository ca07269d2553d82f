use Rattle.sfv_writer.proofs.{Checks.at_exit, ReadBack.read_back}
use Rattle.sfv_serializer.proofs.{Described.list_fits, Handed.named_list}
use Rattle.sfv_serializer.proofs.script.run_list_for.Goals as goal

pub returns-clause-read_back : goal.returns-clause-read_back
returns-clause-read_back c =
    let version = c.args.version in
    let calls = c.args.calls.now in
    read_back _ _ _ c.in_ok-has_member.ensures.value (list_fits version calls c.in_ok-check_list_calls.ensures)

pub returns-in_err-check_list_calls-clause-some : goal.returns-in_err-check_list_calls-clause-some
returns-in_err-check_list_calls-clause-some c = at_exit c.from_residual.result _ _ _ c.from_residual.ensures.1
    (named_list c.args.version c.args.calls.now _ c.in_err-check_list_calls.ensures)
