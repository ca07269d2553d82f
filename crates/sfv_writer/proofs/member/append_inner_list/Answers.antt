use Rattle.sfv_writer.proofs.ReadBack.{member_read_back}
use Rattle.sfv_writer.proofs.member.append_inner_list.Goals as goal

pub returns-clause-read_back : goal.returns-clause-read_back
returns-clause-read_back c = member_read_back _ _ c.in_ok-append.ensures.valid c.in_ok-check_inner_list.ensures
