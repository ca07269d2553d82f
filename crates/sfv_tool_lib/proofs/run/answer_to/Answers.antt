use Rattle.sfv_tool_lib.proofs.run.answer_to.Goals as goal

pub returns-in-Priority-clause-accepted : goal.returns-in-Priority-clause-accepted
returns-in-Priority-clause-accepted c = rw c.in-Priority.is c.answer_priority.ensures.accepted

pub returns-in-Priority-clause-failed : goal.returns-in-Priority-clause-failed
returns-in-Priority-clause-failed c = rw c.in-Priority.is c.answer_priority.ensures.failed
