use Rattle.sfv_lint_head.proofs.Steps.{no_overflow}
use Rattle.sfv_lint_head.proofs.head.parse_section.Goals as goal

pub returns-in-Err-clause-none : goal.returns-in-Err-clause-none
returns-in-Err-clause-none c = no_overflow c.args.section.now (rw (← c.requires) c.in-Err.ensures.no_room)
