use Rattle.sfv_http_fields.{specs.Priority.value_of, proofs.PriorityTexts.reads_back}
use Rattle.sfv_http_fields.proofs.priority.write_priority.Goals as goal

pub returns-clause-read_back : goal.returns-clause-read_back
returns-clause-read_back c = λ version. reads_back version (value_of c.args.priority) c.args.priority.valid
