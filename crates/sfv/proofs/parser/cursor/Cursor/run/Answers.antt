use Rattle.sfv_model.proofs.texts.Ranges.{range_at}
use Rattle.sfv.proofs.reads.Runs.{stops_at}
use Rattle.sfv.proofs.parser.cursor.Cursor.run.Goals as goal

pub returns-clause-taken : goal.returns-clause-taken
returns-clause-taken g c = range_at _ _ _ c.run_end_from-self.ensures.from

pub returns-clause-ends : goal.returns-clause-ends
returns-clause-ends g c = stops_at _ _ _ c.run_end_from-self.ensures.ends
