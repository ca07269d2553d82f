use Rattle.sfv_model.proofs.Lines.{joined_lines_lem}
use Rattle.sfv_model.proofs.joined_lines.Goals as goal

pub returns : goal.returns
returns c = joined_lines_lem
