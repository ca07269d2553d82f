use Rattle.sfv_examples.proofs.Ambiguous.{ambiguous}
use Rattle.sfv_examples.proofs.signed.line_feeds_are_checked.Goals as goal

pub returns : goal.returns
returns c = record { needed = ambiguous }
