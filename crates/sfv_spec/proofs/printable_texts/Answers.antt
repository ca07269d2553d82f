use Rattle.sfv_spec.proofs.Printable.{printable_texts_lem}
use Rattle.sfv_spec.proofs.printable_texts.Goals as goal

pub returns : goal.returns
returns c = printable_texts_lem
