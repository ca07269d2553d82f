use Rattle.sfv_signatures.proofs.Unambiguous.{one_message_lem}
use Rattle.sfv_signatures.proofs.laws.one_message.Goals as goal

pub returns : goal.returns
returns g c = λ a b. one_message_lem (g.A.Components.gives a) (g.B.Components.gives b)
