use Rattle.sfv.proofs.trees.Needs.{token_next}
use Rattle.sfv.proofs.parser.cursor.Cursor.token_item.Goals as goal

pub returns-clause-memory : goal.returns-clause-memory
returns-clause-memory c = λ borrowed. token_next c.args.self.now _ c.in_ok-token.ensures.0
