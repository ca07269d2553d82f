use Rattle.std.proofs.Common.{refl}
use Rattle.sfv.{specs.parser.Cursor.kept, proofs.reads.Errors.FaultOf-here, proofs.trees.Parts.bare_none}
use Rattle.sfv.proofs.parser.cursor.Cursor.expect_bare_item_start.Goals as goal

pub returns : goal.returns
returns c = rw c.error.ensures (FaultOf-here _ c.args.self.now (kept c.args.self.now) _ refl (bare_none _ _ (record {
  no_number = c.if-next_is_number_start.ensures;
  no_string = c.if-next_is.ensures;
  no_boolean = c.if-next_is-2.ensures;
  no_bytes = c.if-next_is-3.ensures;
  no_date = c.if-next_is-4.ensures;
  no_quoted = c.if-next_is-5.ensures;
}) c.if-next_is_token_start.ensures))
