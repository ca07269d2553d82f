use Rattle.sfv.proofs.reads.Steps.{bare_token}
use Rattle.sfv.proofs.parser.cursor.Cursor.bare_item.Goals as goal

pub token_item-requires : goal.token_item-requires
token_item-requires c = bare_token _ _ (record {
  no_number = c.if-next_is_number_start.ensures;
  no_string = c.if-next_is.ensures;
  no_boolean = c.if-next_is-2.ensures;
  no_bytes = c.if-next_is-3.ensures;
  no_date = c.if-next_is-4.ensures;
  no_quoted = c.if-next_is-5.ensures;
})
