use Rattle.sfv_values.proofs.Ascii.{token_utf8}
use Rattle.sfv.proofs.reads.Steps.{token_some, token_class}
use Rattle.sfv.proofs.parser.cursor.Cursor.token.Goals as goal

pub from_utf8_unchecked-text-requires : goal.from_utf8_unchecked-text-requires
from_utf8_unchecked-text-requires c =
    let n = c.if-not-next_is_token_start.ensures in let r = c.byte_and_run-bytes.ensures in
    token_utf8 _ (token_class _ _ _ (record { head = n; each = r.each; taken = r.taken; ends = r.ends }))

pub constant-requires : goal.constant-requires
constant-requires c =
    let n = c.if-not-next_is_token_start.ensures in let r = c.byte_and_run-bytes.ensures in
    rw c.from_utf8_unchecked-text.ensures
    (token_class _ _ _ (record { head = n; each = r.each; taken = r.taken; ends = r.ends }))

pub returns : goal.returns
returns c =
    let n = c.if-not-next_is_token_start.ensures in let r = c.byte_and_run-bytes.ensures in (
      rw (c.constant.ensures, c.from_utf8_unchecked-text.ensures)
          (token_some _ _ _ (record { head = n; each = r.each; taken = r.taken; ends = r.ends })),
      r.kept,
    )
