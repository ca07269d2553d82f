use Rattle.sfv_values.proofs.Ascii.{key_utf8}
use Rattle.sfv.proofs.reads.Steps.{key_some, key_class}
use Rattle.sfv.proofs.parser.cursor.Cursor.key.Goals as goal

pub from_utf8_unchecked-text-requires : goal.from_utf8_unchecked-text-requires
from_utf8_unchecked-text-requires c =
    let n = c.if-not-next_is_key_start.ensures in let r = c.byte_and_run-bytes.ensures in
    key_utf8 _ (key_class _ _ _ (record { head = n; each = r.each; taken = r.taken; ends = r.ends }))

pub constant-requires : goal.constant-requires
constant-requires c =
    let n = c.if-not-next_is_key_start.ensures in let r = c.byte_and_run-bytes.ensures in
    rw c.from_utf8_unchecked-text.ensures
    (key_class _ _ _ (record { head = n; each = r.each; taken = r.taken; ends = r.ends }))

pub returns-clause-read : goal.returns-clause-read
returns-clause-read c =
    let n = c.if-not-next_is_key_start.ensures in let r = c.byte_and_run-bytes.ensures in (
      rw (c.constant.ensures, c.from_utf8_unchecked-text.ensures)
          (key_some _ _ _ (record { head = n; each = r.each; taken = r.taken; ends = r.ends })),
      r.kept,
    )
