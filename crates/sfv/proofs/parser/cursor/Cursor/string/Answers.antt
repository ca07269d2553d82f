use Rattle.sfv_model.proofs.quoted.StringSteps.{read_utf8, read_bytes}
use Rattle.sfv.proofs.parser.cursor.Cursor.string.Goals as goal

pub from_utf8_unchecked-text-requires : goal.from_utf8_unchecked-text-requires
from_utf8_unchecked-text-requires c = let read = rw c.in-Plain.is at c.in_ok-bytes.ensures.read in
    read_utf8 _ _ _ read.0

pub constant-requires : goal.constant-requires
constant-requires c = let read = rw c.in-Plain.is at c.in_ok-bytes.ensures.read in
    rw c.from_utf8_unchecked-text.ensures (read_bytes _ _ _ read.0)

pub from_utf8_unchecked-text-requires-in-Unescaped : goal.from_utf8_unchecked-text-requires-in-Unescaped
from_utf8_unchecked-text-requires-in-Unescaped c = let read = rw c.in-Unescaped.is at c.in_ok-bytes.ensures.read in
    read_utf8 _ _ _ read.0

pub constant-requires-in-Unescaped : goal.constant-requires-in-Unescaped
constant-requires-in-Unescaped c = let read = rw c.in-Unescaped.is at c.in_ok-bytes.ensures.read in
    rw c.from_utf8_unchecked-text-in-Unescaped.ensures.value (read_bytes _ _ _ read.0)
