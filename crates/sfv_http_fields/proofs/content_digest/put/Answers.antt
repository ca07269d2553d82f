use Rattle.std.proofs.Common.{refl}
use Rattle.sfv.proofs.Callers.{dictionary_tree-insert}
use Rattle.sfv_http_fields.proofs.content_digest.put.Goals as goal

pub returns-in_ok-insert_entry-clause-members : goal.returns-in_ok-insert_entry-clause-members
returns-in_ok-insert_entry-clause-members c = rw (
  c.in_ok-insert_entry.ensures.entries,
  dictionary_tree-insert,
  c.in_ok-member.ensures.member,
  c.as_slice.ensures.value,
  c.in_ok-key.ensures.text,
  c.in-Some.is,
) refl
