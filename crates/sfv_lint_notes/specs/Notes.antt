-- The text of a note.
use Rattle.std.specs.Prelude.{ℕ, List, codes}
use Rattle.sfv_lint_notes.specs.declared.notes.Note.{Note}
use Rattle.sfv_lint_notes.specs.declared.notes.Note.TheVariants as notes
use Rattle.sfv_lint_notes.specs.Rules.{rule_text}

-- what a note says
abbrev pub note_text : Note → List ℕ
note_text notes.RepeatedKey = codes "a key occurs twice, and its last value counts"
note_text notes.Changes = codes "the value changes when it is written"
note_text (notes.WrongType rule) = rule_text rule
note_text notes.Urgency = codes "u is not an integer from 0 to 7, so it is ignored (RFC 9218, section 4)"
note_text notes.Sha256Length = codes "a digest of sha-256 has 32 bytes (RFC 9530)"
note_text notes.Sha512Length = codes "a digest of sha-512 has 64 bytes (RFC 9530)"
