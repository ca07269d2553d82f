-- Readers of whole fields.
use Rattle.std.specs.Prelude.{ℕ, true, List, [], ◌∷◌, Option, Some, None, Result, Ok, Err}
use Rattle.sfv_spec.proofs.Marks.{comma, is_space, is_space_or_tab}
use Rattle.sfv_spec.specs.Values.{RawField}
use Rattle.sfv_spec.specs.declared.field_kind.FieldKind.{FieldKind}
use Rattle.sfv_spec.specs.declared.field_kind.FieldKind.TheVariants.{Item as item_field, List as list_field}
use Rattle.sfv_spec.specs.declared.field_kind.FieldKind.TheVariants.{Dictionary as dictionary_field}
use Rattle.sfv_spec.specs.declared.version.Version.{Version}
use Rattle.sfv_spec.specs.Events.{TreeEvent, events, entry_events, keyed_events}
use Rattle.sfv_spec.specs.declared.error_kind.ErrorKind.TheVariants.{TrailingCharactersAfterMember, TrailingComma}
use Rattle.sfv_spec.specs.declared.error_kind.ErrorKind.TheVariants.{TrailingCharactersAfterParsedValue}
use Rattle.sfv_model.specs.Reader.{Fault, Answer, Reader, give, fail, ◌>>=◌, branch, ahead, back, one_and_more, span}
use Rattle.sfv_model.specs.Reader.{byte, any}
use Rattle.sfv_model.specs.Items.{item_at}
use Rattle.sfv_model.specs.Members.{entry_at, keyed_at}

-- a comma, and blanks after it; `None` if the text ends there
unfoldable pub comma_at : Reader (Option (Unit {0}))
comma_at = branch (byte comma) (λ _. span is_space_or_tab >>= λ _. ahead any (give (Some tt)) (give None)) (give None)

-- after a member: a comma and `another`, or `ended` at the end
abbrev pub member_delimited : {A : Type 0} → Reader A → Reader A → Reader A
member_delimited ended another = span is_space_or_tab >>= λ _.
    ahead any
    (ahead (byte comma) (back TrailingComma comma_at >>= λ _. another) (fail TrailingCharactersAfterMember))
    ended

-- one more member, or none
unfoldable pub next_at : {A : Type 0} → Reader A → Reader (Option A)
next_at one = member_delimited (give None) (one >>= λ m. give (Some m))

-- members; `one` parses each, and `parts` are its events
unfoldable pub members_at : {A : Type 0} → (A → List TreeEvent) → Reader A → Reader (List A)
members_at parts one = span is_space >>= λ _. ahead any (one_and_more parts one (next_at one)) (give [])

-- a field; for an item, with the spaces after it
unfoldable pub whole_field_at : Version → (kind : FieldKind) → Reader (RawField kind)
whole_field_at version item_field = span is_space >>= λ _. item_at version >>= λ i. span is_space >>= λ _. give i
whole_field_at version list_field = members_at entry_events (entry_at version)
whole_field_at version dictionary_field = members_at keyed_events (keyed_at version)

-- fails if anything follows
abbrev pub ending : {A : Type 0} → (A → List TreeEvent) → Answer A → Result A Fault
ending parts (Ok (v, [])) = Ok v
ending parts (Ok (v, c ∷ r)) = Err (record {
  kind = TrailingCharactersAfterParsedValue;
  exact = true;
  rest = c ∷ r;
  events = parts v;
})
ending parts (Err e) = Err e

-- parses a whole text as a field of this type
unfoldable pub read_field : Version → (kind : FieldKind) → List ℕ → Result (RawField kind) Fault
read_field version kind t = ending (events kind) (whole_field_at version kind t)
