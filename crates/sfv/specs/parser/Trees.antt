-- Results of parsing to a tree.
use Rattle.std.specs.Prelude.{◌≡◌, ◌⊎◌, Bool, true, false, ℕ, List, [], ◌∷◌, ◌++◌, All, map, Result, Ok, Err}
use Rattle.std.specs.Prelude.{◌≤◌, length, drop, bytes_eq}
use Rattle.indexmap.specs.IndexMap.{insert_entry}
use Rattle.sfv_spec.specs.Values.{RawMember, RawField}
use Rattle.sfv_spec.specs.Ordered.{collapse, ordered_member}
use Rattle.sfv_spec.specs.declared.version.Version.{Version}
use Rattle.sfv_base.specs.declared.error.Error.{Error}
use Rattle.sfv_base.specs.Errors.{out_of_memory}
use Rattle.sfv_tree.specs.Seeds.{MemberHasSeed}
use Rattle.sfv_tree.specs.declared.parsed.ListEntry.{ListEntry}
use Rattle.sfv_tree.specs.declared.hash_seed.HashSeed.{HashSeed}
use Rattle.sfv_spec.proofs.Marks.{is_space}
use Rattle.sfv_model.specs.Reader.{Reader, span}
use Rattle.sfv.specs.declared.parser.cursor.Cursor.{Cursor}
use Rattle.sfv.specs.parser.Cursor.{kept, input, version, rest, IsFaultOf}
use Rattle.sfv.specs.parser.Members.{MemberValue, field_of}

-- The error of a parsing function that returns a tree: out of memory, or the reader's fault.
abbrev pub FailsAs : {Y : Type 0} → Cursor → Error → (Version → Reader Y) → Type 0
FailsAs before error reader = (error ≡ out_of_memory)
    ⊎ IsFaultOf (input before) error (reader (version before) (rest before))

-- The result of a parsing function that returns a tree. `Ok`: the reader returns a value and this rest, and the result,
-- seen through `view`, is that value with each key once.
abbrev pub Builds : {X Y Z : Type 0} → (X → Z) → (Y → Z) → Cursor → Cursor → Result X Error → (Version → Reader Y)
    → Type 0
Builds {Y = Y} view collapsed before after (Ok x) reader = (raw : Y)
    × (reader (version before) (rest before) ≡ Ok (raw, rest after)) × (view x ≡ collapsed raw)
    × (kept after ≡ kept before)
Builds view collapsed before after (Err e) reader = FailsAs before e reader

-- the leading spaces of the text end at this index
abbrev pub SpacesEndAt : List ℕ → ℕ → Type 0
SpacesEndAt t index = (index ≤ length t) × ((s : List ℕ) × (span is_space t ≡ Ok (s, drop index t)))

-- each key with its member, whose keys are collapsed
abbrev pub ordered_pairs : List (List ℕ × RawMember) → List (List ℕ × RawMember)
ordered_pairs ms = map (λ m. (m.0, ordered_member m.1)) ms

-- the value of a dictionary (`true`) or of a list (`false`) with these members: each key once
abbrev pub ordered_members : (keyed : Bool) → List (MemberValue keyed) → RawField (field_of keyed)
ordered_members true ms = collapse (ordered_pairs ms)
ordered_members false ms = map ordered_member ms

-- the value with one more member: an existing key keeps its place and takes the new member
abbrev pub with_member : (keyed : Bool) → RawField (field_of keyed) → MemberValue keyed → RawField (field_of keyed)
with_member true ms m = insert_entry bytes_eq ms m.0 (ordered_member m.1)
with_member false ms m = ms ++ ordered_member m ∷ []

-- the parameters of all members hash under this seed
abbrev pub EntriesHaveSeed : HashSeed → List (List ℕ × ListEntry) → Type 0
EntriesHaveSeed seed entries = All (λ p. MemberHasSeed seed p.1) entries
