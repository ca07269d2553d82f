-- The members of the field, as the reader takes and the writer appends them.
use Rattle.sfv.specs.Ascii.{byte}
use Rattle.std.specs.Prelude.{ℕ, List, [], ◌∷◌, ◌++◌, ◌+◌, ◌==◌, Bool, true, if◌then◌else◌, pos, codes}
use Rattle.sfv_readers.specs.Field.{integer, boolean, RawMember, item, plain_item}
use Rattle.sfv_http_fields.specs.declared.priority.visiting.Member.{Member}
use Rattle.sfv_http_fields.specs.declared.priority.visiting.Member.TheVariants as keys
use Rattle.sfv_http_fields.specs.Priority.{PriorityValue}

abbrev pub key_of : Member → List ℕ
key_of keys.Urgency = codes "u"
key_of keys.Incremental = codes "i"

-- the members that are written
abbrev pub members_by : Bool → Bool → ℕ → List (List ℕ × RawMember)
members_by is_default incremental urgency =
    (if is_default then [] else (codes "u", item (plain_item (integer (pos urgency)))) ∷ [])
    ++ (if incremental then (codes "i", item (plain_item (boolean true))) ∷ [] else [])

abbrev pub members_of : PriorityValue → List (List ℕ × RawMember)
members_of p = members_by (p.urgency == 3) p.incremental p.urgency

-- the text of each member, unless it is the default
abbrev pub urgency_texts : ℕ → List (List ℕ)
urgency_texts urgency = if urgency == 3 then [] else (codes "u=" ++ (byte "0" + urgency) ∷ []) ∷ []

abbrev pub incremental_texts : Bool → List (List ℕ)
incremental_texts incremental = if incremental then codes "i" ∷ [] else []
