-- The Priority field (RFC 9218, section 4), a dictionary.
use Rattle.std.specs.Prelude.{◌≡◌, ℕ, List, [], ◌∷◌, ◌++◌, ◌+◌, ◌==◌, Bool, false, nat_le, if◌then◌else◌, Option, Some}
use Rattle.std.specs.Prelude.{pos, codes}
use Rattle.sfv.specs.Ascii.{byte}
use Rattle.sfv.specs.Texts.{joined}
use Rattle.sfv.specs.Values.{BareValue, integer, boolean, RawMember, item}
use Rattle.sfv.specs.Types.{dictionary_field, Version}
use Rattle.sfv.specs.Ordered.{last_of}
use Rattle.sfv.specs.Statements.{IsParsedAs}
pub use Rattle.sfv_readers.specs.Field.{ErrorNeedsMark}
use Rattle.sfv_http_fields.specs.declared.priority.value.Priority.{Priority}

-- an Integer from 0 to 7, otherwise 3
abbrev pub urgency_in : BareValue → ℕ
urgency_in (integer (pos n)) = if nat_le n 7 then n else 3
urgency_in b = 3

abbrev pub urgency_of : Option RawMember → ℕ
urgency_of (Some (item i)) = urgency_in i.bare
urgency_of m = 3

-- a Boolean, otherwise false
abbrev pub incremental_in : BareValue → Bool
incremental_in (boolean b) = b
incremental_in b = false

abbrev pub incremental_of : Option RawMember → Bool
incremental_of (Some (item i)) = incremental_in i.bare
incremental_of m = false

-- The urgency, and whether a response may be used as it arrives. By the invariant of `Priority`, an urgency is at
-- most 7; contracts use `value_of`, and `priority` gives no other urgency.
pub record PriorityValue : Type 0 where
  pub urgency : ℕ
  pub incremental : Bool

abbrev pub priority : List (List ℕ × RawMember) → PriorityValue
priority members = record {
  urgency = urgency_of (last_of (codes "u") members);
  incremental = incremental_of (last_of (codes "i") members);
}

-- the text for an urgency from 0 to 7, without defaults
abbrev pub priority_text : PriorityValue → List ℕ
priority_text p = joined (codes ", ")
    ((if p.urgency == 3 then [] else (codes "u=" ++ (byte "0" + p.urgency) ∷ []) ∷ [])
    ++ (if p.incremental then codes "i" ∷ [] else []))

abbrev pub value_of : Priority → PriorityValue
value_of p = record { urgency = p.urgency; incremental = p.incremental }

-- the text parses to a dictionary with this priority
abbrev pub IsPriorityOf : Version → List ℕ → PriorityValue → Type 0
IsPriorityOf version t p = (value : List (List ℕ × RawMember)) × IsParsedAs version dictionary_field t value
    × (p ≡ priority value)

-- the text of the priority parses to it under both versions
abbrev pub IsReadBack : PriorityValue → Type 0
IsReadBack p = (version : Version) → IsPriorityOf version (priority_text p) p
