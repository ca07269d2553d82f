-- What the definitions of the Priority field say of some dictionaries.
use Rattle.std.proofs.Common.{◌≡◌, ℕ, List, [], ◌∷◌, true, false, refl, pos, codes}
use Rattle.sfv.specs.{Builders.plain_item, Ordered.last_of, Values.{integer, boolean, RawMember, item}}
use Rattle.sfv_http_fields.specs.Priority.{priority, priority_text}

-- u=1, i
urgent : List (List ℕ × RawMember)
urgent = (codes "u", item (plain_item (integer (pos 1)))) ∷ (codes "i", item (plain_item (boolean true))) ∷ []

urgent_is_read : priority urgent ≡ record { urgency = 1; incremental = true }
unfolding urgent last_of
urgent_is_read = refl

urgent_is_written : priority_text (record { urgency = 1; incremental = true }) ≡ codes "u=1, i"
urgent_is_written = refl

-- u=8: out of range
default_is_read : priority ((codes "u", item (plain_item (integer (pos 8)))) ∷ []) ≡ record {
  urgency = 3;
  incremental = false;
}
unfolding last_of
default_is_read = refl
