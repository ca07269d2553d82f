-- The Cache-Status field (RFC 9211, section 2): a List. Each member is a String or a Token that names a cache.
use Rattle.std.specs.Prelude.{◌≡◌, ℕ, ℤ, List, Bool, true, false, ◌&&◌, Option, Some, None, option_map, fold, codes}
use Rattle.std.specs.Prelude.{if◌then◌else◌}
use Rattle.std.specs.Option.{option_or}
use Rattle.sfv.specs.Values.{BareValue, integer, string, token, boolean, RawMember, item, inner_list}
use Rattle.sfv.specs.Types.{list_field, Version}
use Rattle.sfv.specs.Ordered.{last_of}
use Rattle.sfv.specs.NumberValues.{integer_of}
use Rattle.sfv.specs.Statements.{IsParsedAs}
use Rattle.sfv_http_fields.specs.declared.cache_status.Hit.{Hit}

-- a String or a Token names a cache
abbrev pub names_cache : BareValue → Bool
names_cache (string s) = true
names_cache (token t) = true
names_cache b = false

-- the value is the Boolean true
abbrev pub is_true : Option BareValue → Bool
is_true (Some (boolean b)) = b
is_true v = false

abbrev pub integer_in : Option BareValue → Option ℤ
integer_in (Some (integer z)) = Some z
integer_in v = None

-- the `ttl` of a member that names a cache with a hit (sections 2.1 and 2.3)
abbrev pub hit_of : RawMember → Option (Option ℤ)
hit_of (item i) =
    if names_cache i.bare && is_true (last_of (codes "hit") i.parameters)
    then Some (integer_in (last_of (codes "ttl") i.parameters)) else None
hit_of (inner_list l) = None

-- the last hit of a list
abbrev pub last_hit_of : List RawMember → Option (Option ℤ)
last_hit_of members = fold (λ found m. option_or (hit_of m) found) None members

abbrev pub hit_value : Option Hit → Option (Option ℤ)
hit_value found = option_map (λ hit. option_map integer_of hit.ttl) found

-- the text parses to a list with this last hit
abbrev pub IsLastHitOf : Version → List ℕ → Option (Option ℤ) → Type 0
IsLastHitOf version t found = (value : List RawMember) × IsParsedAs version list_field t value
    × (found ≡ last_hit_of value)
