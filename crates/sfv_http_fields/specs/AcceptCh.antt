-- The field Accept-CH (RFC 8942, section 3.1), a list of tokens.
use Rattle.std.specs.Prelude.{◌≡◌, ℕ, List, Bool, false, bytes_eq, codes, MatchOption}
use Rattle.std.specs.List.{list_any}
use Rattle.sfv_readers.specs.Field.{Version, list_field, BareValue, token, RawMember, IsParsedAs, Head, of_item}
use Rattle.sfv_readers.specs.Field.{of_inner_list, head_of}
use Rattle.http_header.specs.HeaderMap.{Entries}
use Rattle.http_header.specs.FieldValue.{FieldValue}
use Rattle.sfv_headers.specs.Lines.{text_in}

-- the bare item is this token
abbrev pub is_token : List ℕ → BareValue → Bool
is_token hint (token t) = bytes_eq hint t
is_token hint b = false

-- the head of a member is this token
abbrev pub is_hint_head : List ℕ → Head → Bool
is_hint_head hint (of_item b) = is_token hint b
is_hint_head hint (of_inner_list xs) = false

-- the member is this token, with any parameters
abbrev pub is_hint : List ℕ → RawMember → Bool
is_hint hint m = is_hint_head hint (head_of m)

-- the text parses to a list, and `accepted` says whether one of its members is this token
abbrev pub IsAcceptance : Version → List ℕ → List ℕ → Bool → Type 0
IsAcceptance version t hint accepted = (value : List RawMember) × IsParsedAs version list_field t value
    × (accepted ≡ list_any (is_hint hint) value)

-- the same for the field of a header map, which accepts nothing if it is absent
abbrev pub IsAcceptanceIn : Version → Entries FieldValue → List ℕ → Bool → Type 0
IsAcceptanceIn version headers hint accepted = MatchOption (text_in headers (codes "accept-ch")) (accepted ≡ false)
    (λ t. IsAcceptance version t hint accepted)
