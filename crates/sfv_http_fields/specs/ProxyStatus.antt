-- The Proxy-Status field (RFC 9209, section 2): a List. Each member is an item that names an intermediary.
use Rattle.std.specs.Prelude.{◌≡◌, ℕ, List, Option, Some, None, option_map, codes, pos, nat_le, if◌then◌else◌, ◌&&◌}
use Rattle.std.specs.Prelude.{fold}
use Rattle.sfv_readers.specs.Field.{Version, list_field, BareValue, integer, string, token, RawMember, item, inner_list}
use Rattle.sfv_readers.specs.Field.{last_of, read_text, IsParsedAs, text_of}
use Rattle.sfv_http_fields.specs.declared.proxy_status.reading.Name.{Name}
use Rattle.sfv_http_fields.specs.declared.proxy_status.reading.Name.TheVariants as names
use Rattle.sfv_http_fields.specs.declared.proxy_status.reading.Proxy.{Proxy}

-- a String or a Token
abbrev pub name_in : BareValue → Option BareValue
name_in (string s) = Some (string s)
name_in (token t) = Some (token t)
name_in b = None

-- a Token
abbrev pub error_in : BareValue → Option (List ℕ)
error_in (token t) = Some t
error_in b = None

-- an Integer from 100 to 599
abbrev pub status_in : BareValue → Option ℕ
status_in (integer (pos n)) = if nat_le 100 n && nat_le n 599 then Some n else None
status_in b = None

abbrev pub error_of : Option BareValue → Option (List ℕ)
error_of None = None
error_of (Some b) = error_in b

abbrev pub status_of : Option BareValue → Option ℕ
status_of None = None
status_of (Some b) = status_in b

-- an intermediary: its name, the type of its error, and the status that it received
pub record ProxyValue : Type 0 where
  pub name : BareValue
  pub error : Option (List ℕ)
  pub received_status : Option ℕ

-- the intermediary of a member
abbrev pub proxy_of : RawMember → Option ProxyValue
proxy_of (item i) = option_map (λ name. record {
  name = name;
  error = error_of (last_of (codes "error") i.parameters);
  received_status = status_of (last_of (codes "received-status") i.parameters);
}) (name_in i.bare)
proxy_of (inner_list l) = None

-- the intermediary of the last member
abbrev pub last_proxy_of : List RawMember → Option ProxyValue
last_proxy_of members = fold (λ before m. proxy_of m) None members

abbrev pub name_value : Name → BareValue
name_value (names.String s) = string (read_text s)
name_value (names.Token t) = token (text_of t)

abbrev pub proxy_value : Proxy → ProxyValue
proxy_value p = record {
  name = name_value p.name;
  error = option_map text_of p.error;
  received_status = p.received_status;
}

-- the text parses to a list with this last intermediary
abbrev pub IsLastProxyOf : Version → List ℕ → Option ProxyValue → Type 0
IsLastProxyOf version t found = (value : List RawMember) × IsParsedAs version list_field t value
    × (found ≡ last_proxy_of value)
