-- The text of an intermediary.
use Rattle.std.specs.Prelude.{ℕ, List, [], ◌∷◌, Some, codes, pos}
use Rattle.sfv_readers.specs.Field.{Version, list_field, BareValue, integer, token, RawItem, RawMember, item, canonical}
use Rattle.sfv_readers.specs.Field.{text_of as token_text}
use Rattle.sfv.specs.TokenText.{TokenRef}
use Rattle.sfv_http_fields.specs.ProxyStatus.{ProxyValue, IsLastProxyOf, name_value}
use Rattle.sfv_http_fields.specs.declared.proxy_status.reading.Name.{Name}

-- the item that is written
abbrev pub written_item : BareValue → List ℕ → ℕ → RawItem
written_item name error status = record {
  bare = name;
  parameters = (codes "error", token error) ∷ (codes "received-status", integer (pos status)) ∷ [];
}

abbrev pub written_members : BareValue → List ℕ → ℕ → List RawMember
written_members name error status = item (written_item name error status) ∷ []

abbrev pub proxy_text : BareValue → List ℕ → ℕ → List ℕ
proxy_text name error status = canonical list_field (written_members name error status)

abbrev pub written_proxy : BareValue → List ℕ → ℕ → ProxyValue
written_proxy name error status = record { name = name; error = Some error; received_status = Some status }

-- the text parses, under both versions, to a list whose last member is this intermediary
abbrev pub IsReadAsProxy : BareValue → List ℕ → ℕ → Type 0
IsReadAsProxy name error status =
    (version : Version) → IsLastProxyOf version (proxy_text name error status) (Some (written_proxy name error status))

-- the same for Rust values
abbrev pub item_of : Name → TokenRef → ℕ → RawItem
item_of name error status = written_item (name_value name) (token_text error) status

abbrev pub text_of : Name → TokenRef → ℕ → List ℕ
text_of name error status = proxy_text (name_value name) (token_text error) status

abbrev pub IsReadAs : Name → TokenRef → ℕ → Type 0
IsReadAs name error status = IsReadAsProxy (name_value name) (token_text error) status
