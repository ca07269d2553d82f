-- The state of one member.
use Rattle.std.specs.Prelude.{ℕ, List, Option, option_map, codes, None}
use Rattle.sfv_readers.specs.Field.{BareValue, RawParameters, last_of, Head, of_item, of_inner_list, text_of}
use Rattle.sfv_http_fields.specs.declared.proxy_status.reading.Member.{Member}
use Rattle.sfv_http_fields.specs.ProxyStatus.{name_in, error_of, status_of, name_value}

pub record Kept : Type 0 where
  pub name : Option BareValue
  pub error : Option (List ℕ)
  pub received_status : Option ℕ

-- only an item has a name
abbrev pub name_of : Head → Option BareValue
name_of (of_item b) = name_in b
name_of (of_inner_list items) = None

abbrev pub kept_of : Head → RawParameters → Kept
kept_of head ps = record {
  name = name_of head;
  error = error_of (last_of (codes "error") ps);
  received_status = status_of (last_of (codes "received-status") ps);
}

abbrev pub kept_value : Member → Kept
kept_value m = record {
  name = option_map name_value m.name;
  error = option_map text_of m.error;
  received_status = m.received_status;
}
