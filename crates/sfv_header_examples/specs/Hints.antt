-- The hints of a message.
use Rattle.std.specs.Prelude.{Option, option_map, codes}
use Rattle.http_header.specs.HeaderMap.{Entries}
use Rattle.http_header.specs.FieldValue.{FieldValue}
use Rattle.sfv.specs.Field.{list_field, Rfc9651, list_tree}
use Rattle.sfv.specs.Types.{ListEntry}
use Rattle.std.specs.declared.alloc.Global.{Global}
use Rattle.std.specs.declared.vec.Vec.{Vec}
use Rattle.sfv_headers.specs.Fields.{IsReadIn}

-- the field Accept-CH of the map parses to this list, or the map lacks it
abbrev pub AreHints : Entries FieldValue → Option (Vec ListEntry Global) → Type 0
AreHints headers hints =
    IsReadIn Rfc9651 list_field headers (codes "accept-ch") (option_map (λ list. list_tree list.items) hints)
