-- The structured fields of the registry of HTTP field names: the name of each in lower case, and its type.
use Rattle.std.specs.Prelude.{ℕ, List, [], ◌∷◌, Option, map, codes}
use Rattle.std.specs.Map.{lookup}
use Rattle.std.specs.List.{IsDistinct}
use Rattle.std.specs.Str.{str_eq_ignore_ascii_case}
use Rattle.sfv.specs.Types.{FieldKind, item_field, list_field, dictionary_field}

abbrev pub registered : List (List ℕ × FieldKind)
registered =
    (codes "accept-ch", list_field)
    ∷ (codes "accept-signature", dictionary_field)
    ∷ (codes "available-dictionary", item_field)
    ∷ (codes "cache-status", list_field)
    ∷ (codes "capsule-protocol", item_field)
    ∷ (codes "cdn-cache-control", dictionary_field)
    ∷ (codes "client-cert", item_field)
    ∷ (codes "client-cert-chain", list_field)
    ∷ (codes "content-digest", dictionary_field)
    ∷ (codes "cross-origin-embedder-policy", item_field)
    ∷ (codes "cross-origin-embedder-policy-report-only", item_field)
    ∷ (codes "cross-origin-opener-policy", item_field)
    ∷ (codes "cross-origin-opener-policy-report-only", item_field)
    ∷ (codes "deprecation", item_field)
    ∷ (codes "dictionary-id", item_field)
    ∷ (codes "incremental", item_field)
    ∷ (codes "no-vary-search", dictionary_field)
    ∷ (codes "origin-agent-cluster", item_field)
    ∷ (codes "permissions-policy", dictionary_field)
    ∷ (codes "priority", dictionary_field)
    ∷ (codes "proxy-status", list_field)
    ∷ (codes "reporting-endpoints", dictionary_field)
    ∷ (codes "repr-digest", dictionary_field)
    ∷ (codes "sec-ch-ua", list_field)
    ∷ (codes "sec-ch-ua-arch", item_field)
    ∷ (codes "sec-ch-ua-bitness", item_field)
    ∷ (codes "sec-ch-ua-form-factors", list_field)
    ∷ (codes "sec-ch-ua-full-version", item_field)
    ∷ (codes "sec-ch-ua-full-version-list", list_field)
    ∷ (codes "sec-ch-ua-mobile", item_field)
    ∷ (codes "sec-ch-ua-model", item_field)
    ∷ (codes "sec-ch-ua-platform", item_field)
    ∷ (codes "sec-ch-ua-platform-version", item_field)
    ∷ (codes "sec-ch-ua-wow64", item_field)
    ∷ (codes "signature", dictionary_field)
    ∷ (codes "signature-input", dictionary_field)
    ∷ (codes "use-as-dictionary", dictionary_field)
    ∷ (codes "want-content-digest", dictionary_field)
    ∷ (codes "want-repr-digest", dictionary_field)
    ∷ []

-- the type in the row of the table with this name; the case is ignored (RFC 9110, section 5.1)
abbrev pub registered_type : List ℕ → Option FieldKind
registered_type name = lookup (str_eq_ignore_ascii_case name) registered

-- no two rows of the table have the same name
abbrev pub OneRow : Type 0
OneRow = IsDistinct str_eq_ignore_ascii_case (map (λ row. row.0) registered)
