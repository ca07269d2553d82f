-- The field Sec-CH-UA (User-Agent Client Hints), a list. Each member is a String that names a brand; its parameter `v`
-- is the version, a String.
use Rattle.std.specs.Prelude.{◌≡◌, ◌≢◌, ℕ, List, [], Bool, true, false, Option, Some, None, option_map, filter_map, codes}
use Rattle.sfv_readers.specs.Field.{Version, list_field, BareValue, string, RawMember, RawParameters, last_of}
use Rattle.sfv_readers.specs.Field.{Head, of_item, of_inner_list, head_of, parameters_of, IsParsedAs, read_text}
use Rattle.sfv_http_fields.specs.declared.sec_ch_ua.Brand.{Brand}

-- a brand and its version
pub record BrandValue : Type 0 where
  pub name : List ℕ
  pub version : Option (List ℕ)

-- a String
abbrev pub string_in : BareValue → Option (List ℕ)
string_in (string s) = Some s
string_in b = None

abbrev pub version_of : Option BareValue → Option (List ℕ)
version_of None = None
version_of (Some b) = string_in b

-- the brand of a member with this head and these parameters
abbrev pub brand_in : Head → RawParameters → Option BrandValue
brand_in (of_item b) ps =
    option_map (λ name. record { name = name; version = version_of (last_of (codes "v") ps) }) (string_in b)
brand_in (of_inner_list items) ps = None

abbrev pub brand_of : RawMember → Option BrandValue
brand_of m = brand_in (head_of m) (parameters_of m)

abbrev pub brand_value : Brand → BrandValue
brand_value b = record { name = read_text b.name; version = option_map read_text b.version }

-- the text parses to a list whose members have these brands, in order
abbrev pub HasBrands : Version → List ℕ → List BrandValue → Type 0
HasBrands version t brands = (value : List RawMember) × IsParsedAs version list_field t value
    × (brands ≡ filter_map brand_of value)

-- the text parses to a list with a brand
abbrev pub HasBrand : Version → List ℕ → Type 0
HasBrand version t = (brands : List BrandValue) × HasBrands version t brands × (brands ≢ [])

-- all brands are found; or memory ran out at a brand
abbrev pub AreSoFar : (is_cut : Bool) → List BrandValue → List BrandValue → Type 0
AreSoFar false found brands = found ≡ brands
AreSoFar true found brands = brands ≢ []
