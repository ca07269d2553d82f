-- The integers of inner lists.
use Rattle.std.specs.Prelude.{◌≡◌, ℕ, ℤ, List, Option, Some, None, fold, filter_map}
use Rattle.sfv_readers.specs.Field.{Version, list_field, BareValue, integer, RawItem, RawMember, IsParsedAs, Head}
use Rattle.sfv_readers.specs.Field.{of_item, of_inner_list, head_of}

abbrev pub integer_in : BareValue → Option ℤ
integer_in (integer z) = Some z
integer_in b = None

abbrev pub integers_of : List RawItem → List ℤ
integers_of items = filter_map (λ i. integer_in i.bare) items

abbrev pub row_in : Head → Option (List ℤ)
row_in (of_item b) = None
row_in (of_inner_list items) = Some (integers_of items)

abbrev pub row_of : RawMember → Option (List ℤ)
row_of m = row_in (head_of m)

abbrev pub IsLastRowOf : Version → List ℕ → Option (List ℤ) → Type 0
IsLastRowOf version t found = (value : List RawMember) × IsParsedAs version list_field t value
    × (found ≡ fold (λ before m. row_of m) None value)
