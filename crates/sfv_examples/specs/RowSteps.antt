-- The value of a row.
use Rattle.std.specs.Prelude.{ℤ, List, Option, option_map, vec_items}
use Rattle.sfv_examples.specs.declared.rows.Row.{Row}

abbrev pub row_value : Option Row → Option (List ℤ)
row_value row = option_map (λ r. vec_items r.integers) row
