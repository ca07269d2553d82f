-- The lines of a head, as names and values.
use Rattle.std.specs.Prelude.{ℕ, List, [], map, filter, codes, Option, Some, None}
use Rattle.std.specs.Str.{str_eq_ignore_ascii_case}
use Rattle.std.specs.Cow.{cow_slice_items}
use Rattle.std.specs.declared.alloc.Global.{Global}
use Rattle.std.specs.declared.borrow.CowSlice.{CowSlice}
use Rattle.sfv.specs.Texts.{joined}

-- the values of the lines with this name
abbrev pub lines_of : List ℕ → List (List ℕ × List ℕ) → List (List ℕ)
lines_of name lines = map (λ line. line.1) (filter (λ line. str_eq_ignore_ascii_case line.0 name) lines)

-- these values, with a comma and a space between neighbours
abbrev pub text_of_lines : List ℕ → List (List ℕ × List ℕ) → List ℕ
text_of_lines name lines = joined (codes ", ") (lines_of name lines)

-- the bytes of a text, or none without a text
abbrev pub bytes_of : Option (CowSlice ℕ Global) → List ℕ
bytes_of None = []
bytes_of (Some text) = cow_slice_items text
