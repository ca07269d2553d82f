-- The lines of a field, and their text.
use Rattle.std.specs.Prelude.{ℕ, List, [], ◌∷◌, ◌++◌, Option, Some, None, map, codes}
use Rattle.http_header.specs.HeaderMap.{Entries, get_all}
use Rattle.http_header.specs.FieldValue.{FieldValue}
use Rattle.sfv.specs.Texts.{joined}

-- the lines of a field in order, with a comma and a space between neighbours, and no text without a line (RFC 9651,
-- section 4.2)
abbrev pub text_of_lines : List (List ℕ) → Option (List ℕ)
text_of_lines [] = None
text_of_lines (line ∷ lines) = Some (joined (codes ", ") (line ∷ lines))

-- the text of these lines with one more line
abbrev pub with_line : Option (List ℕ) → List ℕ → List ℕ
with_line None line = line
with_line (Some text) line = text ++ codes ", " ++ line

-- the lines of the field with this name in a header map, in order
abbrev pub lines_in : Entries FieldValue → List ℕ → List (List ℕ)
lines_in headers name = map (λ value. value.bytes) (get_all headers name)

-- the text of the field with this name in a header map
abbrev pub text_in : Entries FieldValue → List ℕ → Option (List ℕ)
text_in headers name = text_of_lines (lines_in headers name)
