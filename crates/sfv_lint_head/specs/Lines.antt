-- The lines of a field.
use Rattle.std.specs.Prelude.{ℕ, ◌+◌, ◌-◌, ◌==◌, slice_index, Bool, true, false, List, [], ◌∷◌, length, take, map, filter, nat_lt, codes, Option, Some, None, if◌then◌else◌}
use Rattle.std.specs.declared.alloc.Global.{Global}
use Rattle.std.specs.declared.vec.Vec.{Vec}
use Rattle.sfv_spec.specs.Texts.{joined}

-- the bytes of each line
abbrev pub line_texts : List (Vec ℕ Global) → List (List ℕ)
line_texts lines = map (λ line. line.items) lines

-- the text of a field: its lines with a comma and a space between neighbours (RFC 9651, section 4.2)
abbrev pub joined_lines : List (List ℕ) → List ℕ
joined_lines lines = joined (codes ", ") lines

-- The line of a field, and the index in it, of an index of the joined text. An index in the comma and the space after a
-- line is at the end of this line, or after it.
abbrev pub place_in : List (List ℕ) → ℕ → Option (List ℕ × ℕ)
place_in [] index = None
place_in (line ∷ []) index = Some (line, index)
place_in (line ∷ next ∷ lines) index =
    if nat_lt index (length line + 2) then Some (line, index) else place_in (next ∷ lines) (index - (length line + 2))

-- the byte in front of the first of these lines
abbrev pub before_first : ℕ → List (List ℕ) → List (List ℕ)
before_first b [] = (b ∷ []) ∷ []
before_first b (line ∷ lines) = (b ∷ line) ∷ lines

-- the lines of a text, each without its line feed
abbrev pub lines_of_text : List ℕ → List (List ℕ)
lines_of_text [] = []
lines_of_text (b ∷ bytes) = if b == 10 then [] ∷ lines_of_text bytes else before_first b (lines_of_text bytes)

-- the line without a carriage return at its end
abbrev pub without_return : List ℕ → List ℕ
without_return line = if slice_index line (length line - 1) == 13 then take (length line - 1) line else line

-- the list has an element
abbrev pub has_any : List ℕ → Bool
has_any [] = false
has_any (b ∷ bytes) = true

-- the lines of a pasted value: without line ends, and without empty lines
abbrev pub value_lines : List ℕ → List (List ℕ)
value_lines text = filter has_any (map without_return (lines_of_text text))
