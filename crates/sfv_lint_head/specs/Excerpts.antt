-- The part of a line around an index, and a caret under the index.
use Rattle.std.specs.Prelude.{ℕ, ◌+◌, ◌-◌, min, nat_lt, List, [], ◌++◌, length, take, drop, Bool, Option, Some, None}
use Rattle.std.specs.Prelude.{codes, if◌then◌else◌}
use Rattle.sfv_lint_head.specs.Shown.{shown, caret_under}
use Rattle.sfv_lint_head.specs.Lines.{place_in}

-- a line of more than 72 bytes is long
abbrev pub is_long : List ℕ → Bool
is_long line = nat_lt 72 (length line)

-- where the printed part of a line begins: a long line is printed from 34 bytes before the index
abbrev pub part_start : List ℕ → ℕ → ℕ
part_start line index = if is_long line then index - 34 else 0

-- where the printed part ends: a long line is printed up to 34 bytes after the index
abbrev pub part_end : List ℕ → ℕ → ℕ
part_end line index = if is_long line then min (index + 34) (length line) else length line

-- the printed part of a line with an error at this index
abbrev pub part_of : List ℕ → ℕ → List ℕ
part_of line index = take (part_end line index - part_start line index) (drop (part_start line index) line)

-- two dots if bytes are left out, or the spaces under them
abbrev pub mark_of : Bool → List ℕ → List ℕ
mark_of left_out mark = if left_out then mark else []

-- the printed part of a line as it is shown, with dots where bytes are left out
abbrev pub part_line : List ℕ → ℕ → List ℕ
part_line line index = codes "    " ++ mark_of (nat_lt 0 (part_start line index)) (codes "..")
    ++ shown (part_of line index) ++ mark_of (nat_lt (part_end line index) (length line)) (codes "..") ++ codes "\n"

-- a caret under the index in the printed part
abbrev pub caret_line : List ℕ → ℕ → List ℕ
caret_line line index = codes "    " ++ mark_of (nat_lt 0 (part_start line index)) (codes "  ")
    ++ caret_under (take (index - part_start line index) (part_of line index)) ++ codes "\n"

-- the line of a place as it is shown, and a caret under the index in it
abbrev pub marked_line : Option (List ℕ × ℕ) → List ℕ
marked_line None = []
marked_line (Some (line, index)) = part_line line index ++ caret_line line index

-- the line with the error, marked, if the error has an index
abbrev pub marked : List (List ℕ) → Option ℕ → List ℕ
marked lines None = []
marked lines (Some index) = marked_line (place_in lines index)
