-- How bytes are shown, and a caret under one of them.
use Rattle.std.specs.Prelude.{ℕ, ◌+◌, ◌/◌, ◌%◌, List, [], ◌∷◌, ◌++◌, length, replicate, nat_lt, codes, flat_map, if◌then◌else◌}
use Rattle.sfv_spec.specs.Classes.{is_string_byte}

-- a hexadecimal digit
abbrev pub hex_digit : ℕ → ℕ
hex_digit n = if nat_lt n 10 then 48 + n else 87 + n

-- a printable ASCII character as it is, another byte as `\xNN`
abbrev pub shown_byte : ℕ → List ℕ
shown_byte b = if is_string_byte b then b ∷ [] else codes "\\x" ++ hex_digit (b / 16) ∷ hex_digit (b % 16) ∷ []

-- the bytes, each as it is shown
abbrev pub shown : List ℕ → List ℕ
shown bytes = flat_map shown_byte bytes

-- a caret after as many spaces as the bytes before it take when they are shown
abbrev pub caret_under : List ℕ → List ℕ
caret_under before = replicate (length (shown before)) 32 ++ codes "^"
