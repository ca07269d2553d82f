-- The field lines of a head. `httparse` defines a section of field lines (RFC 9112, section 5).
use Rattle.std.specs.Prelude.{◌≡◌, ◌≤◌, ℕ, All, length, take, ◌==◌, ◌&&◌, ◌||◌, Bool, true, false, List, [], ◌∷◌, ◌++◌, map, filter, codes, if◌then◌else◌, nat_eq}
use Rattle.std.specs.List.{starts_with}
use Rattle.std.specs.Str.{str_eq_ignore_ascii_case}
use Rattle.httparse.specs.Grammar.{Field, LineEnd, ReadsSection, HasNoSection}
use Rattle.httparse.specs.Spans.{name_and_value, AreFieldsAt, IsHeaderWithin}
use Rattle.httparse.specs.declared.spans.HeaderSpan.{HeaderSpan}
use Rattle.sfv_lint_head.specs.declared.head.FieldLine.{FieldLine}

-- the bytes before the first line feed
abbrev pub first_line : List ℕ → List ℕ
first_line [] = []
first_line (b ∷ bytes) = if b == 10 then [] else b ∷ first_line bytes

-- the bytes after the first line feed
abbrev pub after_line : List ℕ → List ℕ
after_line [] = []
after_line (b ∷ bytes) = if b == 10 then bytes else after_line bytes

-- a space comes before any colon; no field line has one there (RFC 9112, section 5.1)
abbrev pub has_early_space : List ℕ → Bool
has_early_space [] = false
has_early_space (b ∷ bytes) = if b == 32 then true else if b == 58 then false else has_early_space bytes

-- the line contains `HTTP/`
abbrev pub names_http : List ℕ → Bool
names_http [] = false
names_http (b ∷ bytes) = starts_with nat_eq (b ∷ bytes) (codes "HTTP/") || names_http bytes

-- the line is the first of a request or of a response, of any version of HTTP
abbrev pub is_start_line : List ℕ → Bool
is_start_line line = has_early_space line && names_http line

-- the text without its start line, if there is one
abbrev pub section_of : List ℕ → List ℕ
section_of text = if is_start_line (first_line text) then after_line text else text

-- what is read for an input: the input and two line feeds, so the empty line at the end may be missing
abbrev pub section_text : List ℕ → List ℕ
section_text input = section_of (input ++ codes "\n\n")

-- after the start line, the input begins with a section of field lines, which have these names and values
abbrev pub IsHead : List ℕ → List (List ℕ × List ℕ) → Type 0
IsHead input lines = (fields : List Field) × (last : LineEnd) × (rest : List ℕ)
    × ReadsSection (section_text input) fields last rest × (lines ≡ map name_and_value fields)

-- after the start line, the input does not begin with a section of field lines
abbrev pub HasNoHead : List ℕ → Type 0
HasNoHead input = HasNoSection (section_text input)

-- a line feed, at which each field line ends
abbrev pub is_line_feed : ℕ → Bool
is_line_feed b = b == 10

-- the number of line feeds
abbrev pub line_feeds : List ℕ → ℕ
line_feeds text = length (filter is_line_feed text)

-- the first `count` of the headers are the fields of a section at the start of the text
pub record HoldsSection (text : List ℕ) (headers : List HeaderSpan) (count : ℕ) : Type 0 where
  pub fields : List Field
  pub last : LineEnd
  pub rest : List ℕ
  pub reads : ReadsSection text fields last rest
  pub fits : count ≤ length headers
  pub within : All (IsHeaderWithin (length text)) (take count headers)
  pub same : AreFieldsAt text headers count fields

-- the name and the value of a line
abbrev pub line_of : FieldLine → List ℕ × List ℕ
line_of line = (line.name.items, line.value.items)

-- the values of the lines with this name, in any case (RFC 9110, section 5.1)
abbrev pub values_of : List ℕ → List (List ℕ × List ℕ) → List (List ℕ)
values_of name lines = map (λ line. line.1) (filter (λ line. str_eq_ignore_ascii_case line.0 name) lines)
