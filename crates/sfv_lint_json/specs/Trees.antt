-- Structured fields as trees for reading: a line for each part, with its type, below the part that contains it.
use Rattle.std.specs.Prelude.{ℕ, List, ◌++◌, codes, flat_map}
use Rattle.sfv.specs.Types.{FieldKind, item_field, list_field, dictionary_field}
use Rattle.sfv.specs.Values.{BareValue, RawParameters, RawItem, RawInnerList, RawMember, RawField, item, inner_list}
use Rattle.sfv.specs.Canonical.{bare_text}
use Rattle.sfv.specs.Kinds.{kind_text, kind_of_value}

-- the rest of a line for a bare item: its type, and its canonical text
abbrev pub bare_line : BareValue → List ℕ
bare_line value = kind_text (kind_of_value value) ++ codes " " ++ bare_text value ++ codes "\n"

-- a line for each parameter, with `indent` before it
abbrev pub parameter_lines : List ℕ → RawParameters → List ℕ
parameter_lines indent parameters =
    flat_map (λ p. indent ++ codes ";" ++ p.0 ++ codes " = " ++ bare_line p.1) parameters

-- the lines of an item, without white space before the first; `indent` is before its parameters
abbrev pub item_lines : List ℕ → RawItem → List ℕ
item_lines indent i = bare_line i.bare ++ parameter_lines indent i.parameters

-- the lines of the items of an inner list
abbrev pub items_lines : List RawItem → List ℕ
items_lines items = flat_map (λ i. codes "        " ++ item_lines (codes "          ") i) items

-- the lines of the items of an inner list, and then those of its parameters
abbrev pub parts_lines : RawInnerList → List ℕ
parts_lines l = items_lines l.items ++ parameter_lines (codes "      ") l.parameters

-- the lines of a member, without white space before the first
abbrev pub member_lines : RawMember → List ℕ
member_lines (item i) = item_lines (codes "      ") i
member_lines (inner_list l) = codes "inner list\n" ++ parts_lines l

-- the lines of a field: of an item, or of each member; a member of a dictionary has its key before it
abbrev pub field_lines : (kind : FieldKind) → RawField kind → List ℕ
field_lines item_field i = codes "    " ++ item_lines (codes "      ") i
field_lines list_field members = flat_map (λ m. codes "    " ++ member_lines m) members
field_lines dictionary_field members = flat_map (λ m. codes "    " ++ m.0 ++ codes " = " ++ member_lines m.1) members
