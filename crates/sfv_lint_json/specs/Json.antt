-- Structured fields as JSON, in the form of the HTTP working group's tests.
use Rattle.std.specs.Prelude.{ℕ, List, ℤ, pos, codes, map, option_map, unwrap_or}
use Rattle.std.specs.Float.{binary64}
use Rattle.std.specs.Float.Ieee.{of_int, div}
use Rattle.serde_json.specs.Data.{Data}
use Rattle.serde_json.specs.Data as json
use Rattle.serde_json.specs.Find.{of_integer, of_float}
use Rattle.serde_json.specs.View.{items_of}
use Rattle.sfv.specs.Types.{FieldKind, item_field, list_field, dictionary_field}
use Rattle.sfv.specs.Values.{BareValue, RawParameters, RawItem, RawInnerList, RawMember, RawField}
use Rattle.sfv.specs.Values as values
use Rattle.sfv_lint_json.specs.Base32.{base32_text}

-- an array of these values
abbrev pub array_json : List Data → Data
array_json values = json.array (items_of values)

-- an array of two values
abbrev pub pair_json : Data → Data → Data
pair_json first second = json.array (json.item first (json.item second json.no_items))

-- an object with the name of a type, and a value
abbrev pub typed_json : List ℕ → Data → Data
typed_json name value = json.object
    (json.member (codes "__type") (json.string name) (json.member (codes "value") value json.no_members))

-- a Decimal of z thousandths: the nearest number of 64 bits
abbrev pub decimal_json : ℤ → Data
decimal_json z = unwrap_or (option_map json.number (of_float
    (div binary64 (of_int binary64 z) (of_int binary64 (pos 1000))))) json.null

-- a bare item: with its type, if JSON lacks the type
abbrev pub bare_json : BareValue → Data
bare_json (values.integer z) = json.number (of_integer z)
bare_json (values.decimal z) = decimal_json z
bare_json (values.string s) = json.string s
bare_json (values.token t) = typed_json (codes "token") (json.string t)
bare_json (values.byte_sequence b) = typed_json (codes "binary") (json.string (base32_text b))
bare_json (values.boolean b) = json.boolean b
bare_json (values.date z) = typed_json (codes "date") (json.number (of_integer z))
bare_json (values.display_string s) = typed_json (codes "displaystring") (json.string s)

-- parameters: a pair for each, of its key and its value
abbrev pub parameters_json : RawParameters → Data
parameters_json parameters = array_json (map (λ p. pair_json (json.string p.0) (bare_json p.1)) parameters)

-- an item: its bare item and its parameters
abbrev pub item_json : RawItem → Data
item_json i = pair_json (bare_json i.bare) (parameters_json i.parameters)

-- an inner list: its items and its parameters
abbrev pub inner_list_json : RawInnerList → Data
inner_list_json l = pair_json (array_json (map item_json l.items)) (parameters_json l.parameters)

-- a member of a list or a dictionary
abbrev pub member_json : RawMember → Data
member_json (values.item i) = item_json i
member_json (values.inner_list l) = inner_list_json l

-- a field: an item, the members of a list, or a pair for each member of a dictionary, of its key and its value
abbrev pub field_json : (kind : FieldKind) → RawField kind → Data
field_json item_field i = item_json i
field_json list_field members = array_json (map member_json members)
field_json dictionary_field members = array_json (map (λ m. pair_json (json.string m.0) (member_json m.1)) members)
