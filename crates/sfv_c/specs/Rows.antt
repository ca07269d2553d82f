-- Events encoded as numbers.
use Rattle.std.specs.Prelude.{◌≡◌, ℕ, ℤ, pos, List, [], Bool, true, false, Option, Some, None}
use Rattle.sfv.specs.Values.{BareValue, integer, decimal, string, token, byte_sequence, boolean, date, display_string}
use Rattle.sfv.specs.Events.{TreeEvent, entry, keyed_entry, begins_item, begins_inner_list, bare_item, parameter}
use Rattle.sfv.specs.Events.{parameters_end, inner_list_end, value_in}
use Rattle.sfv.specs.Kinds.{kind_of_value}
use Rattle.sfv_c.specs.declared.rows.Row.{Row}
use Rattle.sfv_c.specs.Numbers.{type_number}

-- the number of an event's tag
abbrev pub tag_of : TreeEvent → ℕ
tag_of entry = 1
tag_of (keyed_entry key) = 2
tag_of begins_item = 3
tag_of begins_inner_list = 4
tag_of (bare_item value) = 5
tag_of (parameter key value) = 6
tag_of parameters_end = 7
tag_of inner_list_end = 8

-- the key of an event, or the empty text
abbrev pub key_of : TreeEvent → List ℕ
key_of (keyed_entry key) = key
key_of (parameter key value) = key
key_of e = []

-- the number of a boolean
abbrev pub number_of_bool : Bool → ℤ
number_of_bool true = pos 1
number_of_bool false = pos 0

-- the number of a value: decimals in thousandths, dates in seconds, true as 1, texts as 0
abbrev pub number_of_value : BareValue → ℤ
number_of_value (integer z) = z
number_of_value (decimal z) = z
number_of_value (boolean b) = number_of_bool b
number_of_value (date z) = z
number_of_value v = pos 0

-- the bytes of a value; numbers have none
abbrev pub bytes_of_value : BareValue → List ℕ
bytes_of_value (string s) = s
bytes_of_value (token t) = t
bytes_of_value (byte_sequence b) = b
bytes_of_value (display_string s) = s
bytes_of_value v = []

-- an encoded value: its kind, its number and its bytes
pub record ValueNumbers : Type 0 where
  pub kind : ℕ
  pub number : ℤ
  pub bytes : List ℕ

-- the number of a value's kind, its number and its bytes; zeros and no bytes if there is no value
abbrev pub value_numbers : Option BareValue → ValueNumbers
value_numbers None = record { kind = 0; number = pos 0; bytes = [] }
value_numbers (Some v) = record {
  kind = type_number (kind_of_value v);
  number = number_of_value v;
  bytes = bytes_of_value v;
}

-- an encoded event: its tag, its key and its value
pub record EventNumbers : Type 0 where
  pub tag : ℕ
  pub key : List ℕ
  pub value : ValueNumbers

abbrev pub numbers_of : TreeEvent → EventNumbers
numbers_of e = record { tag = tag_of e; key = key_of e; value = value_numbers (value_in e) }

-- the parts that a row holds
abbrev pub row_parts : Row → EventNumbers
row_parts row = record {
  tag = row.tag;
  key = row.key.now;
  value = record { kind = row.kind; number = row.number; bytes = row.bytes.now };
}

-- the row holds the parts of the event
abbrev pub IsRowOf : Row → TreeEvent → Type 0
IsRowOf row e = row_parts row ≡ numbers_of e
