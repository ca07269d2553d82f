-- Worked texts, computed.
use Rattle.std.proofs.Common.{◌≡◌, ℕ, List, [], ◌∷◌, Ok, Err, refl, pos, true, false, codes}
use Rattle.std.specs.Str.{is_utf8, chars, Lossy.utf8_valid_len}
use Rattle.sfv_spec.specs.Events.{entry, keyed_entry, begins_item, begins_inner_list, bare_item, parameter}
use Rattle.sfv_spec.specs.{Events.{parameters_end, inner_list_end, events}, Grammar.IsAccepted}
use Rattle.sfv_spec.specs.Values.{integer, decimal, string, token, byte_sequence, boolean, display_string}
use Rattle.sfv_spec.proofs.Marks.{lower_f, is_symbol}
use Rattle.sfv_model.specs.Bare.{sign_at, long_at, decimal_at, fraction_at, point_at, whole_at, number_at, boolean_at}
use Rattle.sfv_model.specs.Bare.{token_at, date_at, quoted_at, bare_at}
use Rattle.sfv_model.specs.Content.{symbol_value, padding_in, valid_from, values_in, bytes_from, bytes_of, fault_place}
use Rattle.sfv_model.specs.Content.{content_in, bytes_at}
use Rattle.sfv_model.specs.Fields.{comma_at, next_at, members_at, whole_field_at, read_field}
use Rattle.sfv_model.specs.Items.{key_at, value_at, parameter_at, parameters_at, item_at}
use Rattle.sfv_model.specs.Members.{inner_item_at, next_item_at, inner_items_at, inner_at, member_at, entry_at}
use Rattle.sfv_model.specs.{Members.{member_value_at, keyed_at}, Quoted.{string_from, pieces_from, display_at}}
use Rattle.sfv_model.specs.Reader.{Fault, at_reach, by_rule, give, fail, ruled, bind, led, branch, ahead, back, up_to}
use Rattle.sfv_model.{specs.Reader.{span, many, many_within, visited}, proofs.Theorems.read_is_accepted}
use Rattle.sfv_model.proofs.Types.{FieldKind, item_field, list_field, dictionary_field, Version, Rfc8941, Rfc9651}
use Rattle.sfv_model.proofs.Types.{TrailingComma, TrailingDecimalPoint, NonIntegerDate, Rfc8941Date, ExpectedDigit}
use Rattle.sfv_model.proofs.Types.{TooManyDigits, TooManyDigitsAfterDecimalPoint, ExpectedStartOfBareItem}
use Rattle.sfv_model.proofs.Types.{TrailingCharactersAfterParsedValue, UnterminatedInnerList, InvalidByteSequence}
use Rattle.sfv_model.proofs.Types.{UnterminatedByteSequence, InvalidEscapeSequence, UnterminatedEscapeSequence}
use Rattle.sfv_model.proofs.Types.{UnterminatedString, InvalidUtf8InDisplayString, Rfc8941DisplayString}

-- worked texts, and what is read in them
record Read : Type 0 where
  item_with_more : read_field Rfc9651 item_field (codes "1.5;a;b=x, 2")
      ≡ Err (record {
        kind = TrailingCharactersAfterParsedValue;
        exact = true;
        rest = codes ", 2";
        events = bare_item (decimal (pos 1500)) ∷ parameter (codes "a") (boolean true)
            ∷ parameter (codes "b") (token (codes "x")) ∷ parameters_end ∷ [];
      })
  comma_at_end : read_field Rfc9651 list_field (codes "1 , ")
      ≡ Err (record {
        kind = TrailingComma;
        exact = false;
        rest = codes ", ";
        events = entry ∷ begins_item ∷ bare_item (integer (pos 1)) ∷ parameters_end ∷ [];
      })
  no_member : read_field Rfc9651 list_field (codes "1,,2")
      ≡ Err (record {
        kind = ExpectedStartOfBareItem;
        exact = true;
        rest = codes ",2";
        events = entry ∷ begins_item ∷ bare_item (integer (pos 1)) ∷ parameters_end ∷ entry ∷ begins_item ∷ [];
      })
  decimal_as_date : read_field Rfc9651 item_field (codes " @1.5")
      ≡ Err (record { kind = NonIntegerDate; exact = false; rest = codes "@1.5"; events = [] })
  old_date : read_field Rfc8941 dictionary_field (codes "a=@1")
      ≡ Err (record {
        kind = Rfc8941Date;
        exact = true;
        rest = codes "@1";
        events = keyed_entry (codes "a") ∷ begins_item ∷ [];
      })
  open_inner : read_field Rfc9651 dictionary_field (codes "a=(1 ")
      ≡ Err (record {
        kind = ExpectedStartOfBareItem;
        exact = true;
        rest = [];
        events = keyed_entry (codes "a") ∷ begins_inner_list ∷ begins_item ∷ bare_item (integer (pos 1))
            ∷ parameters_end
            ∷ begins_item ∷ [];
      })
  open_at_once : read_field Rfc9651 list_field (codes "(")
      ≡ Err (record { kind = UnterminatedInnerList; exact = true; rest = []; events = entry ∷ begins_inner_list ∷ [] })
  point_last : read_field Rfc9651 dictionary_field (codes "a;b=1.")
      ≡ Err (record {
        kind = TrailingDecimalPoint;
        exact = false;
        rest = codes ".";
        events = keyed_entry (codes "a") ∷ begins_item ∷ bare_item (boolean true) ∷ [];
      })
  a_dictionary : visited (events dictionary_field) (whole_field_at Rfc9651 dictionary_field (codes "a=(1 x;y), b"))
      ≡ keyed_entry (codes "a") ∷ begins_inner_list ∷ begins_item ∷ bare_item (integer (pos 1)) ∷ parameters_end
      ∷ begins_item ∷ bare_item (token (codes "x")) ∷ parameter (codes "y") (boolean true) ∷ parameters_end
      ∷ inner_list_end ∷ parameters_end ∷ keyed_entry (codes "b") ∷ begins_item ∷ bare_item (boolean true)
      ∷ parameters_end ∷ []
  some_bytes : read_field Rfc9651 item_field (codes ":aGVsbG8=:;a")
      ≡ Ok (record { bare = byte_sequence (codes "hello"); parameters = (codes "a", boolean true) ∷ [] })
  bytes_without_padding : read_field Rfc9651 item_field (codes ":aGVsbG8:")
      ≡ Ok (record { bare = byte_sequence (codes "hello"); parameters = [] })
  lone_symbol : read_field Rfc9651 item_field (codes ":a:")
      ≡ Err (record { kind = InvalidByteSequence; exact = false; rest = codes "a:"; events = [] })
  padding_too_soon : read_field Rfc9651 list_field (codes "1, :a=:")
      ≡ Err (record {
        kind = InvalidByteSequence;
        exact = true;
        rest = codes "=:";
        events = entry ∷ begins_item ∷ bare_item (integer (pos 1)) ∷ parameters_end ∷ entry ∷ begins_item ∷ [];
      })
  open_bytes : read_field Rfc9651 item_field (codes ":aGVs")
      ≡ Err (record { kind = UnterminatedByteSequence; exact = false; rest = []; events = [] })
  some_string : read_field Rfc9651 item_field (codes "\"a\\\"b\\\\\"")
      ≡ Ok (record { bare = string (codes "a\"b\\"); parameters = [] })
  wrong_escape : read_field Rfc9651 item_field (codes "\"a\\b\"")
      ≡ Err (record { kind = InvalidEscapeSequence; exact = true; rest = codes "b\""; events = [] })
  open_string : read_field Rfc9651 dictionary_field (codes "a=\"b")
      ≡ Err (record {
        kind = UnterminatedString;
        exact = true;
        rest = [];
        events = keyed_entry (codes "a") ∷ begins_item ∷ [];
      })
  some_display : read_field Rfc9651 item_field (codes "%\"f%c3%bcr\"")
      ≡ Ok (record { bare = display_string (lower_f ∷ 0xc3 ∷ 0xbc ∷ 0x72 ∷ []); parameters = [] })
  no_utf8 : read_field Rfc9651 item_field (codes "%\"a%ff\"")
      ≡ Err (record { kind = InvalidUtf8InDisplayString; exact = false; rest = codes "%ff\""; events = [] })
  capital_in_escape : read_field Rfc9651 item_field (codes "%\"a%fF\"")
      ≡ Err (record { kind = InvalidEscapeSequence; exact = false; rest = codes "F\""; events = [] })
  cut_escape : read_field Rfc9651 item_field (codes "%\"a%f")
      ≡ Err (record { kind = UnterminatedEscapeSequence; exact = false; rest = []; events = [] })
  old_display : read_field Rfc8941 item_field (codes "%\"a\"")
      ≡ Err (record { kind = Rfc8941DisplayString; exact = true; rest = codes "%\"a\""; events = [] })

-- all of it is computed
read : Read
unfolding content_in bytes_at string_from pieces_from display_at give fail ruled bind led branch ahead back up_to span
    many many_within sign_at long_at decimal_at fraction_at point_at whole_at number_at boolean_at token_at date_at
    quoted_at bare_at key_at value_at parameter_at parameters_at item_at inner_item_at next_item_at inner_items_at
    inner_at member_at entry_at member_value_at keyed_at comma_at next_at members_at whole_field_at read_field
    symbol_value is_symbol padding_in valid_from values_in bytes_from bytes_of fault_place lib.Utf8.encode is_utf8
    chars utf8_valid_len
read = record {
  item_with_more = refl;
  comma_at_end = refl;
  no_member = refl;
  decimal_as_date = refl;
  old_date = refl;
  open_inner = refl;
  open_at_once = refl;
  point_last = refl;
  a_dictionary = refl;
  some_bytes = refl;
  bytes_without_padding = refl;
  lone_symbol = refl;
  padding_too_soon = refl;
  open_bytes = refl;
  some_string = refl;
  wrong_escape = refl;
  open_string = refl;
  some_display = refl;
  no_utf8 = refl;
  capital_in_escape = refl;
  cut_escape = refl;
  old_display = refl;
}

-- ---- texts that are rejected

-- a text in which the reader finds a fault isn't accepted
rejected : (version : Version) (kind : FieldKind) (t : List ℕ) (e : Fault) → read_field version kind t ≡ Err e
    → ¬ IsAccepted version kind t
rejected version kind t e h (raw, i) = let k = (read_is_accepted version kind t raw).1 i in absurd cc

record Rejected : Type 0 where
  -- no item in an empty text
  empty_is_rejected : ¬ IsAccepted Rfc9651 item_field []
  -- a minus without digits
  minus_is_rejected : ¬ IsAccepted Rfc9651 item_field (codes "-")
  -- no digit after the point
  point_is_rejected : ¬ IsAccepted Rfc9651 item_field (codes "1.")
  -- four digits after the point
  long_fraction_is_rejected : ¬ IsAccepted Rfc9651 item_field (codes "1.2345")
  -- sixteen digits
  sixteen_digits_are_rejected : ¬ IsAccepted Rfc9651 item_field (codes "1234567890123456")
  -- a single symbol between the colons
  lone_symbol_is_rejected : ¬ IsAccepted Rfc9651 item_field (codes ":a:")
  -- a Date, which RFC 8941 does not have
  old_date_is_rejected : ¬ IsAccepted Rfc8941 item_field (codes "@5")
  -- a tab in front of a list
  leading_tab_is_rejected : ¬ IsAccepted Rfc9651 list_field (codes "\t1")
  -- a tab after an item
  trailing_tab_is_rejected : ¬ IsAccepted Rfc9651 item_field (codes "1\t")

-- the reader finds a fault in each
are_rejected : Rejected
unfolding give fail ruled bind led branch ahead back up_to span many many_within sign_at long_at decimal_at
    fraction_at point_at whole_at number_at token_at date_at bare_at parameter_at parameters_at item_at whole_field_at
    read_field member_at entry_at members_at
are_rejected = record {
  empty_is_rejected = rejected Rfc9651 item_field [] (at_reach ExpectedStartOfBareItem []) refl;
  minus_is_rejected = rejected Rfc9651 item_field (codes "-") (at_reach ExpectedDigit []) refl;
  point_is_rejected = rejected Rfc9651 item_field (codes "1.") (by_rule TrailingDecimalPoint (codes ".")) refl;
  long_fraction_is_rejected = rejected Rfc9651 item_field (codes "1.2345")
      (at_reach TooManyDigitsAfterDecimalPoint (codes "5")) refl;
  sixteen_digits_are_rejected = rejected Rfc9651 item_field (codes "1234567890123456")
      (at_reach TooManyDigits (codes "6")) refl;
  lone_symbol_is_rejected = rejected Rfc9651 item_field (codes ":a:") (by_rule InvalidByteSequence (codes "a:"))
      read.lone_symbol;
  old_date_is_rejected = rejected Rfc8941 item_field (codes "@5") (at_reach Rfc8941Date (codes "@5")) refl;
  leading_tab_is_rejected = rejected Rfc9651 list_field (codes "\t1") (record {
    kind = ExpectedStartOfBareItem;
    exact = true;
    rest = codes "\t1";
    events = entry ∷ begins_item ∷ [];
  }) refl;
  trailing_tab_is_rejected = rejected Rfc9651 item_field (codes "1\t") (record {
    kind =
        TrailingCharactersAfterParsedValue;
    exact = true;
    rest = codes "\t";
    events = bare_item (integer (pos 1)) ∷ parameters_end ∷ [];
  }) refl;
}
