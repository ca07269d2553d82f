-- The one event that parts can be those of.
use Rattle.std.proofs.Common.{◌≡◌, pos, true, false, Some, ◌==◌, if◌then◌else◌, refl, sym, ◌∙◌, ap, int_eq}
use Rattle.sfv.specs.Events.{TreeEvent, entry, keyed_entry, begins_item, begins_inner_list, bare_item, parameter}
use Rattle.sfv.specs.Events.{parameters_end, inner_list_end}
use Rattle.sfv.specs.Values.{BareValue, integer, decimal, string, token, byte_sequence, boolean, date, display_string}
use Rattle.sfv_c.specs.Rows.{ValueNumbers, EventNumbers, value_numbers, numbers_of}

abbrev pub value_from : ValueNumbers → BareValue
value_from p =
    if p.kind == 1 then integer p.number
    else if p.kind == 2 then decimal p.number
    else if p.kind == 3 then string p.bytes
    else if p.kind == 4 then token p.bytes
    else if p.kind == 5 then byte_sequence p.bytes
    else if p.kind == 6 then boolean (int_eq p.number (pos 1))
    else if p.kind == 7 then date p.number
    else display_string p.bytes

value_back : (v : BareValue) → value_from (value_numbers (Some v)) ≡ v
value_back (integer z) = refl
value_back (decimal z) = refl
value_back (string s) = refl
value_back (token s) = refl
value_back (byte_sequence s) = refl
value_back (boolean true) = refl
value_back (boolean false) = refl
value_back (date z) = refl
value_back (display_string s) = refl

abbrev pub event_from : EventNumbers → TreeEvent
event_from p =
    if p.tag == 1 then entry
    else if p.tag == 2 then keyed_entry p.key
    else if p.tag == 3 then begins_item
    else if p.tag == 4 then begins_inner_list
    else if p.tag == 5 then bare_item (value_from p.value)
    else if p.tag == 6 then parameter p.key (value_from p.value)
    else if p.tag == 7 then parameters_end
    else inner_list_end

event_back : (e : TreeEvent) → event_from (numbers_of e) ≡ e
event_back entry = refl
event_back (keyed_entry key) = refl
event_back begins_item = refl
event_back begins_inner_list = refl
event_back (bare_item v) = ap bare_item (value_back v)
event_back (parameter key v) = ap (parameter key) (value_back v)
event_back parameters_end = refl
event_back inner_list_end = refl

pub same_event : (a b : TreeEvent) → numbers_of a ≡ numbers_of b → a ≡ b
same_event a b e = sym (event_back a) ∙ (ap event_from e ∙ event_back b)
