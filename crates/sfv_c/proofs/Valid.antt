-- Fields and their events: they are valid together.
use Rattle.std.proofs.Common.{ℕ, List, [], ◌∷◌, ◌++◌, flat_map, sym, subst, append_assoc, append-nil}
use Rattle.std.specs.List.{AllByRecursion}
use Rattle.sfv.specs.Events.{TreeEvent, inner_list_end, parameters_events, item_events, inner_item_events}
use Rattle.sfv.specs.Events.{member_events, entry_events, keyed_events, events}
use Rattle.sfv.specs.Types.{FieldKind, item_field, list_field, dictionary_field}
use Rattle.sfv.specs.Values.{RawParameters, RawItem, RawMember, RawField, item, inner_list, AreParameters, IsItem}
use Rattle.sfv.specs.Values.{IsMember, IsFieldValue}
use Rattle.sfv_c.specs.RowEvents.{IsValidEvent}

-- each has a key and a value of their classes, where it has one
abbrev pub AreValid : List TreeEvent → Type 0
AreValid es = AllByRecursion IsValidEvent es

-- a field whose events are valid is a value
of_parameters : (ps : RawParameters) (es : List TreeEvent) → AreValid (parameters_events ps ++ es)
    → AreParameters ps × AreValid es
of_parameters [] es h = (tt, h.1)
of_parameters (p ∷ ps) es h = let r = of_parameters ps es h.1 in ((h.0, r.0), r.1)

of_item : (i : RawItem) (es : List TreeEvent) → AreValid (item_events i ++ es) → IsItem i × AreValid es
of_item i es h = let r = of_parameters i.parameters es h.1 in ((h.0, r.0), r.1)

of_items : (is : List RawItem) (es : List TreeEvent) → AreValid (flat_map inner_item_events is ++ es)
    → AllByRecursion IsItem is × AreValid es
of_items [] es h = (tt, h)
of_items (i ∷ is) es h =
    let k = subst AreValid (append_assoc (inner_item_events i) (flat_map inner_item_events is) es) h in
    let a = of_item i (flat_map inner_item_events is ++ es) k.1 in
    let b = of_items is es a.1 in
    ((a.0, b.0), b.1)

of_member : (m : RawMember) (es : List TreeEvent) → AreValid (member_events m ++ es) → IsMember m × AreValid es
of_member (item i) es h = of_item i es h.1
of_member (inner_list l) es h =
    let k = subst AreValid
    (append_assoc (flat_map inner_item_events l.items) (inner_list_end ∷ parameters_events l.parameters) es) h.1 in
    let a = of_items l.items (inner_list_end ∷ (parameters_events l.parameters ++ es)) k in
    let b = of_parameters l.parameters es a.1.1 in
    ((a.0, b.0), b.1)

of_list : (ms : List RawMember) → AreValid (flat_map entry_events ms) → AllByRecursion IsMember ms
of_list [] h = tt
of_list (m ∷ ms) h = let a = of_member m (flat_map entry_events ms) h.1 in (a.0, of_list ms a.1)

of_dictionary : (ms : List (List ℕ × RawMember)) → AreValid (flat_map keyed_events ms)
    → IsFieldValue dictionary_field ms
of_dictionary [] h = tt
of_dictionary (m ∷ ms) h =
    let a = of_member m.1 (flat_map keyed_events ms) h.1 in ((h.0, a.0), of_dictionary ms a.1)

pub valid_field : (kind : FieldKind) (raw : RawField kind) → AreValid (events kind raw) → IsFieldValue kind raw
valid_field item_field i h = (of_item i [] (subst AreValid (sym (append-nil (item_events i))) h)).0
valid_field list_field ms h = of_list ms h
valid_field dictionary_field ms h = of_dictionary ms h

-- and the other way round
in_parameters : (ps : RawParameters) (es : List TreeEvent) → AreParameters ps → AreValid es
    → AreValid (parameters_events ps ++ es)
in_parameters [] es v h = (tt, h)
in_parameters (p ∷ ps) es v h = (v.0, in_parameters ps es v.1 h)

in_item : (i : RawItem) (es : List TreeEvent) → IsItem i → AreValid es → AreValid (item_events i ++ es)
in_item i es v h = (v.0, in_parameters i.parameters es v.1 h)

in_items : (is : List RawItem) (es : List TreeEvent) → AllByRecursion IsItem is → AreValid es
    → AreValid (flat_map inner_item_events is ++ es)
in_items [] es v h = h
in_items (i ∷ is) es v h = subst AreValid (sym (append_assoc (inner_item_events i) (flat_map inner_item_events is) es))
    (tt, in_item i (flat_map inner_item_events is ++ es) v.0 (in_items is es v.1 h))

in_member : (m : RawMember) (es : List TreeEvent) → IsMember m → AreValid es → AreValid (member_events m ++ es)
in_member (item i) es v h = (tt, in_item i es v h)
in_member (inner_list l) es v h = (
  tt,
  subst AreValid (sym (append_assoc (flat_map inner_item_events l.items)
      (inner_list_end ∷ parameters_events l.parameters) es)) (in_items l.items
      (inner_list_end ∷ (parameters_events l.parameters ++ es)) v.0 (tt, in_parameters l.parameters es v.1 h)),
)

in_list : (ms : List RawMember) → AllByRecursion IsMember ms → AreValid (flat_map entry_events ms)
in_list [] v = tt
in_list (m ∷ ms) v = (tt, in_member m (flat_map entry_events ms) v.0 (in_list ms v.1))

in_dictionary : (ms : List (List ℕ × RawMember)) → IsFieldValue dictionary_field ms
    → AreValid (flat_map keyed_events ms)
in_dictionary [] v = tt
in_dictionary (m ∷ ms) v = (v.0.0, in_member m.1 (flat_map keyed_events ms) v.0.1 (in_dictionary ms v.1))

pub field_valid : (kind : FieldKind) (raw : RawField kind) → IsFieldValue kind raw → AreValid (events kind raw)
field_valid item_field i v = subst AreValid (append-nil (item_events i)) (in_item i [] v tt)
field_valid list_field ms v = in_list ms v
field_valid dictionary_field ms v = in_dictionary ms v

pub valid_together : (es others : List TreeEvent) → AreValid es → AreValid others → AreValid (es ++ others)
valid_together [] others v w = w
valid_together (e ∷ es) others v w = (v.0, valid_together es others v.1 w)

pub valid_first : (es others : List TreeEvent) → AreValid (es ++ others) → AreValid es
valid_first [] others v = tt
valid_first (e ∷ es) others v = (v.0, valid_first es others v.1)
