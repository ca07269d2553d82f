-- A field is its own ordered value if and only if no key occurs twice in it.
use Rattle.std.proofs.Common.{◌≡◌, ℕ, List, map, sym, ◌∙◌, ap, subst, IsTrue}
use Rattle.std.{specs.List.AllByRecursion, proofs.lemmas.Map.Made.keys_of-map_values}
use Rattle.sfv_spec.specs.Ordered.{collapse, ordered_item, ordered_member, ordered}
use Rattle.sfv_spec.specs.Values.{RawItem, RawInnerList, RawMember, item, inner_list, RawField}
use Rattle.sfv_spec.specs.declared.field_kind.FieldKind.{FieldKind}
use Rattle.sfv_spec.specs.declared.field_kind.FieldKind.TheVariants.{Item as item_field, List as list_field}
use Rattle.sfv_spec.specs.declared.field_kind.FieldKind.TheVariants.{Dictionary as dictionary_field}
use Rattle.sfv_spec.proofs.Collapse.{collapse-distinct, no_repeats-collapse}
use Rattle.sfv_spec.proofs.Each.{each, each_within, each_map, map_own}
use Rattle.sfv_spec.proofs.{Marks.keys, Repeats.{no_repeats, IsOrderedMember, IsOrdered}}

-- ---- parts that are their own ordered values

pub item_own : (i : RawItem) → IsTrue (no_repeats (keys i.parameters)) → ordered_item i ≡ i
item_own i h = λ j. record { bare = i.bare; parameters = collapse-distinct i.parameters h j }

pub inner_list_own : (l : RawInnerList) → AllByRecursion (λ i. ordered_item i ≡ i) l.items
    → IsTrue (no_repeats (keys l.parameters)) → ordered_member (inner_list l) ≡ inner_list l
inner_list_own l h k = λ j. inner_list (record {
  items = map_own ordered_item l.items h j;
  parameters = collapse-distinct l.parameters k j;
})

pub list_own : (ms : List RawMember) → AllByRecursion (λ m. ordered_member m ≡ m) ms → map ordered_member ms ≡ ms
list_own ms h = map_own ordered_member ms h

pub dictionary_own : (ms : List (List ℕ × RawMember)) → IsTrue (no_repeats (keys ms))
    → AllByRecursion (λ m. ordered_member m.1 ≡ m.1) ms → ordered dictionary_field ms ≡ ms
dictionary_own ms k h =
    let f : List ℕ × RawMember → List ℕ × RawMember = λ m. (m.0, ordered_member m.1) in
    ap (map f) (collapse-distinct ms k) ∙ map_own f ms (each_within (λ m e j. (m.0, e j)) ms h)

-- ---- fields

-- a field without repeated keys is its own ordered value
member_same : (m : RawMember) → IsOrderedMember m → ordered_member m ≡ m
member_same (item i) h = ap item (item_own i h)
member_same (inner_list l) h = inner_list_own l (each_within item_own l.items h.0) h.1

pub ordered_same : (kind : FieldKind) (raw : RawField kind) → IsOrdered kind raw → ordered kind raw ≡ raw
ordered_same item_field i h = item_own i h
ordered_same list_field ms h = list_own ms (each_within member_same ms h)
ordered_same dictionary_field ms h = dictionary_own ms h.0 (each_within (λ m k. member_same m.1 k) ms h.1)

-- no key stands twice in what is ordered
is_ordered_member : (m : RawMember) → IsOrderedMember (ordered_member m)
is_ordered_member (item i) = no_repeats-collapse i.parameters
is_ordered_member (inner_list l) = (each_map _ _ _ (each (λ i. no_repeats-collapse _) _), no_repeats-collapse _)

pub is_ordered : (kind : FieldKind) (raw : RawField kind) → IsOrdered kind (ordered kind raw)
is_ordered item_field i = no_repeats-collapse i.parameters
is_ordered list_field ms = each_map IsOrderedMember ordered_member ms (each is_ordered_member ms)
is_ordered dictionary_field ms = (
  subst (λ (ks : List (List ℕ)). IsTrue (no_repeats ks)) (sym (keys_of-map_values ordered_member (collapse ms)))
      (no_repeats-collapse ms),
  each_map _ _ _ (each (λ m. is_ordered_member _) _),
)

-- both directions
pub same_ordered : (kind : FieldKind) (raw : RawField kind) → ordered kind raw ≡ raw → IsOrdered kind raw
same_ordered kind raw e = subst (IsOrdered kind) e (is_ordered kind raw)

-- the ordered value is its own
pub ordered_again : (kind : FieldKind) (raw : RawField kind) → ordered kind (ordered kind raw) ≡ ordered kind raw
ordered_again kind raw = ordered_same kind (ordered kind raw) (is_ordered kind raw)
