-- Fields without repeated keys. Only proofs use these definitions.
use Rattle.std.proofs.Common.{ℕ, List, [], ◌∷◌, Bool, true, not, ◌&&◌, IsTrue, bytes_eq}
use Rattle.std.specs.{List.{list_any, AllByRecursion}, Map.keys_of}
use Rattle.sfv_spec.specs.Values.{RawItem, RawMember, item, inner_list, RawField}
use Rattle.sfv_spec.specs.declared.field_kind.FieldKind.{FieldKind}
use Rattle.sfv_spec.specs.declared.field_kind.FieldKind.TheVariants.{Item as item_field, List as list_field}
use Rattle.sfv_spec.specs.declared.field_kind.FieldKind.TheVariants.{Dictionary as dictionary_field}

-- no key occurs twice
abbrev pub no_repeats : List (List ℕ) → Bool
no_repeats [] = true
no_repeats (k ∷ ks) = not (list_any (bytes_eq k) ks) && no_repeats ks

abbrev pub IsOrderedItem : RawItem → Type 0
IsOrderedItem i = IsTrue (no_repeats (keys_of i.parameters))

abbrev pub IsOrderedMember : RawMember → Type 0
IsOrderedMember (item i) = IsOrderedItem i
IsOrderedMember (inner_list l) = AllByRecursion IsOrderedItem l.items × IsTrue (no_repeats (keys_of l.parameters))

-- a field without repeated keys
abbrev pub IsOrdered : (kind : FieldKind) → RawField kind → Type 0
IsOrdered item_field i = IsOrderedItem i
IsOrdered list_field ms = AllByRecursion IsOrderedMember ms
IsOrdered dictionary_field ms = IsTrue (no_repeats (keys_of ms)) × AllByRecursion (λ m. IsOrderedMember m.1) ms
