-- The integers of the items after one more item.
use Rattle.std.proofs.{Common.{◌≡◌, List, [], ◌∷◌, ◌++◌}, lemmas.List.Elements.filter_map-append}
use Rattle.sfv_readers.specs.Field.{RawItem}
use Rattle.sfv_examples.specs.Rows.{integer_in, integers_of}

pub one_more : (items : List RawItem) (i : RawItem) → integers_of (items ++ i ∷ []) ≡ integers_of items ++ integers_of (i ∷ [])
one_more items i = filter_map-append (λ i. integer_in i.bare) items (i ∷ [])
