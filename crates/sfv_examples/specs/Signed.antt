-- What would follow from equal bases without the check for line feeds.
use Rattle.std.specs.Prelude.{◌≡◌, ℕ, List, [], ◌∷◌, length}
use Rattle.sfv.specs.Field.{RawInnerList, inner_list, list_field, IsValue}
use Rattle.sfv_signatures.specs.SignatureBase.{base_text}

-- if any values of the identifiers give the same base, the values are equal
abbrev pub WithoutTheCheck : Type 0
WithoutTheCheck = (l : RawInnerList) (v w : List (List ℕ)) → IsValue list_field (inner_list l ∷ [])
    → length v ≡ length l.items → length w ≡ length l.items → base_text l v ≡ base_text l w → v ≡ w
