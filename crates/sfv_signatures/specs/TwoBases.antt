-- Two inner lists and messages whose bases are compared.
use Rattle.std.specs.Prelude.{◌≡◌, ◌⊎◌, ℕ, List, Bool, IsTrue, bytes_eq}
use Rattle.sfv.specs.Trees.{inner_list_tree}
use Rattle.sfv.specs.Types.{InnerList}
use Rattle.sfv_signatures.specs.SignatureBase.{Message, IsBaseOf, AgreeOn}
use Rattle.sfv_signatures.specs.Components.{IsBaseError}
use Rattle.sfv_signatures.specs.declared.base_error.BaseError.{BaseError}

-- both have a base, and `same` is whether the two are equal
abbrev pub IsSameBase : Message → Message → InnerList → InnerList → Bool → Type 0
IsSameBase a b l m same = (t u : List ℕ) × IsBaseOf a (inner_list_tree l) t × IsBaseOf b (inner_list_tree m) u
    × (same ≡ bytes_eq t u)

-- if they are the same, the lists are equal, and each component has the same value in both messages
abbrev pub AgreeIf : Message → Message → InnerList → InnerList → Bool → Type 0
AgreeIf a b l m same = IsTrue same → (inner_list_tree l ≡ inner_list_tree m) × AgreeOn a b (inner_list_tree l)

-- the error of the first, or of the second
abbrev pub IsEitherError : Message → Message → InnerList → InnerList → BaseError → Type 0
IsEitherError a b l m error = IsBaseError a (inner_list_tree l) error ⊎ IsBaseError b (inner_list_tree m) error
