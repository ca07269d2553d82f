-- With line feeds in values, one text is the base of different values.
use Rattle.std.proofs.Common.{◌≡◌, ℕ, List, [], ◌∷◌, refl, codes}
use Rattle.sfv.specs.{Field.{RawItem, RawInnerList, string}, Ordered.{last_of, collapse}}
use Rattle.sfv_examples.specs.Signed.{WithoutTheCheck}

-- a name without parameters
abbrev named : List ℕ → RawItem
named name = record { bare = string name; parameters = [] }

-- two identifiers
two : RawInnerList
two = record { items = named (codes "a") ∷ named (codes "b") ∷ []; parameters = [] }

one_way : List (List ℕ)
one_way = codes "x" ∷ codes "y\n\"b\": z" ∷ []

another_way : List (List ℕ)
another_way = codes "x\n\"b\": y" ∷ codes "z" ∷ []

pub ambiguous : ¬ WithoutTheCheck
unfolding two one_way another_way last_of collapse
ambiguous law =
    let same : one_way ≡ another_way = law two one_way another_way
    (record { parts = ((((refl, tt), ((refl, tt), tt)), tt), tt); distinct = refl }) refl refl refl in
    absurd (cc)
