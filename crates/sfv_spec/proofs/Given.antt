-- A first value that doesn't fit a version.
use Rattle.std.proofs.{Common.{◌≡◌, not, List, [], ◌∷◌, ◌++◌, refl, Some, find}, lemmas.List.Folds.find-append}
use Rattle.sfv_spec.specs.Values.{BareValue, AllFit, fits_bare}
use Rattle.sfv_spec.specs.declared.version.Version.{Version, TheVariants.Rfc9651}

-- a value that is found is found in front of others too, and after values that fit
pub found_front : (version : Version) (bs cs : List BareValue) (b : BareValue)
    → find (λ v. not (fits_bare version v)) bs ≡ Some b → find (λ v. not (fits_bare version v)) (bs ++ cs) ≡ Some b
found_front version bs cs b e = rw (find-append (λ v. not (fits_bare version v)) bs cs, e) refl

pub found_after : (version : Version) (bs cs : List BareValue) (b : BareValue) → AllFit version bs
    → find (λ v. not (fits_bare version v)) cs ≡ Some b → find (λ v. not (fits_bare version v)) (bs ++ cs) ≡ Some b
found_after version [] cs b f e = e
found_after version (v ∷ vs) cs b f e = rw f.0 (found_after version vs cs b f.1 e)

-- RFC 9651 has all of them
pub newer_has_all : (values : List BareValue) (b : BareValue)
    → find (λ v. not (fits_bare Rfc9651 v)) values ≡ Some b → ⊥
newer_has_all [] b h = absurd cc
newer_has_all (v ∷ vs) b h = newer_has_all vs b h
