-- The brands of a list with one more member.
use Rattle.std.proofs.Common.{◌≡◌, ℕ, List, [], ◌∷◌, ◌++◌, Option, Some, None, refl, sym, ap, subst, ◌∙◌, append-nil}
use Rattle.std.proofs.Common.{◌≢◌, Bool, true, false, map, filter_map, option_map}
use Rattle.std.proofs.lemmas.List.{map-append, Elements.filter_map-append}
use Rattle.sfv_readers.specs.Field.{RawMember, head_of, parameters_of, Version, list_field, IsParsedAs}
use Rattle.sfv_http_fields.specs.SecChUa.{BrandValue, brand_in, brand_of, brand_value, HasBrand, AreSoFar}
use Rattle.sfv_http_fields.specs.declared.sec_ch_ua.Brand.{Brand}

found : {X Y : Type 0} (h : X → Option Y) (x : X) (y : Y) → h x ≡ Some y → filter_map h (x ∷ []) ≡ y ∷ []
found h x y is = rw is refl

none_found : {X Y : Type 0} (h : X → Option Y) (x : X) → h x ≡ None → filter_map h (x ∷ []) ≡ []
none_found h x is = rw is refl

not_empty : {X : Type 0} (xs : List X) (x : X) → xs ++ x ∷ [] ≢ []
not_empty [] x h = absurd (cc)
not_empty (y ∷ xs) x h = absurd (cc)

-- one more brand: it is kept, or there is one anyway
grown : (is_cut : Bool) (found brands : List BrandValue) (b : BrandValue) → AreSoFar is_cut found brands
    → AreSoFar is_cut (found ++ b ∷ []) (brands ++ b ∷ [])
grown false found brands b h = ap (λ (xs : List BrandValue). xs ++ b ∷ []) h
grown true found brands b h = not_empty brands b

module _ (member : Option Brand) (m : RawMember) (ms : List RawMember)
    (kept : option_map brand_value member ≡ brand_in (head_of m) (parameters_of m)) where
  one_more : (brand : Brand) → member ≡ Some brand
      → filter_map brand_of (ms ++ m ∷ []) ≡ filter_map brand_of ms ++ brand_value brand ∷ []
  one_more brand is = filter_map-append brand_of ms (m ∷ [])
      ∙ rw (found brand_of m (brand_value brand) (sym (rw is at kept))) refl

  pub not_pushed : (brand : Brand) → member ≡ Some brand → filter_map brand_of (ms ++ m ∷ []) ≢ []
  not_pushed brand is = λ none. not_empty (filter_map brand_of ms) (brand_value brand) (sym (one_more brand is) ∙ none)

  module _ (is_cut : Bool) (brands : List Brand) where
    pub pushed : (after : List Brand) → AreSoFar is_cut (map brand_value brands) (filter_map brand_of ms)
        → (brand : Brand) → member ≡ Some brand → after ≡ brands ++ brand ∷ []
        → AreSoFar is_cut (map brand_value after) (filter_map brand_of (ms ++ m ∷ []))
    pushed after so_far brand is put = subst (λ (xs : List BrandValue). AreSoFar is_cut xs
        (filter_map brand_of (ms ++ m ∷ []))) (sym (ap (λ (xs : List Brand). map brand_value xs) put
        ∙ map-append brand_value brands (brand ∷ []))) (subst (λ (xs : List BrandValue). AreSoFar is_cut
        (map brand_value brands ++ brand_value brand ∷ []) xs) (sym (one_more brand is))
        (grown is_cut (map brand_value brands) (filter_map brand_of ms) (brand_value brand) so_far))

    pub left_out : AreSoFar is_cut (map brand_value brands) (filter_map brand_of ms) → member ≡ None
        → AreSoFar is_cut (map brand_value brands) (filter_map brand_of (ms ++ m ∷ []))
    left_out so_far is = subst (λ (xs : List BrandValue). AreSoFar is_cut (map brand_value brands) xs)
        (sym (filter_map-append brand_of ms (m ∷ [])
        ∙ rw (none_found brand_of m (sym (rw is at kept))) (append-nil (filter_map brand_of ms)))) so_far

-- memory ran out at a brand, so the list has one
pub has_brand : (version : Version) (t : List ℕ) (is_cut : Bool) (found : List BrandValue) (value : List RawMember)
    → IsParsedAs version list_field t value → AreSoFar is_cut found (filter_map brand_of value) → is_cut ≡ true
    → HasBrand version t
has_brand version t is_cut found value parsed h is = (
  filter_map brand_of value,
  (value, parsed, refl),
  subst (λ (b : Bool). AreSoFar b found (filter_map brand_of value)) is h,
)
