-- The text of all elements that an iterator over a list, an inner list or a dictionary returns, and of one element.
use Rattle.std.proofs.Common.{◌≡◌, ◌++◌, ◌∙◌, ℕ, zero, suc, Bool, true, List, [], ◌∷◌, map, refl, sym, ap, subst}
use Rattle.std.proofs.Common.{append-nil, Iter, arith, inl, inr, codes, ◌||◌, Bor, Any}
use Rattle.std.specs.{Iterator.Drains, List.list_any, Map.Iter.{TakesFirst, deref_pair}}
use Rattle.std.{specs.Slice.Iter.{iter_rest, iter_steps}, proofs.lemmas.Simd.map-map}
use Rattle.sfv_spec.specs.{Canonical.{value_text, parameters_text, item_text, dictionary_member_text}, Texts.joined}
use Rattle.sfv_spec.proofs.Given.{newer_has_all}
use Rattle.sfv_writer.specs.Versions.{inner_items, list_members, dictionary_members, parts_text, IsSerializeError}
use Rattle.sfv_writer.specs.Written.{with_separators}
use Rattle.sfv_writer.proofs.{Lent.{slice_gives, map_gives}, Separated.in_a_row_first}
use Rattle.sfv_serializer.proofs.Scripts.{inner_list_ended as ended}
use Rattle.sfv.specs.Field.{canonical, inner_list_text, member_text, BareValue, RawItem, RawParameters, RawMember}
use Rattle.sfv.specs.Field.{item_tree, list_tree, dictionary_tree, list_field, dictionary_field, Rfc9651}
use Rattle.sfv.specs.Types.{Item, ListEntry, SerializeError}
use Rattle.sfv_writer.specs.declared.serialize_error.SerializeError.TheVariants as errors

-- the text of all elements, through a function of each
through : {A B : Type 0} (separator : List ℕ) (text : B → List ℕ) (lent : A → B) (taken : List A) (all : List B)
    → map lent taken ≡ all
    → with_separators true separator (map (λ x. text (lent x)) taken) ≡ joined separator (map text all)
through separator text lent taken all is = in_a_row_first separator (map (λ x. text (lent x)) taken)
    ∙ ap (joined separator) (sym (map-map text lent taken) ∙ ap (map text) is)

-- all members of a list
pub members_all : (s : Iter ListEntry) (taken : List (Bor ListEntry)) → Drains iter_steps s taken
    → parts_text list_members (codes ", ") true taken ≡ canonical list_field (list_tree (iter_rest s))
members_all s taken drained = through _ _ _ _ _ ((slice_gives _ _ _ refl).all taken drained)

-- all items of an inner list
pub items_all : (s : Iter Item) (taken : List (Bor Item)) → Drains iter_steps s taken
    → parts_text inner_items (codes " ") true taken ≡ joined (codes " ") (map item_text (map item_tree (iter_rest s)))
items_all s taken drained = through _ _ _ _ _ ((slice_gives _ _ _ refl).all taken drained)

-- all members of a dictionary
pub entries_all : (es : List (List ℕ × ListEntry)) (taken : List (Bor (List ℕ) × Bor ListEntry))
    → Drains (TakesFirst deref_pair) es taken
    → parts_text dictionary_members (codes ", ") true taken ≡ canonical dictionary_field (dictionary_tree es)
entries_all es taken drained = through _ _ _ _ _ ((map_gives _ _ _ _ refl).all taken drained)

-- ---- one element

pub one_member : (m : RawMember) → canonical list_field (m ∷ []) ≡ member_text m
one_member m = refl

pub one_entry : (key : List ℕ) (m : RawMember) → canonical dictionary_field ((key, m) ∷ []) ≡ dictionary_member_text (key, m)
one_entry key m = refl

pub one_inner_item : (i : RawItem) (ps : RawParameters)
    → inner_list_text (record { items = i ∷ []; parameters = ps }) ≡ codes "(" ++ item_text i ++ codes ")" ++ parameters_text ps
one_inner_item i ps = refl

pub one_parameter : (key : List ℕ) (b : BareValue) → parameters_text ((key, b) ∷ []) ≡ codes ";" ++ key ++ value_text b
one_parameter key b = append-nil (codes ";" ++ key ++ value_text b)

-- ---- an inner list that was begun, written and ended

pub inner_list_ended : (before t1 t2 t3 t4 front : List ℕ) (none : Bool) (items : List RawItem) (params : RawParameters)
    → t1 ≡ before ++ (front ++ codes "(") → t2 ≡ t1 ++ with_separators none (codes " ") (map item_text items) → none ≡ true
    → t3 ≡ t2 ++ codes ")" → t4 ≡ t3 ++ parameters_text params
    → t4 ≡ before ++ (front ++ inner_list_text (record { items = items; parameters = params }))
inner_list_ended before t1 t2 t3 t4 front none items params e1 e2 n e3 e4 =
    ended before t1 t2 t3 t4 front (codes "(") none items params e1 e2 n e3 e4

-- ---- a test or a fact of some element, through a function of each

pub list_any-map : {A B : Type 0} (p : B → Bool) (f : A → B) (ys : List A)
    → list_any p (map f ys) ≡ list_any (λ y. p (f y)) ys
list_any-map p f [] = refl
list_any-map p f (y ∷ ys) = ap (λ (b : Bool). p (f y) || b) (list_any-map p f ys)

module _ {A B : Type 0} (P : B → Type 0) (f : A → B) where
  pub Any-from_map : (ys : List A) → Any P (map f ys) → Any (λ y. P (f y)) ys
  Any-from_map [] h = absurd (omega (arith, h.2))
  Any-from_map (y ∷ ys) (zero, x, lt, is, holds) = (zero, y, omega arith, refl, subst P (sym is) holds)
  Any-from_map (y ∷ ys) (suc k, x, lt, is, holds) =
      let rest = Any-from_map ys (k, x, omega (arith, lt), is, holds) in
      (suc rest.0, rest.1, omega (arith, rest.2), rest.3, rest.4)

  pub Any-map : (ys : List A) → Any (λ y. P (f y)) ys → Any P (map f ys)
  Any-map [] h = absurd (omega (arith, h.2))
  Any-map (y ∷ ys) (zero, x, lt, is, holds) = (zero, f x, omega arith, ap f is, holds)
  Any-map (y ∷ ys) (suc k, x, lt, is, holds) =
      let rest = Any-map ys (k, x, omega (arith, lt), is, holds) in
      (suc rest.0, rest.1, omega (arith, rest.2), rest.3, rest.4)

-- under RFC 9651, which has every value, the error of a call that checks the version is out of memory
pub newer_error : (values : List BareValue) (error : SerializeError) → IsSerializeError Rfc9651 values error
    → error ≡ errors.OutOfMemory
newer_error values error (inl h) = h.0
newer_error values error (inr h) = absurd (newer_has_all values h.0 h.1)
