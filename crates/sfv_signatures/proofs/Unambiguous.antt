-- The signature base is unambiguous.
use Rattle.std.proofs.Common.{◌≡◌, ℕ, List, [], ◌∷◌, ◌++◌, length, map, refl, sym, ◌∙◌, subst, true, arith, codes}
use Rattle.std.{proofs.Common.{bytes_eq, zip}, specs.List.AllByRecursion}
use Rattle.std.proofs.lemmas.{Bool.Decides.nat_tests, List.append_cancel_left, Slice.Eq.bytes_eq-Decides}
use Rattle.sfv.specs.{Canonical.{item_text, inner_list_text}, Classes.is_string_byte, Texts.RunOf, Types.list_field}
use Rattle.sfv.specs.Values.{RawItem, RawInnerList, inner_list, IsItem}
use Rattle.sfv.proofs.Callers.{equal_texts_lem, run_append, run_weaker, item_printable, inner_list_printable}
use Rattle.sfv_signatures.specs.SignatureBase.{component_line, params_line, AreComponents, OneBase, Message, IsBaseOf}
use Rattle.sfv_signatures.specs.SignatureBase.{AgreeOn, OneMessage, HaveValues}
use Rattle.sfv_signatures.proofs.{Feeds.{is_line_byte, Line, same_lines}, Rules.base_components}

printable_line : (c : ℕ) → is_string_byte c ≡ true → is_line_byte c ≡ true
printable_line c h = grind (arith, nat_tests)

one_line : (t : List ℕ) → RunOf is_string_byte t → Line t
one_line t h = run_weaker is_string_byte is_line_byte printable_line t h

-- each component has one line
component_lines : (is : List RawItem) (vs : List (List ℕ)) → AllByRecursion IsItem is → AllByRecursion Line vs
    → AllByRecursion (λ c. Line (component_line c)) (zip is vs)
component_lines [] vs h k = tt
component_lines (i ∷ is) [] h k = tt
component_lines (i ∷ is) (v ∷ vs) h k = (
  run_append is_line_byte (item_text i ++ codes ": ") v (run_append is_line_byte (item_text i) (codes ": ")
      (one_line (item_text i) (item_printable i h.0)) refl) k.0,
  component_lines is vs h.1 k.1,
)

-- the parts of equal lists
cons_parts : {A : Type 0} (x y : A) (xs ys : List A) → x ∷ xs ≡ y ∷ ys → (x ≡ y) × (xs ≡ ys)
cons_parts x y xs ys e = (cc, cc)

cons_same : {A : Type 0} (x y : A) (xs ys : List A) → x ≡ y → xs ≡ ys → x ∷ xs ≡ y ∷ ys
cons_same x y xs ys h k = cc

-- lines of the same identifiers have the same values
same_values : (is : List RawItem) (v w : List (List ℕ)) → length v ≡ length is → length w ≡ length is
    → map component_line (zip is v) ≡ map component_line (zip is w) → v ≡ w
same_values [] [] [] p q e = refl
same_values [] [] (y ∷ w) p q e = absurd (omega (arith, q))
same_values [] (x ∷ v) w p q e = absurd (omega (arith, p))
same_values (i ∷ is) [] w p q e = absurd (omega (arith, p))
same_values (i ∷ is) (x ∷ v) [] p q e = absurd (omega (arith, q))
same_values (i ∷ is) (x ∷ v) (y ∷ w) p q e =
    let c = cons_parts (component_line (i, x)) (component_line (i, y)) (map component_line (zip is v))
    (map component_line (zip is w)) e in
    cons_same x y v w (append_cancel_left (item_text i ++ codes ": ") x y c.0)
    (same_values is v w (omega (arith, p)) (omega (arith, q)) c.1)

-- the last line is one
last_line : (l : RawInnerList) (v : List (List ℕ)) → AreComponents l v → Line (params_line l)
last_line l v h = run_append is_line_byte (codes "\"@signature-params\": ") (inner_list_text l) refl
    (one_line (inner_list_text l) (inner_list_printable l h.list.parts.0))

pub one_base_lem : OneBase
one_base_lem l m v w h k e =
    let s = same_lines component_line (zip l.items v) (zip m.items w) (params_line l) (params_line m)
    (component_lines l.items v h.list.parts.0.0 h.lines) (component_lines m.items w k.list.parts.0.0 k.lines)
    (last_line l v h) (last_line m w k) e in
    let texts = append_cancel_left (codes "\"@signature-params\": ") (inner_list_text l) (inner_list_text m) s.1 in
    let members = (equal_texts_lem list_field (inner_list l ∷ []) (inner_list m ∷ []) h.list.parts k.list.parts).0 texts in
    let lists : l ≡ m = cc in (
      lists,
      same_values l.items v w h.counted (subst (λ n. length w ≡ length n.items) (sym lists) k.counted)
          (subst (λ n. map component_line (zip l.items v) ≡ map component_line (zip n.items w)) (sym lists) s.0),
    )

pub one_message_lem : (a b : Message) → OneMessage a b
one_message_lem a b l m t h k =
    let s = one_base_lem l m h.values k.values (base_components a l t h) (base_components b m t k) (sym h.text ∙ k.text) in
    let found : HaveValues b [] l.items k.values = subst (λ (n : RawInnerList). HaveValues b [] n.items k.values) (sym s.0) k.found in
    (s.0, (h.values, h.found, subst (λ v. HaveValues b [] l.items v) (sym s.1) found))

-- the same for two texts that are compared, each seen as a text of a base
pub same_base_agrees : (a b : Message) (l m : RawInnerList) (s u t v : List ℕ) → s ≡ t → u ≡ v → bytes_eq s u ≡ true
    → IsBaseOf a l t → IsBaseOf b m v → (l ≡ m) × AgreeOn a b l
same_base_agrees a b l m s u t v p q same h k =
    one_message_lem a b l m t h (subst (IsBaseOf b m) (sym q ∙ sym ((bytes_eq-Decides s u).0 same) ∙ p) k)
