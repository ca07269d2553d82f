-- The value of two lines of a field is the value of the lines joined by a comma and a space.
use Rattle.std.proofs.Common.{◌≡◌, ◌∙◌, ℕ, ◌<◌, List, ◌∷◌, ◌++◌, length, ap, sym, arith, map, codes}
use Rattle.std.proofs.lemmas.List.{map-append}
use Rattle.sfv_spec.specs.Ordered.{collapse}
use Rattle.sfv_spec.proofs.Collapse.{collapse-distinct, no_repeats-collapse, entered_all, entered_all-collapse}
use Rattle.sfv_spec.proofs.{Distinct.{is_ordered, ordered_same}, Structure.one_field_lem}
use Rattle.sfv_model.proofs.{Lines.joined_lines_lem, Types.{list_field, dictionary_field, Version}}
use Rattle.sfv.specs.Field.{RawMember, HasMember, IsFieldText, ordered_member, ordered, IsParsedAs}
use Rattle.sfv.proofs.built.Dictionaries.{collapse-over}

-- the value of the first line has the same effect as its members
dictionary_again : (a b : List (List ℕ × RawMember))
    → ordered dictionary_field (ordered dictionary_field a ++ b) ≡ ordered dictionary_field (a ++ b)
dictionary_again a b =
    let g : List ℕ × RawMember → List ℕ × RawMember = λ m. (m.0, ordered_member m.1) in
    let first = sym (collapse-over ordered_member (ordered dictionary_field a ++ b))
    ∙ ap collapse (map-append g (ordered dictionary_field a) b) in
    let same : map g (ordered dictionary_field a) ≡ collapse (map g a) = ap (map g) (sym
    (collapse-distinct (ordered dictionary_field a) (is_ordered dictionary_field a).0)) ∙ ordered_same dictionary_field
    (ordered dictionary_field a) (is_ordered dictionary_field a) ∙ sym (collapse-over ordered_member a) in
    let twice : collapse (collapse (map g a)) ≡ collapse (map g a) =
    collapse-distinct (collapse (map g a)) (no_repeats-collapse (map g a)) in
    let last = sym (ap collapse (map-append g a b)) ∙ collapse-over ordered_member (a ++ b) in
    first ∙ ap (λ (es : List (List ℕ × RawMember)). collapse (es ++ map g b)) same
    ∙ sym (entered_all-collapse (collapse (map g a)) (map g b)) ∙ ap (λ (es : List (List ℕ × RawMember)). entered_all es
    (map g b)) twice ∙ entered_all-collapse (map g a) (map g b) ∙ last

some_member : {A : Type 0} {ms : List A} → (m : A) × (rest : List A) × (ms ≡ m ∷ rest) → 0 < length ms
some_member h = rw h.2 (omega arith)

pub list_in_lines : (version : Version) (s t : List ℕ) (held raw a b : List RawMember)
    → IsParsedAs version list_field s held → IsFieldText version list_field raw t → IsFieldText version list_field a s
    → HasMember list_field a → IsFieldText version list_field b t → HasMember list_field b
    → IsParsedAs version list_field (s ++ codes ", " ++ t) (held ++ ordered list_field raw)
list_in_lines version s t held raw a b h k first m second n =
    let text = (joined_lines_lem version).0 a b s t (some_member m) (some_member n) first second in
    let same : held ≡ ordered list_field a = h.holds ∙ ap (ordered list_field) (sym (h.only a first)) in
    let other : raw ≡ b = one_field_lem version list_field t raw b k second in
    record {
      raw = a ++ b;
      accepted = text;
      only = λ c o. one_field_lem version list_field (s ++ codes ", " ++ t) c (a ++ b) o text;
      holds = rw (same, other) (sym (map-append ordered_member a b));
    }

pub dictionary_in_lines : (version : Version) (s t : List ℕ) (held raw a b : List (List ℕ × RawMember))
    → IsParsedAs version dictionary_field s held → IsFieldText version dictionary_field raw t
    → IsFieldText version dictionary_field a s → HasMember dictionary_field a
    → IsFieldText version dictionary_field b t → HasMember dictionary_field b
    → IsParsedAs version dictionary_field (s ++ codes ", " ++ t) (ordered dictionary_field (held ++ raw))
dictionary_in_lines version s t held raw a b h k first m second n =
    let text = (joined_lines_lem version).1 a b s t (some_member m) (some_member n) first second in
    let same : held ≡ ordered dictionary_field a = h.holds ∙ ap (ordered dictionary_field) (sym (h.only a first)) in
    let other : raw ≡ b = one_field_lem version dictionary_field t raw b k second in
    record {
      raw = a ++ b;
      accepted = text;
      only = λ c o. one_field_lem version dictionary_field (s ++ codes ", " ++ t) c (a ++ b) o text;
      holds = rw (same, other) (dictionary_again a b);
    }
