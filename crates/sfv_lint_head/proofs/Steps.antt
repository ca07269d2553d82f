-- Lists step by step.
use Rattle.std.proofs.Common.{◌≡◌, ℕ, suc, zero, ◌+◌, ◌-◌, ◌<◌, ◌≤◌, List, [], ◌∷◌, ◌++◌, length, take, drop, get_or}
use Rattle.std.proofs.Common.{refl, sym, ap, ◌∙◌, append_assoc, append-nil, arith, Bool, true, false, eq-eqb, eqb-true}
use Rattle.std.proofs.Common.{◌≢◌, IsTrue, map, slice_index, ◌==◌, if◌then◌else◌, flat_map, ◌||◌, codes, nat_eq}
use Rattle.std.{proofs.Common.{take_all, length-drop}, specs.List.starts_with, specs.Str.str_eq_ignore_ascii_case}
use Rattle.std.proofs.lemmas.{Grind.common_steps, List.{take_more, drop_more, map-append}, List.Elements.filter-append}
use Rattle.httparse.specs.Grammar.{Field, LineEnd, crlf, lf, print_end, print_field, print_section, HasNoSection}
use Rattle.httparse.specs.Spans.{SectionOverflows}
use Rattle.sfv_lint_head.specs.Heads.{first_line, after_line, values_of, line_feeds, names_http}

-- ---- the first line

first_line_one : (b : ℕ) (t : List ℕ) → b ≢ 10 → first_line (b ∷ t) ≡ b ∷ first_line t
first_line_one b t h = grind (arith, common_steps)

after_line_one : (b : ℕ) (t : List ℕ) → b ≢ 10 → after_line (b ∷ t) ≡ after_line t
after_line_one b t h = grind (arith, common_steps)

pub first_line_at : (t : List ℕ) (k : ℕ) → k < length t → IsTrue (slice_index t k == 10)
    → ((i : ℕ) → i < k → ¬ IsTrue (slice_index t i == 10)) → first_line t ≡ take k t
first_line_at [] k h is before = absurd (omega (arith, h))
first_line_at (b ∷ t) zero h is before = let first : b ≡ 10 = eqb-true b 10 is in rw first refl
first_line_at (b ∷ t) (suc k) h is before = first_line_one b t (λ e. before 0 (omega arith) (eq-eqb b 10 e))
    ∙ ap (◌∷◌ b) (first_line_at t k (omega (arith, h)) is (λ i below. before (suc i) (omega (arith, below))))

pub after_line_at : (t : List ℕ) (k : ℕ) → k < length t → IsTrue (slice_index t k == 10)
    → ((i : ℕ) → i < k → ¬ IsTrue (slice_index t i == 10)) → after_line t ≡ drop (suc k) t
after_line_at [] k h is before = absurd (omega (arith, h))
after_line_at (b ∷ t) zero h is before = let first : b ≡ 10 = eqb-true b 10 is in rw first refl
after_line_at (b ∷ t) (suc k) h is before = after_line_one b t (λ e. before 0 (omega arith) (eq-eqb b 10 e))
    ∙ after_line_at t k (omega (arith, h)) is (λ i below. before (suc i) (omega (arith, below)))

pub first_line_none : (t : List ℕ) → ((i : ℕ) → i < length t → ¬ IsTrue (slice_index t i == 10)) → first_line t ≡ t
first_line_none [] before = refl
first_line_none (b ∷ t) before = first_line_one b t (λ e. before 0 (omega arith) (eq-eqb b 10 e))
    ∙ ap (◌∷◌ b) (first_line_none t (λ i below. before (suc i) (omega (arith, below))))

pub after_line_none : (t : List ℕ) → ((i : ℕ) → i < length t → ¬ IsTrue (slice_index t i == 10)) → after_line t ≡ []
after_line_none [] before = refl
after_line_none (b ∷ t) before = after_line_one b t (λ e. before 0 (omega arith) (eq-eqb b 10 e))
    ∙ after_line_none t (λ i below. before (suc i) (omega (arith, below)))

-- ---- the number of fields

end_has_feed : (end : LineEnd) → line_feeds (print_end end) ≡ 1
end_has_feed crlf = refl
end_has_feed lf = refl

feeds-append : (s t : List ℕ) → line_feeds (s ++ t) ≡ line_feeds s + line_feeds t
feeds-append s t = grind (arith, common_steps)

field_has_feed : (name raw : List ℕ) (end : LineEnd) → 1 ≤ line_feeds (name ++ 58 ∷ raw ++ print_end end)
field_has_feed name raw end = omega (arith, feeds-append (name ++ 58 ∷ raw) (print_end end), end_has_feed end)

section_has_feeds : (fields : List Field) (last : LineEnd) → length fields ≤ line_feeds (print_section fields last)
section_has_feeds [] last = omega arith
section_has_feeds (f ∷ fields) last =
    let split : print_section (f ∷ fields) last ≡ print_field f ++ print_section fields last
    = append_assoc (print_field f) (flat_map print_field fields) (print_end last) in
    omega (
      arith,
      ap line_feeds split,
      feeds-append (print_field f) (print_section fields last),
      field_has_feed f.name f.raw f.end,
      section_has_feeds fields last,
    )

-- a section has at most as many fields as line feeds, so it cannot have more
pub no_overflow : (text : List ℕ) → SectionOverflows (line_feeds text) text → HasNoSection text
no_overflow text more fields last rest reads =
    let less : line_feeds text < length fields = more [] fields last rest (rw append-nil reads) in
    omega (
      arith,
      less,
      ap line_feeds reads.1,
      feeds-append (print_section fields last) rest,
      section_has_feeds fields last,
    )

-- ---- the name of a protocol

-- the rest of the line from a byte is the byte and a rest
rest_at : (line : List ℕ) (i : ℕ) → i < length line
    → take (length line - i) (drop i line) ≡ get_or line i 0 ∷ drop (i + 1) line
rest_at line i h = take_all (length line - i) (drop i line) (omega (arith, length-drop i line)) ∙ drop_more line i 0 h

without : (b : ℕ) (bytes : List ℕ) → starts_with nat_eq (b ∷ bytes) (codes "HTTP/") ≡ false
    → names_http (b ∷ bytes) ≡ names_http bytes
without b bytes h = ap (λ (found : Bool). found || names_http bytes) h

module _ (line : List ℕ) (i : ℕ) (h : i < length line) where
  pub names_http_step : starts_with nat_eq (take (length line - i) (drop i line)) (codes "HTTP/") ≡ false
      → names_http (drop i line) ≡ names_http (drop (i + 1) line)
  names_http_step other = rw (drop_more line i 0 h) (without (get_or line i 0) (drop (i + 1) line) (rw (rest_at line i h) at other))

-- ---- the values of a name

pub values_of_push : (name : List ℕ) (lines : List (List ℕ × List ℕ)) (line : List ℕ × List ℕ) (b : Bool)
    → str_eq_ignore_ascii_case line.0 name ≡ b
    → values_of name (lines ++ line ∷ []) ≡ values_of name lines ++ (if b then line.1 ∷ [] else [])
values_of_push name lines line b h = ap (map (λ line. line.1))
    (filter-append (λ line. str_eq_ignore_ascii_case line.0 name) lines (line ∷ [])) ∙ rw (map-append, h) (one b)
  where
    one : (b : Bool) → values_of name lines ++ map (λ line. line.1) (if b then line ∷ [] else [])
        ≡ values_of name lines ++ (if b then line.1 ∷ [] else [])
    one true = refl
    one false = refl

-- one more line
module _ {A B : Type 0} (name : List ℕ) (f : A → List ℕ × List ℕ) (g : B → List ℕ) (xs : List A) (i : ℕ)
    (h : i < length xs) (d : A) (values : List B)
    (so_far : map g values ≡ values_of name (map f (take i xs))) where
  more : (b : Bool) → str_eq_ignore_ascii_case (f (get_or xs i d)).0 name ≡ b
      → values_of name (map f (take (i + 1) xs)) ≡ map g values ++ (if b then (f (get_or xs i d)).1 ∷ [] else [])
  more b e = ap (values_of name) (ap (map f) (take_more xs i d h) ∙ map-append f (take i xs) (get_or xs i d ∷ []))
      ∙ values_of_push name (map f (take i xs)) (f (get_or xs i d)) b e
      ∙ ap (λ (t : List (List ℕ)). t ++ (if b then (f (get_or xs i d)).1 ∷ [] else [])) (sym so_far)

  pub value_kept : (value : B) → str_eq_ignore_ascii_case (f (get_or xs i d)).0 name ≡ true
      → g value ≡ (f (get_or xs i d)).1 → map g (values ++ value ∷ []) ≡ values_of name (map f (take (i + 1) xs))
  value_kept value e same = map-append g values (value ∷ []) ∙ rw same (sym (more true e))

  pub value_left_out : str_eq_ignore_ascii_case (f (get_or xs i d)).0 name ≡ false
      → map g values ≡ values_of name (map f (take (i + 1) xs))
  value_left_out e = sym (more false e ∙ append-nil (map g values))
