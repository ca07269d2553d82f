-- The lines that a head's spans cover are those of its fields.
use Rattle.std.proofs.Common.{◌≡◌, ℕ, List, [], ◌∷◌, take, refl, ap, ◌∙◌, inl, inr, map, filter, codes}
use Rattle.std.proofs.lemmas.Bool.{cases_Bool}
use Rattle.httparse.specs.{Grammar.{Field, field_value}, Spans.{header_bytes, name_and_value, IsRequestOf}}
use Rattle.httparse.specs.declared.spans.{HeaderSpan.HeaderSpan, RequestSpans.RequestSpans}
use Rattle.sfv.specs.Texts.{joined}
use Rattle.sfv_http_fields.specs.{Lines.{lines_of, text_of_lines}, Requests.{is_named, IsRequestField}}

lines_of_fields : (name : List ℕ) (fields : List Field)
    → lines_of name (map name_and_value fields) ≡ map field_value (filter (is_named name) fields)
lines_of_fields name [] = refl
lines_of_fields name (f ∷ fs) = elim (cases_Bool (is_named name f)) [
  | inl y ↦ rw (y) (ap (λ (vs : List (List ℕ)). field_value f ∷ vs) (lines_of_fields name fs))
  | inr n ↦ rw (n) (lines_of_fields name fs)
]

-- so their joined text is that of the head's field
pub request_text : (name input : List ℕ) (headers : List HeaderSpan) (head : RequestSpans) (text : List ℕ)
    → IsRequestOf input headers head → text ≡ text_of_lines name (map (header_bytes input) (take head.headers headers))
    → IsRequestField name input text
request_text name input headers head text found same = (
  found.0,
  _,
  found.1.reads,
  same ∙ ap (text_of_lines name) found.1.fields ∙ ap (joined (codes ", ")) (lines_of_fields name found.0.fields),
)
