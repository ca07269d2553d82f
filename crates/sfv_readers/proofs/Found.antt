-- From the visitor's result to the reader's state after the value.
use Rattle.std.proofs.Common.{◌≡◌, ℕ, List, [], None, sym, subst}
use Rattle.sfv.specs.Field.{RawParameters, RawItem, RawMember, list_field, dictionary_field, Version, ordered}
use Rattle.sfv.proofs.Callers.{Answers, parsed_as}
use Rattle.sfv_readers.specs.{Steps.{ListTakes, DictionaryTakes}, Words.{Head, IsReadBy}}
use Rattle.sfv_readers.specs.declared.{dictionary.DictionaryVisitor.DictionaryVisitor, list.ListVisitor.ListVisitor}
use Rattle.sfv_readers.proofs.{DictionarySteps.dictionary_read, ListSteps.list_read}

pub list_found : {R M I : Type 0} (inner : I → List RawItem → Type 0) (keeps : R → M → Head → RawParameters → Type 0)
    (reads : R → R → List RawMember → Type 0) (first : R) {version : Version} {t : List ℕ} {from : ListVisitor R M I}
    {out : R} → from.items ≡ None → reads first from.reader [] → Answers (ListTakes inner keeps reads)
    (λ s found. found ≡ s.reader) version list_field t from out → IsReadBy version list_field (reads first) t out
list_found inner keeps reads first {version} {t} {from} w start h = (
  ordered list_field h.raw,
  parsed_as version list_field t h.raw h.accepted,
  subst (λ r. reads first r (ordered list_field h.raw)) (sym h.holds.2)
      (list_read inner keeps reads first h.raw from h.holds.0 w start h.holds.1),
)

pub dictionary_found : {R K I : Type 0} (inner : I → List RawItem → Type 0) (text : R → K → List ℕ)
    (reads : R → R → List (List ℕ × RawMember) → Type 0) (first : R)
    {version : Version} {t : List ℕ} {from : DictionaryVisitor R K I} {out : R} → reads first from.reader []
    → Answers (DictionaryTakes inner text reads) (λ s found. found ≡ s.reader) version dictionary_field t from out
    → IsReadBy version dictionary_field (reads first) t out
dictionary_found inner text reads first {version} {t} {from} start h = (
  ordered dictionary_field h.raw,
  parsed_as version dictionary_field t h.raw h.accepted,
  subst (λ r. reads first r (ordered dictionary_field h.raw)) (sym h.holds.2)
      (dictionary_read inner text reads first h.raw from h.holds.0 start h.holds.1),
)
