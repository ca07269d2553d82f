-- The faults of Byte Sequences, and what shows that there are no others.
use Rattle.std.proofs.Common.{◌≡◌, ℕ, ◌+◌, List, [], ◌∷◌, ◌++◌, drop, refl, sym, ◌∙◌, ap, subst, false, inl, inr}
use Rattle.std.proofs.Common.{Option, Some, None, Ok, Err, not, drop-drop}
use Rattle.std.{specs.List.{list_all, list_any}, proofs.lemmas.Bool.{and_parts, cases_Bool, not-true}}
use Rattle.sfv_spec.{specs.declared.error_kind.ErrorKind.TheVariants.UnterminatedByteSequence, proofs.Marks.colon}
use Rattle.sfv_model.specs.Claims.{IsBytesFault}
use Rattle.sfv_model.specs.Content.{bytes_of, fault_place, is_colon, HasNoColon, content_in, content_fault, closed_by}
use Rattle.sfv_model.specs.{Content.{bytes_at, IsBytesAt, IsInvalidAt}, Reader.{Fault, by_rule}}
use Rattle.sfv_model.proofs.sound.ByteSequences.{no_colon, content_split, read_closed, read_value, read_fault}
use Rattle.sfv_model.proofs.sound.ByteSequences.{read_unclosed}

-- a text without a colon has none
pub no_colon_any : (u : List ℕ) → HasNoColon u → list_any is_colon u ≡ false
no_colon_any [] h = refl
no_colon_any (c ∷ u) h =
    let p = and_parts (not (is_colon c)) (list_all (λ c. not (is_colon c)) u) h in
    rw (not-true (is_colon c) p.0) (no_colon_any u p.1)

-- Exactly these faults are given.
closed_fault : (content rest : List ℕ) (e : Fault) (value : Option (List ℕ)) → HasNoColon content
    → bytes_of content ≡ value → closed_by (content ++ colon ∷ rest) content value ≡ Err e
    → IsBytesFault (content ++ colon ∷ rest) e
closed_fault content rest e (Some bytes) h v i = absurd cc
closed_fault content rest e None h v i =
    let same : content_fault content (drop (fault_place content) (content ++ colon ∷ rest)) ≡ e = cc in
    inr (content, rest, refl, h, v, sym same)

pub bytes_fault : (t : List ℕ) (e : Fault) → bytes_at t ≡ Err e → IsBytesFault t e
bytes_fault t e i = elim (cases_Bool _) [
  | inl y ↦
      let s = content_split _ y in
      let content : List ℕ = content_in t in
      subst (λ (t : List ℕ). IsBytesFault t e) (sym s.1) (closed_fault _ _ _ _ s.2 refl (sym (read_closed _ _ s.2) ∙ ap
      bytes_at (sym s.1) ∙ i))
  | inr n ↦
      let both = sym (read_unclosed _ n) ∙ i in
      let same : by_rule UnterminatedByteSequence [] ≡ e = cc in
      inl (no_colon t n, sym same)
]

-- what a reading from a place answers, as the reader says it
pub gives_value : (input bytes : List ℕ) (start end : ℕ) → IsBytesAt input start bytes end
    → bytes_at (drop start input) ≡ Ok (bytes, drop (end + 1) input)
gives_value input bytes start end h = rw h.closed.text (read_value _ _ _ h.closed.no_colon h.value)

pub gives_fault : (input : List ℕ) (start index : ℕ) (h : IsInvalidAt input start index)
    → bytes_at (drop start input) ≡ Err (content_fault h.content (drop index input))
gives_fault input start index h =
    let r = read_fault h.content (drop (h.end + 1) input) h.closed.no_colon h.no_value in
    let e : bytes_at (drop start input) ≡ Err (content_fault h.content
    (drop (fault_place h.content) (drop start input))) = rw h.closed.text r in
    e ∙ rw (drop-drop (fault_place h.content) start input, h.here) refl

-- the fault of a text in which no colon follows
pub gives_unclosed : (input : List ℕ) (start : ℕ) → HasNoColon (drop start input)
    → bytes_at (drop start input) ≡ Err (by_rule UnterminatedByteSequence [])
gives_unclosed input start h = read_unclosed (drop start input) (no_colon_any (drop start input) h)
