-- On how much of the text a Byte Sequence rests.
use Rattle.std.proofs.Common.{◌≡◌, ℕ, ◌<◌, ◌+◌, List, [], ◌∷◌, ◌++◌, length, take, drop, get_or, refl, sym, ◌∙◌, ap}
use Rattle.std.proofs.Common.{true, append_assoc, arith, inl, inr, Option, Some, None, true≢false, not, length-append}
use Rattle.std.proofs.Common.{length-take-le, take-append-drop}
use Rattle.std.{specs.List.{list_all, list_any}, proofs.lemmas.Bool.{not-true, and_parts, cases_Bool}}
use Rattle.std.proofs.lemmas.List.{take_more, drop_more, drop-append-le, Folds.list_all-append}
use Rattle.sfv_spec.proofs.Marks.{colon}
use Rattle.sfv_model.specs.Content.{valid_from, bytes_of, fault_place, is_colon, HasNoColon, content_in, closed_by}
use Rattle.sfv_model.specs.{Content.bytes_at, Judgements.{IsFault, Lasts, Local}, Reader.first}
use Rattle.sfv_model.proofs.base64.{Contents.rejected_at, Shape.valid_local}
use Rattle.sfv_model.proofs.sound.ByteSequences.{content_split, after_colon, read_closed, read_value, read_fault}
use Rattle.sfv_model.proofs.sound.ByteSequences.{read_unclosed, fault_at, front_of}

-- a content goes on to the first colon
pub content_on : (front u : List ℕ) → HasNoColon front → content_in (front ++ u) ≡ front ++ content_in u
unfolding content_in
content_on [] u h = refl
content_on (c ∷ front) u h =
    let p = and_parts (not (is_colon c)) (list_all (λ c. not (is_colon c)) front) h in
    let no = not-true (is_colon c) p.0 in
    rw no (ap (λ (t : List ℕ). c ∷ t) (content_on front u p.1))

apart_front : (m : ℕ) (content : List ℕ) → HasNoColon content → HasNoColon (take m content)
apart_front m content h =
    let both : list_all (λ c. not (is_colon c)) (take m content ++ drop m content) ≡ true =
    rw (take-append-drop m content) h in
    (and_parts (list_all (λ c. not (is_colon c)) (take m content)) _
    (sym (list_all-append (λ c. not (is_colon c)) (take m content) (drop m content)) ∙ both)).0

-- what begins with a malformed content is at fault
fault_complete : (content r : List ℕ) → HasNoColon content → valid_from 0 content < length content
    → IsFault (bytes_at (take (valid_from 0 content + 1) content ++ r))
fault_complete content r h lt =
    let m : ℕ = valid_from 0 content in
    let front : List ℕ = take (m + 1) content in
    let size : length front ≡ m + 1 = length-take-le (m + 1) content (omega arith) in
    let next : List ℕ = content_in (front ++ r) in
    let grown : next ≡ front ++ content_in r = content_on front r (apart_front (m + 1) content h) in
    let valid : valid_from 0 next ≡ m = rw grown (valid_local 0 content (m + 1) (content_in r) (omega arith)
    (omega arith)) in
    let longer : m < length next = omega (arith, ap (length {A = ℕ}) grown, length-append front (content_in r), size) in
    let rejected = rejected_at next m valid longer in
    elim (cases_Bool (list_any is_colon (front ++ r))) [
      | inl y ↦
          let s = content_split (front ++ r) y in
          (_, ap bytes_at s.1 ∙ read_fault next s.0 s.2 rejected.0)
      | inr n ↦ (_, read_unclosed (front ++ r) n)
    ]

lasts_closed : (content rest : List ℕ) (value : Option (List ℕ)) → HasNoColon content → bytes_of content ≡ value
    → Lasts bytes_at (content ++ colon ∷ rest) (closed_by (content ++ colon ∷ rest) content value)
lasts_closed content rest (Some bytes) h e = (
  content ++ colon ∷ [],
  rw (after_colon content rest) (sym (append_assoc content (colon ∷ []) rest)),
  λ r i. rw (append_assoc content (colon ∷ []) r) (read_value content r bytes h e),
)
lasts_closed content rest None h e = λ l. let t = content ++ colon ∷ rest in
    let f = fault_at content l in
    let m : ℕ = valid_from 0 content in
    let d : ℕ = get_or content m 0 in
    let p : take (fault_place content) t ≡ take m content =
    rw f.1 (front_of m content (colon ∷ rest) (omega (arith, f.0))) in
    let more : take (m + 1) content ≡ take m content ++ d ∷ [] = take_more content m 0 f.0 in
    let after : drop (fault_place content) t ≡ d ∷ (drop (m + 1) content ++ colon ∷ rest) =
    rw f.1 (simp (drop-append-le m content (colon ∷ rest) (omega (arith, f.0)), drop_more content m 0 f.0)) in (
      take (fault_place content) t,
      sym (take-append-drop (fault_place content) t),
      λ r i. elim r as (λ (r : List ℕ). first r ≡ first (drop (fault_place content) t)
          → IsFault (bytes_at (take (fault_place content) t ++ r))) [
            | [] ↦ λ i. absurd (let j = rw after at i in cc)
            | c ∷ u ↦ λ i.
                let j = rw after at i in
                let same : c ≡ d = cc in
                let whole : take (fault_place content) t ++ c ∷ u ≡ take (m + 1) content ++ u =
                rw (p, same, more) (sym (append_assoc (take m content) (d ∷ []) u)) in
                rw whole (fault_complete content u h f.0)
          ] i,
    )

-- An answer rests on the bytes up to its place, and on the one that stands there.
pub Local-bytes : Local bytes_at
Local-bytes = record {
  lasts = λ t. elim (cases_Bool (list_any is_colon t)) [
    | inl y ↦
        let s = content_split t y in
        let content : List ℕ = content_in t in
        let r : Lasts bytes_at (content ++ colon ∷ s.0) (bytes_at (content ++ colon ∷ s.0)) =
        rw (read_closed content s.0 s.2) (lasts_closed content s.0 (bytes_of content) s.2 refl) in
        rw s.1 r
    | inr n ↦ rw (read_unclosed t n) (λ l. absurd (true≢false (sym l)))
  ];
}
