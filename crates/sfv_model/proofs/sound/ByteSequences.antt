-- What the reader of a Byte Sequence gives.
use Rattle.std.proofs.Common.{◌≡◌, ℕ, zero, suc, ◌<◌, ◌≤◌, ◌+◌, List, [], ◌∷◌, ◌++◌, length, take, drop, replicate, map}
use Rattle.std.proofs.Common.{refl, sym, ◌∙◌, ap, true, false, append_assoc, arith, inl, inr, Option, Some, None, Ok}
use Rattle.std.proofs.Common.{Err, eqb-true, true≢false, ◌==◌, not, drop_at, take-append-drop, drop-drop}
use Rattle.std.{specs.List.{list_all, list_any}, proofs.lemmas.Bool.{not-true, and_parts, eqb-false, cases_Bool}}
use Rattle.std.proofs.lemmas.{Bool.Decides.nat_tests, List.take-append-le, List.Folds.list_all-append}
use Rattle.sfv_spec.{specs.Base64.{IsBase64Text, symbol}, proofs.Marks.{colon, equals_sign, is_symbol}}
use Rattle.sfv_model.specs.Content.{valid_from, bytes_of, fault_place, IsBytesEnd, is_colon, HasNoColon, content_in}
use Rattle.sfv_model.specs.{Content.{content_fault, closed_by, bytes_at}, Judgements.{Reached, Sound, Mute, Quiet}}
use Rattle.sfv_model.{specs.Reader.by_rule, proofs.Types.UnterminatedByteSequence}
use Rattle.sfv_model.proofs.base64.{Contents.{gives_the_bytes, longest_valid}, Shape.are_symbols}
use Rattle.sfv_model.proofs.texts.{Joining.in_turn, Ranges.run_weaker}

-- no colon among symbols, nor in padding
symbol_apart : (c : ℕ) → is_symbol c ≡ true → not (c == colon) ≡ true
unfolding is_symbol
symbol_apart c h = grind (arith, nat_tests)

pub symbols_apart : (cs : List ℕ) → list_all is_symbol cs ≡ true → list_all (λ c. not (c == colon)) cs ≡ true
symbols_apart cs h = run_weaker is_symbol (λ c. not (c == colon)) symbol_apart cs h

pub padding_apart : (n : ℕ) → list_all (λ c. not (c == colon)) (replicate n equals_sign) ≡ true
padding_apart zero = refl
padding_apart (suc n) = padding_apart n

pub both_apart : (x y : List ℕ) → list_all (λ c. not (c == colon)) x ≡ true → list_all (λ c. not (c == colon)) y ≡ true
    → HasNoColon (x ++ y)
both_apart x y h k = list_all-append (λ c. not (c == colon)) x y ∙ rw (h, k) refl

pub no_colon : (u : List ℕ) → list_any (λ c. c == colon) u ≡ false → list_all (λ c. not (c == colon)) u ≡ true
no_colon [] h = refl
no_colon (c ∷ u) h = elim (cases_Bool (c == colon)) [
  | inl p ↦ absurd (true≢false (rw p at h))
  | inr p ↦ rw p (no_colon u (rw p at h))
]

-- the content in front of a colon
pub content_is : (content rest : List ℕ) → HasNoColon content
    → (content_in (content ++ colon ∷ rest) ≡ content) × (list_any is_colon (content ++ colon ∷ rest) ≡ true)
unfolding content_in
content_is [] rest h = (refl, refl)
content_is (c ∷ content) rest h =
    let p = and_parts (not (is_colon c)) (list_all (λ c. not (is_colon c)) content) h in
    let no = not-true (is_colon c) p.0 in
    let r = content_is content rest p.1 in
    rw no (ap (λ (t : List ℕ). c ∷ t) r.0, r.1)

-- and the other way round
pub content_split : (t : List ℕ) → list_any is_colon t ≡ true
    → (rest : List ℕ) × (t ≡ content_in t ++ colon ∷ rest) × HasNoColon (content_in t)
unfolding content_in
content_split [] h = absurd (true≢false (sym h))
content_split (c ∷ t) h = elim (cases_Bool (is_colon c)) [
  | inl y ↦ let e : c ≡ colon = eqb-true c colon y in rw y (t, cc (e), refl)
  | inr n ↦
      let r = content_split t (rw n at h) in
      rw n (r.0, cc (r.1), rw n r.2)
]

-- what stands after the colon
pub after_colon : (content rest : List ℕ) → drop (length content + 1) (content ++ colon ∷ rest) ≡ rest
after_colon content rest = sym (drop-drop 1 (length content) (content ++ colon ∷ rest))
    ∙ rw (drop_at content (colon ∷ rest) (length content) refl) refl

-- on a content and a colon
pub read_closed : (content rest : List ℕ) → HasNoColon content
    → bytes_at (content ++ colon ∷ rest) ≡ closed_by (content ++ colon ∷ rest) content (bytes_of content)
unfolding bytes_at
read_closed content rest h = let c = content_is content rest h in rw (c.1, c.0) refl

pub read_value : (content rest bytes : List ℕ) → HasNoColon content → bytes_of content ≡ Some bytes
    → bytes_at (content ++ colon ∷ rest) ≡ Ok (bytes, rest)
read_value content rest bytes h e = read_closed content rest h ∙ rw e (rw (after_colon content rest) refl)

pub read_fault : (content rest : List ℕ) → HasNoColon content → bytes_of content ≡ None
    → bytes_at (content ++ colon ∷ rest) ≡ Err (content_fault content
    (drop (fault_place content) (content ++ colon ∷ rest)))
read_fault content rest h e = read_closed content rest h ∙ rw e refl

pub read_unclosed : (t : List ℕ) → list_any is_colon t ≡ false → bytes_at t ≡ Err (by_rule UnterminatedByteSequence [])
unfolding bytes_at
read_unclosed t h = rw h refl

-- a text of Base64 has no colon
pub text_apart : (bytes content : List ℕ) → IsBase64Text bytes content → HasNoColon content
text_apart bytes content h = rw h.text (both_apart (map symbol h.values) (replicate h.padding equals_sign)
    (symbols_apart (map symbol h.values) (are_symbols h.values h.in_range.0)) (padding_apart h.padding))

-- a malformed content: its place
pub fault_at : (content : List ℕ) → not (valid_from 0 content == length content) ≡ true
    → (valid_from 0 content < length content) × (fault_place content ≡ valid_from 0 content)
unfolding fault_place
fault_at content h =
    let w = (longest_valid content).within in
    let n = not-true (valid_from 0 content == length content) h in
    let ne = eqb-false (valid_from 0 content) (length content) n in
    let lt : valid_from 0 content < length content = omega (arith, w, ne) in
    (lt, rw n refl)

pub front_of : (m : ℕ) (content rest : List ℕ) → m ≤ length content → take m (content ++ rest) ≡ take m content
front_of m content rest l = take-append-le m content rest l

sound_closed : (content rest : List ℕ) (value : Option (List ℕ)) → bytes_of content ≡ value
    → Reached IsBytesEnd (Mute IsBytesEnd) Quiet (content ++ colon ∷ rest)
    (closed_by (content ++ colon ∷ rest) content value)
sound_closed content rest (Some bytes) e = (
  content ++ colon ∷ [],
  rw (after_colon content rest) (sym (append_assoc content (colon ∷ []) rest)),
  in_turn content (colon ∷ []) ((gives_the_bytes content bytes).1 e) refl,
)
sound_closed content rest None e =
    let t : List ℕ = content ++ colon ∷ rest in (
      λ l.
          let f = fault_at content l in
          let b = (longest_valid content).holds in
          let p : take (fault_place content) t ≡ take (valid_from 0 content) content =
          rw f.1 (front_of (valid_from 0 content) content (colon ∷ rest) (omega (arith, f.0))) in
          record {
            front = take (fault_place content) t;
            more = b.0 ++ colon ∷ [];
            parts = sym (take-append-drop (fault_place content) t);
            holds = (
              b.1,
              record {
                front = take (valid_from 0 content) content ++ b.0;
                back = colon ∷ [];
                text = rw p (sym (append_assoc (take (valid_from 0 content) content) b.0 (colon ∷ [])));
                first = b.2;
                second = refl;
              },
              refl,
            );
          },
      λ l. (refl, refl),
    )

-- What is read is a Byte Sequence, and an exact fault stands after a beginning of one.
pub Sound-bytes : Sound bytes_at IsBytesEnd (Mute IsBytesEnd) Quiet
Sound-bytes = record {
  sound = λ t. elim (cases_Bool _) [
    | inl y ↦
        let s = content_split _ y in
        let content : List ℕ = content_in t in
        let r : Reached IsBytesEnd (Mute IsBytesEnd) Quiet (content ++ colon ∷ s.0)
        (bytes_at (content ++ colon ∷ s.0)) = rw (read_closed content s.0 s.2) (sound_closed _ _ _ refl) in
        rw s.1 r
    | inr n ↦ rw (read_unclosed t n) (λ l. absurd (true≢false (sym l)), λ l. (refl, refl))
  ];
}
