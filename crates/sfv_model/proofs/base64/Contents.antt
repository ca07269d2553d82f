-- What a content stands for, and where one that stands for nothing is at fault.
use Rattle.std.proofs.Common.{◌≡◌, ℕ, zero, suc, ◌<◌, ◌≤◌, ◌+◌, ◌-◌, ◌*◌, ◌%◌, List, [], ◌∷◌, ◌++◌, length, map, take}
use Rattle.std.proofs.Common.{replicate, refl, sym, ◌∙◌, ap, subst, Bool, true, false, append_assoc, arith, inl, inr}
use Rattle.std.proofs.Common.{Some, None, ◌==◌, not, ◌&&◌, flat_map, eqb-true, eq-eqb, ne_eqb, length-append}
use Rattle.std.{proofs.Common.{append-nil, take_at, length-take-le}, specs.List.list_all}
use Rattle.std.proofs.lemmas.Bool.{and_parts, eqb-false, not-true, both_ways, cases_Bool, Decides.nat_tests}
use Rattle.std.proofs.lemmas.List.{length-map, length-replicate, nil_from_length, Folds.list_all-append}
use Rattle.sfv_spec.specs.{Base64.{symbol, bits, IsBase64Text}, Texts.IsLongestBeginning}
use Rattle.sfv_spec.proofs.{Bytes.bytes_settle, Lengths.length-all_bits}
use Rattle.sfv_spec.proofs.{Marks.{colon, equals_sign, upper_a, is_symbol, BeginsBase64}, Settled.NotBegun}
use Rattle.sfv_model.specs.Claims.{GivesTheBytes}
use Rattle.sfv_model.specs.Content.{symbol_value, most_padding, valid_from, values_in, bytes_from, bytes_of}
use Rattle.sfv_model.{specs.Content.fault_place, proofs.base64.Bits.{spare_of, same_bits, spare_length, bytes_within}}
use Rattle.sfv_model.proofs.base64.Shape.{shape_of, shape_valid, are_symbols, are_values, symbols-values}
use Rattle.sfv_model.proofs.base64.Shape.{values-symbols, valid_local, valid_run, padding-padded, padding-nil}

few_spare : (n : ℕ) → 2 * most_padding n < 6
few_spare n = grind (arith, nat_tests)

-- symbols and padding that are Base64
pub well_formed : (run : List ℕ) (padding : ℕ) → list_all is_symbol run ≡ true → padding ≤ most_padding (length run)
    → ¬ (length run % 4 ≡ 1) → IsBase64Text (bytes_from (map symbol_value run)) (run ++ replicate padding equals_sign)
well_formed run padding h most one =
    let vs : List ℕ = map symbol_value run in
    let same : length vs ≡ length run = length-map run symbol_value in
    let in_range = are_values run h in
    let lone : ¬ (length vs % 4 ≡ 1) = λ e. one (omega (arith, e, same)) in
    let spare = spare_length vs lone in
    let counted : length (spare_of vs) ≡ 2 * most_padding (length run) = rw same at spare in
    record {
      values = vs;
      padding = padding;
      spare = spare_of vs;
      text = ap (λ (t : List ℕ). t ++ replicate padding equals_sign) (sym (symbols-values run h));
      in_range = (in_range, bytes_within vs in_range);
      same_bits = same_bits vs in_range lone;
      few_spare = omega (arith, counted, few_spare (length run));
      padded = omega (arith, counted, most);
    }

-- how many symbols and how much padding a text of Base64 has
pub counted : (bytes t : List ℕ) (h : IsBase64Text bytes t)
    → (¬ (length h.values % 4 ≡ 1)) × (h.padding ≤ most_padding (length h.values))
counted bytes t h =
    let total : 6 * length h.values ≡ 8 * length bytes + length h.spare =
    sym (length-all_bits _ _) ∙ ap (length {A = Bool}) h.same_bits
    ∙ length-append (flat_map (bits 8) bytes) h.spare ∙ ap (λ n. n + length h.spare) (length-all_bits _ _) in
    let n : ℕ = length h.values in
    let few = h.few_spare in
    let padded = h.padded in (λ e. absurd (omega (arith, total, e, few)), grind (arith, nat_tests, total, few, padded))

no_symbol : (n : ℕ) → NotBegun is_symbol (replicate n equals_sign ++ [])
unfolding is_symbol
no_symbol zero = refl
no_symbol (suc n) = refl

-- what stands in the text of bytes
pub read_back : (bytes t : List ℕ) (h : IsBase64Text bytes t) → (valid_from 0 t ≡ length t) × (values_in t ≡ h.values)
read_back bytes t h =
    let run : List ℕ = map symbol h.values in
    let many : length run ≡ length h.values = length-map h.values symbol in
    let most : h.padding ≤ most_padding (0 + length run) = let z : 0 + length run ≡ length h.values =
    omega (arith, many) in rw z (counted bytes t h).1 in
    let text : t ≡ run ++ (replicate h.padding equals_sign ++ []) = simp (h.text, append-nil) in
    let apart : NotBegun is_symbol (replicate h.padding equals_sign ++ []) = no_symbol h.padding in
    let v = valid_run 0 run (replicate h.padding equals_sign ++ []) (are_symbols h.values h.in_range.0) apart in
    let p = padding-padded (most_padding (0 + length run)) h.padding [] most (inr refl) in
    let size : length t ≡ length run + h.padding = rw (h.text, length-append, length-replicate h.padding equals_sign)
    refl in (
      ap (valid_from 0) text ∙ v.0 ∙ ap (λ n. length run + n) p ∙ sym size,
      simp (text, v.1, values-symbols h.values h.in_range.0),
    )

-- the two tests of a content
abbrev accepted : List ℕ → Bool
accepted content = valid_from 0 content == length content && not (length (values_in content) % 4 == 1)

bytes_accepted : (content : List ℕ) → accepted content ≡ true → bytes_of content ≡ Some (bytes_from (values_in content))
unfolding bytes_of
bytes_accepted content h = rw h refl

bytes_rejected : (content : List ℕ) → accepted content ≡ false → bytes_of content ≡ None
unfolding bytes_of
bytes_rejected content h = rw h refl

-- what is accepted is Base64
accepted_text : (content : List ℕ) → accepted content ≡ true → IsBase64Text (bytes_from (values_in content)) content
accepted_text content h =
    let p = and_parts (valid_from 0 content == length content) (not (length (values_in content) % 4 == 1)) h in
    let s = shape_of 0 content in
    let v = shape_valid 0 content s in
    let size : length content ≡ length s.run + (s.padding + length s.rest) = ap (length {A = ℕ}) s.text
    ∙ simp (length-append, length-replicate) in
    let whole : length s.rest ≡ 0 = omega (arith, eqb-true (valid_from 0 content) (length content) p.0, v.0, size) in
    let none : s.rest ≡ [] = nil_from_length s.rest whole in
    let text : content ≡ s.run ++ replicate s.padding equals_sign = s.text ∙ rw (none, append-nil) refl in
    let many : length (values_in content) ≡ length s.run = ap (length {A = ℕ}) v.1 ∙ length-map s.run symbol_value in
    let lone : ¬ (length s.run % 4 ≡ 1) = λ e. both_ways (length (values_in content) % 4 == 1) (not-true _ p.1)
    (eq-eqb _ 1 (omega (arith, many, e))) in
    let z : 0 + length s.run ≡ length s.run = omega arith in
    let most : s.padding ≤ most_padding (length s.run) = rw z at s.within in
    subst (λ (t : List ℕ). IsBase64Text (bytes_from (values_in content)) t) (sym text)
    (subst (λ (vs : List ℕ). IsBase64Text (bytes_from vs) (s.run ++ replicate s.padding equals_sign)) (sym v.1)
    (well_formed s.run s.padding s.symbols most lone))

-- what is Base64 is accepted
text_accepted : (bytes content : List ℕ) → IsBase64Text bytes content → accepted content ≡ true
text_accepted bytes content h =
    let r = read_back bytes content h in
    let c = counted bytes content h in
    let n : (length (values_in content) % 4 == 1) ≡ false = ne_eqb _ 1 (λ e. c.0 (rw r.1 at e)) in
    rw (eq-eqb (valid_from 0 content) (length content) r.0, n) refl

pub one_meaning : (x y content : List ℕ) → IsBase64Text x content → IsBase64Text y content → x ≡ y
one_meaning x y content h k = let same = bytes_settle x y content content (colon ∷ []) (colon ∷ []) h k refl refl
    refl in same.values

pub gives_the_bytes : GivesTheBytes
gives_the_bytes content bytes = (
  λ h. let a = text_accepted bytes content h in bytes_accepted content a
      ∙ ap (λ (b : List ℕ). Some b) (one_meaning _ bytes content (accepted_text content a) h),
  λ e. elim (cases_Bool (accepted content)) [
    | inl a ↦
        let q = sym (bytes_accepted content a) ∙ e in
        let same : bytes_from (values_in content) ≡ bytes = cc in
        rw (← same) (accepted_text content a)
    | inr a ↦ let q = sym (bytes_rejected content a) ∙ e in absurd (cc)
  ],
)

-- some Base64 text begins with symbols and padding
begins_so : (run : List ℕ) (padding : ℕ) → list_all is_symbol run ≡ true → padding ≤ most_padding (length run)
    → BeginsBase64 (run ++ replicate padding equals_sign)
unfolding is_symbol
begins_so run padding h most = elim (cases_Bool (length run % 4 == 1)) [
  | inl one ↦ let e = eqb-true (length run % 4) 1 one in
      let none : padding ≡ 0 = omega (arith, rw e at most) in
      let more : List ℕ = run ++ (upper_a ∷ []) in
      let many : length more ≡ length run + 1 = length-append run (upper_a ∷ []) in
      let lone : ¬ (length more % 4 ≡ 1) = λ f. absurd (omega (arith, e, f, many)) in
      let all : list_all is_symbol more ≡ true = list_all-append is_symbol run (upper_a ∷ []) ∙ rw h refl in
      let text : more ++ [] ≡ (run ++ replicate padding equals_sign) ++ (upper_a ∷ []) = append-nil more
      ∙ rw (none, append-nil run) refl in (
        upper_a ∷ [],
        bytes_from (map symbol_value more),
        rw (← text) (well_formed more 0 all (omega arith) lone),
      )
  | inr two ↦ (
    [],
    bytes_from (map symbol_value run),
    rw (append-nil (run ++ replicate padding equals_sign))
        (well_formed run padding h most (eqb-false (length run % 4) 1 two)),
  )
]

-- how far some Base64 text goes on
pub longest_valid : (content : List ℕ) → IsLongestBeginning BeginsBase64 content (valid_from 0 content)
longest_valid content =
    let s = shape_of 0 content in
    let v = shape_valid 0 content s in
    let front : List ℕ = s.run ++ replicate s.padding equals_sign in
    let text : content ≡ front ++ s.rest = s.text ∙ sym (append_assoc s.run (replicate s.padding equals_sign) s.rest) in
    let size : length front ≡ valid_from 0 content = length-append s.run (replicate s.padding equals_sign)
    ∙ ap (λ n. length s.run + n) (length-replicate s.padding equals_sign) ∙ sym v.0 in
    let taken = ap (take {A = ℕ} (valid_from 0 content)) text ∙ take_at front s.rest (valid_from 0 content) size in
    let z : 0 + length s.run ≡ length s.run = omega arith in
    let most : s.padding ≤ most_padding (length s.run) = rw z at s.within in
    record {
      within = omega (arith, ap (length {A = ℕ}) text, length-append front s.rest, size);
      holds = rw taken (begins_so s.run s.padding s.symbols most);
      longest = λ m lt le begun.
          let r = read_back begun.1 (take m content ++ begun.0) begun.2 in
          let e = valid_local 0 content m begun.0 lt le in
          let size : length (take m content ++ begun.0) ≡ m + length begun.0 = length-append (take m content) begun.0
          ∙ ap (λ n. n + length begun.0) (length-take-le m content le) in
          absurd (omega (arith, r.0, e, size, lt));
    }

-- a content that is at fault before its end
pub rejected_at : (content : List ℕ) (e : ℕ) → valid_from 0 content ≡ e → e < length content
    → (bytes_of content ≡ None) × (fault_place content ≡ e)
unfolding bytes_of fault_place
rejected_at content e v l =
    let n : (valid_from 0 content == length content) ≡ false = ne_eqb _ _ (λ q. absurd (omega (arith, q, v, l))) in
    (rw n refl, rw n v)

-- and one with a single symbol left over
pub lone_symbol : (run : List ℕ) → list_all is_symbol run ≡ true → length run % 4 ≡ 1
    → (bytes_of run ≡ None) × (fault_place run ≡ length run - 1)
unfolding bytes_of fault_place
lone_symbol run h one =
    let v = valid_run 0 run [] h refl in
    let valid : valid_from 0 run ≡ length run = ap (valid_from 0) (sym (append-nil run)) ∙ v.0
    ∙ omega (arith, padding-nil (most_padding (0 + length run))) in
    let many : length (values_in run) ≡ length run = cc (append-nil run, v.1, length-map run symbol_value) in
    let y : (valid_from 0 run == length run) ≡ true = eq-eqb _ _ valid in
    let z : (length (values_in run) % 4 == 1) ≡ true = eq-eqb _ 1 (rw many one) in
    (rw (y, z) refl, rw y (ap (λ n. n - 1) valid))
