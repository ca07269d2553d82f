-- A content of symbols alone, of which one is left over.
use Rattle.std.proofs.Common.{◌≡◌, ℕ, ◌≤◌, ◌+◌, ◌-◌, ◌%◌, List, [], ◌∷◌, ◌++◌, length, replicate, refl, sym, ◌∙◌, ap}
use Rattle.std.proofs.Common.{Bool, true, arith, inl, inr, None, ◌==◌, eqb-true, true≢false, length-append, append-nil}
use Rattle.std.specs.List.{list_all}
use Rattle.std.proofs.lemmas.{Bool.{and_parts, eqb-false, cases_Bool}, List.{length-replicate, nil_from_length}}
use Rattle.sfv_spec.specs.{Base64.symbols, Classes.is_one_of, Texts.RunOf}
use Rattle.sfv_spec.proofs.{Marks.{equals_sign, is_symbol}, Parts.implied}
use Rattle.sfv_model.specs.{Claims.LeavesOneOver, Content.{most_padding, valid_from, bytes_of, fault_place}}
use Rattle.sfv_model.proofs.base64.Contents.{gives_the_bytes, well_formed, lone_symbol}
use Rattle.sfv_model.proofs.base64.Shape.{shape_of, shape_valid, symbol_below, valid_run, padding-nil}
use Rattle.sfv_model.proofs.texts.Ranges.{run_weaker}

-- the two forms of the class
pub one_of_symbols : (c : ℕ) → is_symbol c ≡ true → is_one_of symbols c ≡ true
unfolding is_symbol
one_of_symbols c h = implied is_symbol (is_one_of symbols) refl c (symbol_below c h) h

-- what holds of each of some bytes holds of one of them
pub found_in : (bs : List ℕ) (q : ℕ → Bool) (c : ℕ) → list_all q bs ≡ true → is_one_of bs c ≡ true → q c ≡ true
found_in [] q c a h = absurd (true≢false (sym h))
found_in (b ∷ bs) q c a h =
    let p = and_parts (q b) (list_all q bs) a in
    elim (cases_Bool (b == c)) [
      | inl y ↦ let e : b ≡ c = eqb-true b c y in rw (← e) p.0
      | inr n ↦ found_in bs q c p.1 (rw n at h)
    ]

pub is_of_symbols : (c : ℕ) → is_one_of symbols c ≡ true → is_symbol c ≡ true
unfolding is_symbol
is_of_symbols c h = found_in symbols is_symbol c refl h

pub run_of_symbols : (cs : List ℕ) → list_all is_symbol cs ≡ true → RunOf (is_one_of symbols) cs
run_of_symbols cs h = run_weaker is_symbol (is_one_of symbols) one_of_symbols cs h

pub symbols_of_run : (cs : List ℕ) → RunOf (is_one_of symbols) cs → list_all is_symbol cs ≡ true
symbols_of_run cs h = run_weaker (is_one_of symbols) is_symbol is_of_symbols cs h

-- a content that is at fault at its end is symbols, and one of them is left over
pub left_over_is : (content : List ℕ) → bytes_of content ≡ None → valid_from 0 content ≡ length content
    → RunOf (is_one_of symbols) content × (length content % 4 ≡ 1) × (fault_place content + 1 ≡ length content)
left_over_is content none all =
    let s = shape_of 0 content in
    let v = shape_valid 0 content s in
    let size : length content ≡ length s.run + (s.padding + length s.rest) = ap (length {A = ℕ}) s.text
    ∙ simp (length-append, length-replicate) in
    let whole : length s.rest ≡ 0 = omega (arith, all, v.0, size) in
    let gone : s.rest ≡ [] = nil_from_length s.rest whole in
    let text : content ≡ s.run ++ replicate s.padding equals_sign = s.text ∙ rw (gone, append-nil) refl in
    let z : 0 + length s.run ≡ length s.run = omega arith in
    let most : s.padding ≤ most_padding (length s.run) = rw z at s.within in
    elim (cases_Bool (length s.run % 4 == 1)) [
      | inl y ↦ let one = eqb-true (length s.run % 4) 1 y in
          let bare : s.padding ≡ 0 = omega (arith, rw one at most) in
          let run : content ≡ s.run = text ∙ rw (bare, append-nil) refl in
          let lone = lone_symbol s.run s.symbols one in
          let at : fault_place content ≡ length content - 1 = rw run lone.1 in
          let same : length content % 4 ≡ 1 = rw run one in
          (rw run (run_of_symbols s.run s.symbols), same, omega (arith, at, same))
      | inr n ↦
          let some = (gives_the_bytes _ _).0 (well_formed s.run s.padding s.symbols most
          (eqb-false (length s.run % 4) 1 n)) in
          let both = sym (rw text at none) ∙ some in absurd (cc)
    ]

pub is_left_over : (content : List ℕ) → RunOf (is_one_of symbols) content → length content % 4 ≡ 1
    → (bytes_of content ≡ None) × (fault_place content + 1 ≡ length content)
is_left_over content h one =
    let lone = lone_symbol content (symbols_of_run content h) one in
    (lone.0, omega (arith, lone.1, one))

pub leaves_one_over : LeavesOneOver
leaves_one_over content none = (
  λ all. let l = left_over_is content none all in (l.0, l.1),
  λ h.
      let v = valid_run 0 content [] (symbols_of_run content h.0) refl in
      ap (valid_from 0) (sym (append-nil content)) ∙ v.0
      ∙ omega (arith, padding-nil (most_padding (0 + length content))),
)
