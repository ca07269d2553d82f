-- The steps over the inside of a Display String in an input.
use Rattle.std.proofs.Common.{◌≡◌, ℕ, suc, ◌<◌, ◌≤◌, ◌+◌, Bool, true, false, cond, not, ◌||◌, List, [], ◌∷◌, ◌++◌}
use Rattle.std.proofs.Common.{length, drop, Ok, Err, refl, sym, ap, subst, ◌∙◌, append_assoc, length-drop, arith, inl}
use Rattle.std.proofs.Common.{inr, ◌==◌, IsUtf8, slice_index, eqb-true, append-nil, drop-drop}
use Rattle.std.specs.{List.{concat, AllZip}, Str.Lossy.utf8_valid_len}
use Rattle.std.proofs.lemmas.Bool.{cases_Bool, and_parts, or_parts, not-true, both_ways, Decides.nat_tests}
use Rattle.sfv_spec.specs.{Classes.is_string_byte, Strings.{is_plain_in_display, IsDisplayPiece}, Texts.RunOf}
use Rattle.sfv_spec.proofs.Marks.{double_quote, percent_sign}
use Rattle.sfv_model.specs.Quoted.{outside, pieces_from, after_pieces, checked, display_at, DisplayStops, Traced}
use Rattle.sfv_model.specs.Reader.{Answer, by_rule}
use Rattle.sfv_model.proofs.{Types.InvalidUtf8InDisplayString, complete.Quoted.passes, faults.Quoted.not_text}
use Rattle.sfv_model.proofs.quoted.{Pieces.{past_display, quote_display}, Traces.{Ends, trace_of_display}}
use Rattle.sfv_model.proofs.texts.Ranges.{byte_at, string_utf8, run_weaker}

pub plain_utf8 : (run : List ℕ) → RunOf is_plain_in_display run → IsUtf8 run
plain_utf8 run h = string_utf8 run (run_weaker is_plain_in_display is_string_byte
    (λ c e. (and_parts (is_string_byte c) (not ((c == percent_sign) || (c == double_quote))) e).0) run h)

-- a byte that is not plain, and neither the quote nor the percent sign
pub outside_byte : (c : ℕ) → is_plain_in_display c ≡ false → (c == double_quote) ≡ false → (c == percent_sign) ≡ false
    → is_string_byte c ≡ false
outside_byte c h q p = grind (arith, nat_tests)

-- ---- what the look at UTF-8 makes of it

pub shown_text : (t s rest : List ℕ) → pieces_from outside t ≡ Ok (s, rest) → IsUtf8 s → display_at t ≡ Ok (s, rest)
unfolding display_at
shown_text t s rest e u = ap (checked t) e ∙ passes t s rest u

pub shown_wrong : (t s rest : List ℕ) → pieces_from outside t ≡ Ok (s, rest) → ¬ IsUtf8 s
    → display_at t ≡ Err (by_rule InvalidUtf8InDisplayString (after_pieces (utf8_valid_len s) t))
unfolding display_at
shown_wrong t s rest e u = ap (checked t) e ∙ rw (not_text s u) refl

-- ---- back to the place of a piece

-- so many pieces stand there, and after them the goal
pub record LeadsTo (input : List ℕ) (index count : ℕ) (goal : List ℕ) : Type 0 where
  pub within : index ≤ length input
  pub bytes : List ℕ
  pub rest : List ℕ
  pub read : pieces_from outside (drop index input) ≡ Ok (bytes, rest)
  pub enough : count ≤ length bytes
  pub here : after_pieces count (drop index input) ≡ goal

-- the first piece, and what follows it
record OnePiece (t bytes rest : List ℕ) : Type 0 where
  c : ℕ
  r : List ℕ
  text : t ≡ c ∷ r
  long : c ≡ percent_sign → 3 ≤ length t
  later : List ℕ
  read : pieces_from outside (cond (c == percent_sign) (drop 2 r) r) ≡ Ok (later, rest)
  count : length bytes ≡ suc (length later)

read_pieces : (bytes : List ℕ) (pieces : List (List ℕ)) (left rest : List ℕ) → AllZip IsDisplayPiece bytes pieces
    → left ≡ double_quote ∷ rest → pieces_from outside (concat pieces ++ left) ≡ Ok (bytes, rest)
read_pieces bytes pieces left rest h e = cc (past_display bytes pieces left h, quote_display rest, append-nil bytes)

one_piece : (bytes : List ℕ) (pieces : List (List ℕ)) (left rest t : List ℕ) → AllZip IsDisplayPiece bytes pieces
    → left ≡ double_quote ∷ rest → t ≡ concat pieces ++ left → 1 ≤ length bytes → OnePiece t bytes rest
one_piece [] pieces left rest t h e f n = absurd (omega (arith, n))
one_piece (b ∷ bytes) [] left rest t h e f n = absurd h
one_piece (b ∷ bytes) (p ∷ pieces) left rest t h e f n =
    let tail : List ℕ = concat pieces ++ left in
    let whole : t ≡ p ++ tail = f ∙ append_assoc p (concat pieces) left in
    elim h.0 as (λ x. OnePiece t (b ∷ bytes) rest) [
      | inl q ↦
          let a = and_parts _ _ q.0 in
          let o = or_parts _ _ (not-true ((b == percent_sign) || (b == double_quote)) a.1) in
          record {
            c = b;
            r = tail;
            text = whole ∙ ap (λ (l : List ℕ). l ++ tail) q.1;
            long = λ i. absurd (both_ways (b == percent_sign) o.0 (rw i refl));
            later = bytes;
            read = rw o.0 (read_pieces _ _ _ _ h.1 e);
            count = refl;
          }
      | inr q ↦ let here : t ≡ percent_sign ∷ q.0 ∷ q.1 ∷ tail = cc in
          record {
            c = percent_sign;
            r = q.0 ∷ q.1 ∷ tail;
            text = here;
            long = λ i. let len = ap (length {A = ℕ}) here in omega (arith, len);
            later = bytes;
            read = read_pieces _ _ _ _ h.1 e;
            count = refl;
          }
    ]

first_piece : (t bytes rest : List ℕ) → pieces_from outside t ≡ Ok (bytes, rest) → 1 ≤ length bytes
    → OnePiece t bytes rest
first_piece t bytes rest e n =
    let h = subst (λ (a : Answer (List ℕ)). Traced IsDisplayPiece t (Ends false DisplayStops a)) e
    (trace_of_display t) in
    one_piece bytes h.pieces h.left rest t (rw h.ends.0 h.content) h.ends.1 h.text n

drop_two : (r : List ℕ) (c : ℕ) (b : Bool) → drop (cond b 3 1) (c ∷ r) ≡ cond b (drop 2 r) r
drop_two r c true = refl
drop_two r c false = drop_none r
  where
    drop_none : (r : List ℕ) → drop 0 r ≡ r
    drop_none [] = refl
    drop_none (x ∷ r) = refl

-- one piece on
pub leads_on : (input : List ℕ) (index count : ℕ) (goal : List ℕ) → LeadsTo input index (suc count) goal
    → (index < length input) × LeadsTo input (index + cond (slice_index input index == percent_sign) 3 1) count goal
leads_on input index count goal h =
    let o = first_piece (drop index input) h.bytes h.rest h.read (omega (arith, h.enough)) in
    let len : length (drop index input) ≡ suc (length o.r) = ap (length {A = ℕ}) o.text in
    let inside : index < length input = omega (arith, len, length-drop index input, h.within) in
    let same : slice_index input index ∷ drop (index + 1) input ≡ o.c ∷ o.r = cc (byte_at input index inside, o.text) in
    let byte : slice_index input index ≡ o.c = cc in
    let n : ℕ = cond (o.c == percent_sign) 3 1 in
    let short : index + n ≤ length input = elim (cases_Bool (o.c == percent_sign)) [
      | inl e ↦ let long = o.long (eqb-true o.c percent_sign e) in
          rw e (omega (arith, long, length-drop index input, h.within))
      | inr e ↦ rw e (omega (arith, inside))
    ] in
    let next = sym (drop-drop n index input) ∙ ap (drop n) o.text ∙ drop_two o.r o.c (o.c == percent_sign) in
    let there : LeadsTo input (index + n) count goal = record {
      within = short;
      bytes = o.later;
      rest = h.rest;
      read = ap (pieces_from outside) next ∙ o.read;
      enough = omega (arith, h.enough, o.count);
      here = ap (after_pieces count) next ∙ ap (after_pieces (suc count)) (sym o.text) ∙ h.here;
    } in
    (inside, rw byte there)
