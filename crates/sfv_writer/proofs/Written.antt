-- A text is written run by run.
use Rattle.std.proofs.Common.{◌≡◌, ℕ, Bool, true, false, cond, not, List, [], ◌∷◌, ◌++◌, length, take, refl, sym, ap}
use Rattle.std.proofs.Common.{subst, ◌∙◌, append_assoc, arith, inl, inr, Result, ◌<◌, string_bytes, slice_index, IsUtf8}
use Rattle.std.proofs.Common.{MatchResult, IsCharBoundary, flat_map, append-nil, length-append, take_at}
use Rattle.std.specs.{List.list_all, declared.string.String.String}
use Rattle.std.proofs.lemmas.Bool.{and_parts, and_cases, both_ways, not-true, not-false}
use Rattle.std.proofs.lemmas.{List.Folds.list_all-append, Str.{IsUtf8-string_bytes, IsCharBoundary-from_take}}
use Rattle.sfv_spec.specs.{Classes.is_string_byte, Strings.is_escaped_in_string, Texts.RunOf}
use Rattle.sfv_spec.proofs.Marks.{backslash, is_plain_in_string, plain_of}
use Rattle.sfv_writer.{specs.Quoted.piece_of, specs.Written.{Extends, IsTruncatedTo}, proofs.Appended.after}
use Rattle.sfv_model.proofs.quoted.StringSteps as in_string
use Rattle.sfv_model.proofs.quoted.DisplaySteps as in_display

flat_map_append : (f : ℕ → List ℕ) (xs ys : List ℕ) → flat_map f (xs ++ ys) ≡ flat_map f xs ++ flat_map f ys
flat_map_append f [] ys = refl
flat_map_append f (x ∷ xs) ys = ap (λ (l : List ℕ). f x ++ l) (flat_map_append f xs ys)
    ∙ sym (append_assoc (f x) (flat_map f xs) (flat_map f ys))

-- after the text that stood there before, the bytes are written up to the rest of them
pub record IsWrittenUpTo (piece : ℕ → List ℕ) (before bytes rest output : List ℕ) : Type 0 where
  pub front : List ℕ
  pub whole : bytes ≡ front ++ rest
  pub done : output ≡ before ++ flat_map piece front

module _ (piece : ℕ → List ℕ) (before bytes : List ℕ) where
  -- more bytes are written
  more_written : (rest output front after new : List ℕ) → IsWrittenUpTo piece before bytes rest output
      → rest ≡ front ++ after → new ≡ output ++ flat_map piece front → IsWrittenUpTo piece before bytes after new
  more_written rest output front after new w e n = record {
    front = w.front ++ front;
    whole = w.whole ∙ ap (λ (l : List ℕ). w.front ++ l) e ∙ sym (append_assoc w.front front after);
    done = n ∙ ap (λ (l : List ℕ). l ++ flat_map piece front) w.done ∙ append_assoc before (flat_map piece w.front)
        (flat_map piece front) ∙ ap (λ (l : List ℕ). before ++ l) (sym (flat_map_append piece w.front front));
  }

  -- a run of bytes that are written for themselves
  pub run_written : (plain : ℕ → Bool) → ((c : ℕ) → plain c ≡ true → piece c ≡ c ∷ [])
      → (rest output run after new : List ℕ) → IsWrittenUpTo piece before bytes rest output
      → rest ≡ run ++ after → RunOf plain run → new ≡ output ++ run → IsWrittenUpTo piece before bytes after new
  run_written plain itself rest output run after new w e h n =
      more_written rest output run after new w e (n ∙ ap (λ (l : List ℕ). output ++ l) (sym (run_itself run h)))
    where
      run_itself : (run : List ℕ) → RunOf plain run → flat_map piece run ≡ run
      run_itself [] h = refl
      run_itself (c ∷ run) h = let a = and_parts (plain c) (list_all plain run) h in
          ap (λ (l : List ℕ). l ++ flat_map piece run) (itself c a.0) ∙ ap (λ (l : List ℕ). c ∷ l) (run_itself run a.1)

  pub byte_written : (rest output after new : List ℕ) (byte : ℕ) → IsWrittenUpTo piece before bytes rest output
      → rest ≡ byte ∷ after → new ≡ output ++ piece byte → IsWrittenUpTo piece before bytes after new
  byte_written rest output after new byte w e n = more_written rest output
      (byte ∷ []) after new w e (n ∙ ap (λ (l : List ℕ). output ++ l) (sym (append-nil (piece byte))))

  -- none is written at the start
  pub none_written : IsWrittenUpTo piece before bytes bytes before
  none_written = record { front = []; whole = refl; done = sym (append-nil before) }

  -- and all are when none is left
  pub whole_written : (rest output : List ℕ) → IsWrittenUpTo piece before bytes rest output → length rest ≡ 0
      → output ≡ before ++ flat_map piece bytes
  whole_written [] output w e =
      w.done ∙ ap (λ (l : List ℕ). before ++ flat_map piece l) (sym (w.whole ∙ append-nil w.front))
  whole_written (c ∷ rest) output w e = absurd (omega (arith, e))

  -- the rest is written by a call that may fail
  pub rest_written : {T E : Type 0} (rest output new : List ℕ) (r : Result T E)
      → IsWrittenUpTo piece before bytes rest output → MatchResult r (λ _. new ≡ output ++ flat_map piece rest)
      (λ _. Extends output new) → MatchResult r (λ _. new ≡ before ++ flat_map piece bytes) (λ _. Extends before new)
  rest_written rest output new r w h = subst (λ t. MatchResult r (λ _. new ≡ before ++ t) (λ _. Extends before new))
      (sym (ap (flat_map piece) w.whole ∙ flat_map_append piece w.front rest))
      (after before (flat_map piece w.front) output (flat_map piece rest) new r w.done h)

  -- the next byte passes a test that all pass
  pub next_held : (held : ℕ → Bool) (rest output after : List ℕ) (byte : ℕ) → RunOf held bytes
      → IsWrittenUpTo piece before bytes rest output → rest ≡ byte ∷ after → held byte ≡ true
  next_held held rest output after byte h w e =
      let all : RunOf held (w.front ++ byte ∷ after) =
      subst (RunOf held) (w.whole ∙ ap (λ (l : List ℕ). w.front ++ l) e) h in
      let parts = and_parts (list_all held w.front) _ (sym (list_all-append held w.front (byte ∷ after)) ∙ all) in
      (and_parts _ (list_all held after) parts.1).0

-- a run that begins with a plain byte isn't empty
pub run_shortens : (plain : ℕ → Bool) (rest run after others : List ℕ) (byte : ℕ) → rest ≡ run ++ after
    → rest ≡ byte ∷ others → plain byte ≡ true → (0 < length after → plain (slice_index after 0) ≡ false)
    → length after < length rest
run_shortens plain rest [] after others byte w e p ends =
    let next = subst (λ l. 0 < length l → plain (slice_index l 0) ≡ false) (sym w ∙ e) ends (omega arith) in
    absurd (both_ways (plain byte) next p)
run_shortens plain rest (c ∷ run) after others byte w e p ends =
    omega (arith, ap (length {A = ℕ}) w, length-append run after)

-- a plain byte is written for itself
pub plain_itself : (display : Bool) (c : ℕ) → plain_of display c ≡ true → piece_of display c ≡ c ∷ []
plain_itself true c e = rw e refl
plain_itself false c e = ap (λ (b : Bool). cond b (backslash ∷ c ∷ []) (c ∷ []))
    (not-true (is_escaped_in_string c) (and_parts (is_string_byte c) (not (is_escaped_in_string c)) e).1)

pub plain_utf8 : (display : Bool) (run : List ℕ) → RunOf (plain_of display) run → IsUtf8 run
plain_utf8 true run h = in_display.plain_utf8 run h
plain_utf8 false run h = in_string.plain_utf8 run h

-- a byte of a string that isn't plain is the quote or the backslash
pub string_escape : (c : ℕ) → is_string_byte c ≡ true → is_plain_in_string c ≡ false → is_escaped_in_string c ≡ true
string_escape c h e = elim (and_cases (is_string_byte c) (not (is_escaped_in_string c)) e) as (λ x.
    is_escaped_in_string c ≡ true) [
      | inl o ↦ absurd (both_ways (is_string_byte c) o h)
      | inr n ↦ not-false (is_escaped_in_string c) n
    ]

-- what stood in front of a text may be cut off it
pub front_of : (before text : List ℕ) (len : ℕ) → IsUtf8 before → IsUtf8 text → len ≡ length before
    → Extends before text → IsCharBoundary text len × (take len text ≡ before)
front_of before text len utf8 whole is more =
    let front : take len text ≡ before = ap (take len) more.1 ∙ take_at before more.0 len (sym is) in
    let long = ap (length {A = ℕ}) more.1 in (
      IsCharBoundary-from_take text len whole (omega (arith, is, long, length-append before more.0))
          (subst IsUtf8 (sym front) utf8),
      front,
    )

-- cut where a character begins
pub cut_there : (text new : List ℕ) (len : ℕ) → IsUtf8 text → new ≡ take len text → IsTruncatedTo len text new
cut_there text new len whole is = record { back = λ before utf8 at more. is ∙ (front_of _ _ _ utf8 whole at more).1 }

-- where none begins, no text ended
pub cut_nowhere : (text : List ℕ) (len : ℕ) → IsUtf8 text → ¬ IsCharBoundary text len → IsTruncatedTo len text text
cut_nowhere text len whole none = record {
  back = λ before utf8 at more. absurd (none (front_of before text len utf8 whole at more).0);
}

-- a text that was added to and cut back is as it was
pub cut_to : {Z : Type 0} (old more new : String Z) (len : ℕ) → len ≡ length (string_bytes old)
    → Extends (string_bytes old) (string_bytes more) → IsTruncatedTo len (string_bytes more) (string_bytes new)
    → string_bytes new ≡ string_bytes old
cut_to old more new len is grown cut = cut.back (string_bytes old) (IsUtf8-string_bytes old) is grown
