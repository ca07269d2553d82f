-- A rule for a Display String holds only where the reader gives that fault, at that place.
use Rattle.std.proofs.Common.{◌≡◌, ℕ, ◌≤◌, ◌+◌, ◌*◌, List, [], ◌∷◌, ◌++◌, length, take, refl, sym, ap, subst, ◌∙◌}
use Rattle.std.proofs.Common.{append_assoc, arith, inr, not, length-append, append-nil, take_at}
use Rattle.std.specs.{Char.digit_value as hexadecimal_value, List.{concat, AllZip, list_all}}
use Rattle.std.proofs.lemmas.{Bool.{and_parts, and_from, not-true}, Str.utf8_valid_len_le}
use Rattle.sfv_spec.specs.Classes.{is_string_byte, is_lower_hexadecimal}
use Rattle.sfv_spec.specs.Faults.{DisplayFault, open_display, open_escape, wrong_escape, wrong_byte, wrong_utf8}
use Rattle.sfv_spec.specs.{Strings.IsDisplayPiece, Texts.{RunOf, IsLongestBeginning}}
use Rattle.sfv_spec.proofs.{Marks.{percent_sign, AreDisplayPieces}, Versions.one_longest}
use Rattle.sfv_model.{specs.Quoted.IsDisplayFault, proofs.Types.ErrorKind}
use Rattle.sfv_model.proofs.faults.{DisplayFaultIsRule.after_drop, NumberShapes.next_of, Quoted.traced}
use Rattle.sfv_model.proofs.{sound.Quoted.{zip_more, concat_more}, texts.Utf8.longest_text}

-- no piece more can be read of what is left
abbrev IsLongest : List (List ℕ) → List ℕ → Type 0
IsLongest pieces left =
    IsLongestBeginning (λ d. (any : List ℕ) × AreDisplayPieces any d) (concat pieces ++ left) (length (concat pieces))

-- an escape that is left over has one digit at most, or it would be a piece
few_digits : (bytes : List ℕ) (pieces : List (List ℕ)) (digits rest : List ℕ) → AllZip IsDisplayPiece bytes pieces
    → IsLongest pieces (percent_sign ∷ (digits ++ rest)) → RunOf is_lower_hexadecimal digits → length digits ≤ 1
few_digits bytes pieces [] rest h l r = omega arith
few_digits bytes pieces (a ∷ []) rest h l r = omega arith
few_digits bytes pieces (a ∷ b ∷ ds) rest h l r =
    let p = and_parts (is_lower_hexadecimal a) _ r in
    let q = and_parts (is_lower_hexadecimal b) (list_all is_lower_hexadecimal ds) p.1 in
    let two = and_from _ _ p.0 q.0 in
    let piece : List ℕ = percent_sign ∷ a ∷ b ∷ [] in
    let n : ℕ = length (concat pieces ++ piece) in
    let front : take n (concat pieces ++ (percent_sign ∷ (a ∷ b ∷ ds ++ rest))) ≡ concat (pieces ++ piece ∷ []) =
    ap (take n) (sym (append_assoc (concat pieces) piece (ds ++ rest)))
    ∙ take_at (concat pieces ++ piece) (ds ++ rest) n refl ∙ sym (concat_more pieces piece) in
    absurd (l.longest n (omega (arith, length-append {A = ℕ})) (omega (arith, length-append {A = ℕ})) (
      bytes ++ (16 * hexadecimal_value a + hexadecimal_value b) ∷ [],
      record { pieces = pieces ++ piece ∷ []; text = front; each = zip_more _ _ _ _ _ h (inr (a, b, two, refl, refl)) },
    ))

-- The faults of a Display String are those of the rules, and each has its place.
pub faults_ruled : (bytes : List ℕ) (pieces : List (List ℕ)) (left there : List ℕ) (k : ErrorKind)
    → AllZip IsDisplayPiece bytes pieces
    → IsLongest pieces left → DisplayFault bytes pieces left there k → IsDisplayFault (concat pieces ++ left) k there
faults_ruled bytes pieces left there _ h longest (open_display none end) = traced _ bytes pieces left refl h (none, end)
faults_ruled bytes pieces left there _ h longest (open_escape digits run text end) =
    traced _ bytes pieces left refl h (
      digits,
      text,
      end,
      run,
      few_digits bytes pieces digits [] h (subst (IsLongest pieces)
          (text ∙ ap (λ (l : List ℕ). percent_sign ∷ l) (sym (append-nil digits))) longest) run,
    )
faults_ruled bytes pieces left there _ h longest (wrong_escape digits run text wrong) =
    let n = next_of _ _ wrong in
    let all = text ∙ ap (λ (l : List ℕ). percent_sign ∷ (digits ++ l)) n.text in
    let few = few_digits _ _ _ _ h (subst (IsLongest pieces) all longest) run in
    traced _ _ _ _ refl h (digits, n.c, n.rest, all, n.text, run, few, not-true (is_lower_hexadecimal n.c) n.is)
faults_ruled bytes pieces left there _ h longest (wrong_byte text wrong) =
    let n = next_of (λ c. not (is_string_byte c)) there wrong in
    traced _ bytes pieces left refl h (n.c, n.rest, text ∙ n.text, n.text, not-true (is_string_byte n.c) n.is)
faults_ruled bytes pieces left there _ h longest (wrong_utf8 more valid not_text most text place) =
    let same = one_longest most (longest_text _) in
    traced _ _ _ _ refl h (more, text, not_text, rw same at place ∙ sym (after_drop _ _ _ _ h (utf8_valid_len_le _)))
