-- Two lines of a field, joined by a comma and a space.
use Rattle.std.proofs.Common.{◌≡◌, ℕ, ◌<◌, List, [], ◌∷◌, ◌++◌, length, refl, arith, append_assoc, ◌==◌, ◌||◌, codes}
use Rattle.std.{specs.List.list_all, proofs.lemmas.Bool.{and_parts, and_from}}
use Rattle.sfv_spec.specs.{Ascii.byte, Grammar.{Spaces, OptionalWhitespace, Comma, AreMembersText, IsMemberText}}
use Rattle.sfv_spec.specs.{Grammar.IsDictionaryMemberText, Statements.JoinedLines, Texts.◌⨾◌}
use Rattle.sfv_model.proofs.texts.Joining.{joining_append, joining_into, in_turn}

spaces_are_whitespace : (t : List ℕ) → Spaces t → OptionalWhitespace t
spaces_are_whitespace [] h = refl
spaces_are_whitespace (c ∷ cs) h =
    let a = and_parts (c == byte " ") (list_all (λ b. b == byte " ") cs) h in
    and_from (c == byte " " || c == byte "\t") (list_all (λ b. b == byte " " || b == byte "\t") cs)
    (rw a.0 refl) (spaces_are_whitespace cs a.1)

regroup : (s sb sp x xs so t tb tp y ys to m sf tf : List ℕ) → s ≡ sf ++ sb → sb ≡ sp ++ so → sp ≡ x ++ xs
    → t ≡ tf ++ tb → tb ≡ tp ++ to → tp ≡ y ++ ys → s ++ m ++ t ≡ sf ++ (x ++ (xs ++ (so ++ m ++ tf ++ y ++ ys)) ++ to)
regroup s sb sp x xs so t tb tp y ys to m sf tf a b c d e f = rw (a, b, c, d, e, f) (simp append_assoc refl)

members_join : {A : Type 0} (P : A → List ℕ → Type 0) (xs ys : List A) (s t : List ℕ) → 0 < length xs → 0 < length ys
    → AreMembersText P xs s → AreMembersText P ys t → AreMembersText P (xs ++ ys) (s ++ codes ", " ++ t)
members_join P [] ys s t m n h k = absurd (omega (arith, m))
members_join P (x ∷ xs) [] s t m n h k = absurd (omega (arith, n))
members_join P (x ∷ xs) (y ∷ ys) s t m n h k =
    let p = h.second.first in
    let q = k.second.first in
    let comma : Comma (h.second.back ++ codes ", " ++ k.front) = record {
      front = h.second.back;
      back = codes ", " ++ k.front;
      text = append_assoc h.second.back (codes ", ") k.front;
      first = h.second.second;
      second = in_turn _ _ refl (spaces_are_whitespace (codes " " ++ k.front) k.first);
    } in
    let next : (Comma ⨾ P y) ((h.second.back ++ codes ", " ++ k.front) ++ q.front) = in_turn _ _ comma q.first in
    let rest = joining_append _ _ _ _ _ p.second (joining_into _ _ _ _ _ next q.second) in
    record {
      front = h.front;
      back = (p.front ++ (p.back ++ (((h.second.back ++ codes ", " ++ k.front) ++ q.front) ++ q.back))) ++ k.second.back;
      text = regroup _ _ _ _ _ _ _ _ _ _ _ _ _ _ _ h.text h.second.text p.text k.text k.second.text q.text;
      first = h.first;
      second = in_turn _ _ (in_turn _ _ p.first rest) k.second.second;
    }

pub joined_lines_lem : JoinedLines
joined_lines_lem version = (members_join (IsMemberText version), members_join (IsDictionaryMemberText version))
