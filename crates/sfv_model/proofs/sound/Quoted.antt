-- What the readers of Strings and Display Strings give.
use Rattle.std.proofs.Common.{inl, ◌≡◌, ℕ, Bool, true, false, List, [], ◌∷◌, ◌++◌, Ok, Err, refl, sym, ap, ◌∙◌}
use Rattle.std.{proofs.Common.{append_assoc, inr, true≢false, append-nil}, specs.List.{concat, AllZip}}
use Rattle.std.{specs.Str.is_utf8, proofs.lemmas.Bool.cases_Bool, proofs.lemmas.Str.IsUtf8-from_is_utf8}
use Rattle.sfv_spec.{specs.Strings.{IsStringPiece, IsDisplayPiece}, proofs.Marks.{double_quote, backslash}}
use Rattle.sfv_model.specs.Judgements.{GoesOn, Reached, Sound, Mute, Quiet}
use Rattle.sfv_model.specs.Quoted.{IsStringEnd, IsDisplayEnd, string_at, outside, pieces_from, checked, display_at}
use Rattle.sfv_model.specs.Quoted.{StringStops, DisplayStops, Traced, IsDisplayFault}
use Rattle.sfv_model.specs.Reader.{Fault, Answer, at_reach}
use Rattle.sfv_model.proofs.Types.{ErrorKind, InvalidStringCharacter, UnterminatedString, UnterminatedEscapeSequence}
use Rattle.sfv_model.proofs.{Types.{InvalidEscapeSequence, InvalidUtf8InDisplayString}, quoted.Pieces.display_ruled}
use Rattle.sfv_model.proofs.{quoted.Traces.{Ends, trace_of_string, trace_of_display}, texts.Joining.in_turn}

-- where a reader stopped, without how its fault is placed
pub stopped_at : (exact : Bool) (P : ℕ → List ℕ → Type 0) (Stops : ErrorKind → List ℕ → List ℕ → Type 0) (t : List ℕ)
    (e : Fault) → Traced P t (Ends exact Stops (Err e)) → Traced P t (λ bytes left. Stops e.kind left e.rest)
stopped_at exact P Stops t e h = record {
  bytes = h.bytes;
  pieces = h.pieces;
  left = h.left;
  text = h.text;
  content = h.content;
  ends = h.ends.1;
}

-- ---- strings

-- a beginning up to a fault can be completed
completed : (bytes : List ℕ) (pieces : List (List ℕ)) (p : List ℕ) → AllZip IsStringPiece bytes pieces
    → p ≡ concat pieces → IsStringEnd bytes (p ++ double_quote ∷ [])
completed bytes pieces p h e = in_turn p (double_quote ∷ []) (record { pieces = pieces; text = e; each = h }) refl

-- one more piece at the end
pub zip_more : (P : ℕ → List ℕ → Type 0) (bytes : List ℕ) (pieces : List (List ℕ)) (c : ℕ) (p : List ℕ)
    → AllZip P bytes pieces → P c p → AllZip P (bytes ++ c ∷ []) (pieces ++ p ∷ [])
zip_more P [] [] c p h q = (q, tt)
zip_more P [] (x ∷ pieces) c p h q = absurd h
zip_more P (b ∷ bytes) [] c p h q = absurd h
zip_more P (b ∷ bytes) (x ∷ pieces) c p h q = (h.0, zip_more P bytes pieces c p h.1 q)

pub concat_more : (pieces : List (List ℕ)) (p : List ℕ) → concat (pieces ++ p ∷ []) ≡ concat pieces ++ p
concat_more [] p = append-nil p
concat_more (x ∷ pieces) p = ap (λ (l : List ℕ). x ++ l) (concat_more pieces p) ∙ sym (append_assoc x (concat pieces) p)

escape_completed : (bytes : List ℕ) (pieces : List (List ℕ)) → AllZip IsStringPiece bytes pieces
    → IsStringEnd (bytes ++ double_quote ∷ []) (concat pieces ++ backslash ∷ [] ++ double_quote ∷ double_quote ∷ [])
escape_completed bytes pieces h = record {
  front = concat pieces ++ backslash ∷ double_quote ∷ [];
  back = double_quote ∷ [];
  text = simp append_assoc;
  first = record {
    pieces = pieces ++ (backslash ∷ double_quote ∷ []) ∷ [];
    text = sym (concat_more pieces (backslash ∷ double_quote ∷ []));
    each = zip_more IsStringPiece bytes pieces double_quote (backslash ∷ double_quote ∷ []) h (inr (refl, refl));
  };
  second = refl;
}

string_completed : (k : ErrorKind) (left there : List ℕ) (t : List ℕ) (bytes : List ℕ) (pieces : List (List ℕ))
    → t ≡ concat pieces ++ left → AllZip IsStringPiece bytes pieces → StringStops k left there
    → GoesOn (Mute IsStringEnd) t (at_reach k there)
string_completed UnterminatedString left there t bytes pieces e h s =
    record {
      front = concat pieces;
      more = double_quote ∷ [];
      parts = rw (e, s.0, s.1) refl;
      holds = (bytes, completed bytes pieces (concat pieces) h refl, refl);
    }
string_completed UnterminatedEscapeSequence left there t bytes pieces e h s =
    record {
      front = concat pieces ++ backslash ∷ [];
      more = double_quote ∷ double_quote ∷ [];
      parts = rw (e, s.0, s.1) (sym (append-nil _));
      holds = (bytes ++ double_quote ∷ [], escape_completed bytes pieces h, refl);
    }
string_completed InvalidEscapeSequence left there t bytes pieces e h s =
    record {
      front = concat pieces ++ backslash ∷ [];
      more = double_quote ∷ double_quote ∷ [];
      parts = rw (e, s.2, s.3) (sym (append_assoc (concat pieces) (backslash ∷ []) (s.0 ∷ s.1)));
      holds = (bytes ++ double_quote ∷ [], escape_completed bytes pieces h, refl);
    }
string_completed InvalidStringCharacter left there t bytes pieces e h s =
    record {
      front = concat pieces;
      more = double_quote ∷ [];
      parts = rw (e, s.2, s.3) refl;
      holds = (bytes, completed bytes pieces (concat pieces) h refl, refl);
    }
string_completed _ left there t bytes pieces e h s = absurd s

string_reached : (t : List ℕ) (a : Answer (List ℕ)) → Traced IsStringPiece t (Ends true StringStops a)
    → Reached IsStringEnd (Mute IsStringEnd) Quiet t a
string_reached t (Ok x) h = (
  concat h.pieces ++ double_quote ∷ [],
  simp (h.text, h.ends.1, append_assoc),
  rw h.ends.0 (completed h.bytes h.pieces (concat h.pieces) h.content refl),
)
string_reached t (Err e) h = (
  λ _. rw h.ends.0 (string_completed e.kind h.left e.rest t h.bytes h.pieces h.text h.content h.ends.1),
  λ i. absurd (true≢false (sym (ap (λ (e : Fault). e.exact) h.ends.0) ∙ i)),
)

-- What is read is a String, and a fault stands after a beginning of one.
pub Sound-string : Sound string_at IsStringEnd (Mute IsStringEnd) Quiet
Sound-string = record { sound = λ t. string_reached t (string_at t) (trace_of_string t) }

-- ---- display strings

display_reached : (t : List ℕ) (a : Answer (List ℕ)) → Traced IsDisplayPiece t (Ends false DisplayStops a)
    → Reached IsDisplayEnd (Mute IsDisplayEnd) Quiet t (checked t a)
display_reached t (Ok x) h = elim (cases_Bool (is_utf8 x.0)) [
  | inl e ↦ rw e (
    concat h.pieces ++ double_quote ∷ [],
    simp (h.text, h.ends.1, append_assoc),
    in_turn (concat h.pieces) (double_quote ∷ []) (
      record
          { pieces = h.pieces; text = refl; each = rw h.ends.0 h.content },
      IsUtf8-from_is_utf8 x.0 e,
    ) refl,
  )
  | inr e ↦ rw e (λ l. absurd (true≢false (sym l)), λ l. (refl, refl))
]
display_reached t (Err e) h = (
  λ l. absurd (true≢false (sym l ∙ ap (λ (e : Fault). e.exact) h.ends.0)),
  λ l. (ap (λ (e : Fault). e.events) h.ends.0, display_ruled e.kind h.left e.rest h.ends.1),
)

-- What is read is a Display String; all of its faults have rules of their own.
pub Sound-display : Sound display_at IsDisplayEnd (Mute IsDisplayEnd) Quiet
unfolding display_at
Sound-display = record { sound = λ t. display_reached t (pieces_from outside t) (trace_of_display t) }

pub stopped : (t there : List ℕ) (k : ErrorKind) → Traced IsDisplayPiece t (λ bytes left. DisplayStops k left there)
    → IsDisplayFault t k there
stopped t there InvalidUtf8InDisplayString h = absurd h.ends
stopped t there k h = h
