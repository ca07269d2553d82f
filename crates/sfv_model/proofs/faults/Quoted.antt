-- The faults of Strings and Display Strings: exactly these are given.
use Rattle.std.proofs.Common.{◌≡◌, ℕ, true, false, List, ◌++◌, Ok, Err, refl, sym, ap, subst, ◌∙◌, inl, inr, IsUtf8}
use Rattle.std.{proofs.Common.append-nil, specs.List.{concat, AllZip}, specs.Str.is_utf8}
use Rattle.std.proofs.lemmas.{Bool.{both_ways, cases_Bool}, Str.{IsUtf8-from_is_utf8, is_utf8-from_IsUtf8}}
use Rattle.sfv_spec.specs.Strings.{IsStringPiece, IsDisplayPiece}
use Rattle.sfv_spec.specs.declared.error_kind.ErrorKind.{ErrorKind, TheVariants.InvalidUtf8InDisplayString}
use Rattle.sfv_model.specs.Quoted.{after_bytes, string_at, outside, pieces_from, checked, display_at, StringStops}
use Rattle.sfv_model.specs.Quoted.{DisplayStops, Traced, IsStringFault, IsDisplayFault}
use Rattle.sfv_model.specs.Reader.{Fault, Answer, at_reach, by_rule}
use Rattle.sfv_model.proofs.quoted.Pieces.{past_string, past_display, quote_display, string_stops, display_stops}
use Rattle.sfv_model.proofs.quoted.Traces.{Ends, trace_of_string, trace_of_display}
use Rattle.sfv_model.proofs.sound.Quoted.{stopped_at, stopped}

-- pieces, and what is left of the text
pub traced : {P : ℕ → List ℕ → Type 0} {E : List ℕ → List ℕ → Type 0} (t bytes : List ℕ) (pieces : List (List ℕ))
    (left : List ℕ) → t ≡ concat pieces ++ left → AllZip P bytes pieces → E bytes left → Traced P t E
traced t bytes pieces left e h ends =
    record { bytes = bytes; pieces = pieces; left = left; text = e; content = h; ends = ends }

-- Exactly such a fault is given.
pub string_faulty : (t there : List ℕ) (k : ErrorKind) → IsStringFault t k there → string_at t ≡ Err (at_reach k there)
string_faulty t there k h = ap string_at h.text ∙ past_string h.bytes h.pieces h.left h.content
    ∙ ap (after_bytes h.bytes) (string_stops k h.left there h.ends)

pub string_fault : (t : List ℕ) (e : Fault) → string_at t ≡ Err e
    → IsStringFault t e.kind e.rest × (e ≡ at_reach e.kind e.rest)
string_fault t e i =
    let h = subst (λ (a : Answer (List ℕ)). Traced IsStringPiece t (Ends true StringStops a)) i (trace_of_string t) in
    (stopped_at true IsStringPiece StringStops t e h, h.ends.0)

-- bytes that aren't UTF-8
pub not_text : (s : List ℕ) → ¬ IsUtf8 s → is_utf8 s ≡ false
not_text s n = elim (cases_Bool (is_utf8 s)) [ inl e ↦ absurd (n (IsUtf8-from_is_utf8 s e)) | inr e ↦ e ]

-- Exactly such a fault is given.
pub display_faulty : (t there : List ℕ) (k : ErrorKind) → IsDisplayFault t k there
    → display_at t ≡ Err (by_rule k there)
unfolding display_at
display_faulty t there InvalidUtf8InDisplayString h =
    let read : pieces_from outside t ≡ Ok (h.bytes, h.ends.0) = ap (pieces_from outside) (h.text ∙ ap
    (λ (l : List ℕ). concat h.pieces ++ l) h.ends.1) ∙ past_display _ _ _ h.content ∙ ap (after_bytes h.bytes)
    (quote_display _) ∙ ap (λ (l : List ℕ). Ok (l, h.ends.0)) (append-nil h.bytes) in
    ap (checked t) read ∙ rw (not_text h.bytes h.ends.2)
    (ap (λ (l : List ℕ). Err (by_rule InvalidUtf8InDisplayString l)) (sym h.ends.3))
display_faulty t there k h = ap (checked t) (ap (pieces_from outside) h.text
    ∙ past_display h.bytes h.pieces h.left h.content ∙ ap (after_bytes h.bytes) (display_stops k h.left there h.ends))

-- what an answer's fault is
abbrev FaultIs : List ℕ → Answer (List ℕ) → Type 0
FaultIs t (Ok x) = Unit {0}
FaultIs t (Err e) = IsDisplayFault t e.kind e.rest × (e ≡ by_rule e.kind e.rest)

fault_is : (t : List ℕ) (a : Answer (List ℕ)) → Traced IsDisplayPiece t (Ends false DisplayStops a)
    → FaultIs t (checked t a)
fault_is t (Err e) h = (stopped t e.rest e.kind (stopped_at false IsDisplayPiece DisplayStops t e h), h.ends.0)
fault_is t (Ok x) h = elim (cases_Bool (is_utf8 x.0)) [
  | inl e ↦ rw e tt
  | inr e ↦ rw e (
    traced t h.bytes h.pieces h.left h.text h.content (
      x.1,
      h.ends.1,
      λ u. both_ways (is_utf8 x.0) e (is_utf8-from_IsUtf8 x.0 (rw h.ends.0 u)),
      rw h.ends.0 refl,
    ),
    refl,
  )
]

pub display_fault : (t : List ℕ) (e : Fault) → display_at t ≡ Err e
    → IsDisplayFault t e.kind e.rest × (e ≡ by_rule e.kind e.rest)
unfolding display_at
display_fault t e i = subst (λ (a : Answer (List ℕ)). FaultIs t a) i (fault_is _ _ (trace_of_display _))
