-- On how much of the text a String and a Display String rest.
use Rattle.std.proofs.Common.{inl, inr, ◌≡◌, ℕ, Bool, true, false, List, [], ◌∷◌, ◌++◌, Ok, Err, refl, sym, ap, ◌∙◌}
use Rattle.std.{proofs.Common.{append_assoc, true≢false, append-nil}, specs.List.{concat, AllZip}, specs.Str.is_utf8}
use Rattle.std.proofs.lemmas.{Bool.cases_Bool, Str.IsUtf8-from_is_utf8}
use Rattle.sfv_spec.proofs.Marks.{double_quote}
use Rattle.sfv_model.specs.Judgements.{Lasts, Local, with_rest, Stays, StaysButText}
use Rattle.sfv_model.specs.Quoted.{after_bytes, string_at, outside, pieces_from, checked, display_at, Traced}
use Rattle.sfv_model.specs.Reader.{first, Fault, Answer, Reader, placed}
use Rattle.sfv_model.proofs.{Types.ErrorKind, complete.Quoted.passes, faults.Quoted.display_fault}
use Rattle.sfv_model.proofs.quoted.Pieces.{past_string, past_display, quote_string, quote_display, string_stops}
use Rattle.sfv_model.proofs.quoted.Pieces.{display_stops, string_stops_whole, display_stops_whole}
use Rattle.sfv_model.proofs.quoted.Traces.{Ends, trace_of_string, trace_of_display}

-- a reading with the same front, and a rest that begins alike
stays : (exact : Bool) (P : ℕ → List ℕ → Type 0) (Stops : ErrorKind → List ℕ → List ℕ → Type 0) (f : Reader (List ℕ))
    → ((bytes : List ℕ) (pieces : List (List ℕ)) (t : List ℕ) → AllZip P bytes pieces
    → f (concat pieces ++ t) ≡ after_bytes bytes (f t))
    → ((t : List ℕ) → f (double_quote ∷ t) ≡ Ok ([], t))
    → ((k : ErrorKind) (left there : List ℕ) → Stops k left there → f left ≡ Err (placed exact k there))
    → ((k : ErrorKind) (left there : List ℕ) → Stops k left there
    → (h : List ℕ) × (left ≡ h ++ there) × ((r : List ℕ) → first r ≡ first there → Stops k (h ++ r) r))
    → (t : List ℕ) (a : Answer (List ℕ)) → Traced P t (Ends exact Stops a) → Stays f t a
stays exact P Stops f past quote stop again t (Ok x) h = (
  concat h.pieces ++ double_quote ∷ [],
  cc (h.text, h.ends.1, append_assoc (concat h.pieces) (double_quote ∷ []) x.1),
  λ r. simp (append_assoc, past h.bytes h.pieces (double_quote ∷ r) h.content, quote r, append-nil, h.ends.0),
)
stays exact P Stops f past quote stop again t (Err e) h =
    let w = again e.kind h.left e.rest h.ends.1 in (
      concat h.pieces ++ w.0,
      h.text ∙ ap (λ (l : List ℕ). concat h.pieces ++ l) w.1 ∙ sym (append_assoc (concat h.pieces) w.0 e.rest),
      λ r i. rw (append_assoc, past h.bytes h.pieces (w.0 ++ r) h.content, stop e.kind (w.0 ++ r) r (w.2 r i), h.ends.0)
          refl,
    )

pub lasts_from : {A : Type 0} (f : Reader A) (t : List ℕ) (a : Answer A) → Stays f t a → Lasts f t a
lasts_from f t (Ok x) h = (h.0, h.1, λ r e. h.2 r)
lasts_from f t (Err e) h = λ l. (h.0, h.1, λ r i. (with_rest e r, h.2 r i))

pub string_stays : (t : List ℕ) → Stays string_at t (string_at t)
string_stays t = stays _ _ _ _ past_string quote_string string_stops string_stops_whole _ _ (trace_of_string _)

-- An answer rests on the bytes up to its place, and on the one that stands there.
pub Local-string : Local string_at
Local-string = record { lasts = λ t. lasts_from string_at t (string_at t) (string_stays t) }

-- the pieces, without the look at UTF-8
pub pieces_stay : (t : List ℕ) → Stays (pieces_from outside) t (pieces_from outside t)
pieces_stay t = stays _ _ _ _ past_display quote_display display_stops display_stops_whole _ _ (trace_of_display _)

display_stays_on : (t : List ℕ) (a : Answer (List ℕ)) → Stays (pieces_from outside) t a
    → StaysButText display_at t (checked t a)
unfolding display_at
display_stays_on t (Err e) h = λ n. (h.0, h.1, λ r i. ap (checked (h.0 ++ r)) (h.2 r i))
display_stays_on t (Ok x) h = elim (cases_Bool (is_utf8 x.0)) [
  | inl e ↦ rw e (h.0, h.1, λ r. simp (h.2 r, passes (h.0 ++ r) x.0 r (IsUtf8-from_is_utf8 x.0 e)))
  | inr e ↦ rw e (λ n. absurd (n refl))
]

pub display_stays : (t : List ℕ) → StaysButText display_at t (display_at t)
unfolding display_at
display_stays t = display_stays_on t (pieces_from outside t) (pieces_stay t)

-- none of its faults is exact
display_lasts : (t : List ℕ) (a : Answer (List ℕ)) → StaysButText display_at t a
    → ((e : Fault) → a ≡ Err e → e.exact ≡ false) → Lasts display_at t a
display_lasts t (Ok x) h l = (h.0, h.1, λ r e. h.2 r)
display_lasts t (Err e) h l = λ i. absurd (true≢false (sym i ∙ l e refl))

pub Local-display : Local display_at
Local-display = record {
  lasts = λ t. display_lasts _ _ (display_stays _) (λ e i. ap (λ (e : Fault). e.exact) (display_fault _ _ i).1);
}
