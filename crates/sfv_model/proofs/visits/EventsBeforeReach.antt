-- What was told before a fault is told by a text that goes on from the reach.
use Rattle.std.proofs.Common.{◌≡◌, ℕ, zero, suc, ◌≤◌, true, false, List, [], ◌∷◌, ◌++◌, length, take, drop, Ok, Err}
use Rattle.std.proofs.Common.{refl, sym, ap, subst, ◌∙◌, append_assoc, arith, inl, inr, length-append, length-drop}
use Rattle.std.proofs.{Common.{take_at, append-nil}, lemmas.Bool.{cases_lt, cases_Bool}}
use Rattle.sfv_spec.specs.Events.{TreeEvent, events}
use Rattle.sfv_spec.specs.{Grammar.{IsFieldText, IsAccepted}, Reach.{BeginsAccepted, IsReach}, Values.RawField}
use Rattle.sfv_spec.specs.declared.error_kind.ErrorKind.TheVariants.{TrailingCharactersAfterParsedValue}
use Rattle.sfv_spec.specs.declared.{field_kind.FieldKind.FieldKind, version.Version.Version}
use Rattle.sfv_spec.proofs.Versions.{one_reach_lem}
use Rattle.sfv_model.specs.{Bare.bare_at, Claims.EventsReach, Fields.{whole_field_at, ending, read_field}}
use Rattle.sfv_model.specs.{Judgements.Reached, Reader.{Fault, Answer, visited}, Visits.BeginsEventsAfter}
use Rattle.sfv_model.proofs.{Theorems.{fault_is_placed, read_is_accepted}, complete.Fields.field_complete}
use Rattle.sfv_model.proofs.{places.CalledIsWanted.begins_stuck, sound.Combinators.{Begins, Somewhere}}
use Rattle.sfv_model.proofs.{sound.Fields.{FieldGoes, Sound-field}, visits.BareFaultOffReach.Early-bare}
use Rattle.sfv_model.proofs.visits.{EventsBeforeRule.Early-field, EventsBeforeRuleAlike.{Tells, Early}}

-- es begins the events of a field whose text begins so
pub record TellsFrom (version : Version) (kind : FieldKind) (u : List ℕ) (es : List TreeEvent) : Type 0 where
  pub raw : RawField kind
  pub more : List ℕ
  pub accepted : IsFieldText version kind raw (u ++ more)
  pub begins : Begins (events kind raw) es

module _ (version : Version) (kind : FieldKind) (leaf : Early (bare_at version) (λ _. [])) where
  -- each accepted text that goes on so tells the same
  emitted_after : (t : List ℕ) (es : List TreeEvent) → (m : Tells (whole_field_at version kind) (events kind) t es)
      → (raw : RawField kind) (r : List ℕ) → IsFieldText version kind raw (m.before ++ m.next ∷ r)
      → Begins (events kind raw) es
  emitted_after t es m raw r h = subst (λ a. Begins (visited (events kind) a) es) (field_complete _ _ _ _ h)
      (m.emitted r)

  begun_after : (t : List ℕ) (es : List TreeEvent) → (m : Tells (whole_field_at version kind) (events kind) t es)
      → BeginsAccepted version kind (m.before ++ m.next ∷ [])
  begun_after t es m =
      let b = begins_stuck version kind (m.before ++ m.next ∷ m.more)
      (rw (append_assoc m.before (m.next ∷ m.more) (0 ∷ [])) m.stuck) in (
        m.more ++ b.0,
        rw (← append_assoc m.before (m.next ∷ m.more) b.0 ∙ sym (append_assoc m.before (m.next ∷ []) (m.more ++ b.0)))
            b.1,
      )

  -- the reach lies after the byte after which it was told
  pub ruled_events : (t : List ℕ) (e : Fault) → whole_field_at version kind t ≡ Err e → e.exact ≡ false → (n : ℕ)
      → IsReach version kind t n → TellsFrom version kind (take n t) e.events
  ruled_events t e i x n reach =
      let m = (Early-field version leaf kind).early t e i x in
      let front : List ℕ = m.before ++ m.next ∷ [] in
      let whole : t ≡ front ++ m.after = m.text ∙ sym (append_assoc m.before (m.next ∷ []) m.after) in
      let cut : take (length front) t ≡ front = ap (take (length front)) whole ∙ take_at front m.after _ refl in
      let fits : length front ≤ length t = omega (arith, ap length whole, length-append front m.after) in
      let far : length front ≤ n = elim (cases_lt n (length front)) [
        | inl less ↦ absurd (reach.longest (length front) less fits (rw cut (begun_after t e.events m)))
        | inr more ↦ omega (arith, more)
      ] in
      let rest : (r : List ℕ) × (take n t ≡ front ++ r) = taken front m.after t n whole far in
      record {
        raw = reach.holds.1.0;
        more = reach.holds.0;
        accepted = reach.holds.1.1;
        begins = emitted_after t e.events m reach.holds.1.0 (rest.0 ++ reach.holds.0)
            (rw (← ap (λ (l : List ℕ). l ++ reach.holds.0) rest.1 ∙ append_assoc front rest.0 reach.holds.0
            ∙ append_assoc m.before (m.next ∷ []) (rest.0 ++ reach.holds.0)) reach.holds.1.1);
      }
    where
      taken : (front after t : List ℕ) (n : ℕ) → t ≡ front ++ after → length front ≤ n
          → (r : List ℕ) × (take n t ≡ front ++ r)
      taken [] after t n e le = (take n t, refl)
      taken (c ∷ front) after [] n e le = absurd cc
      taken (c ∷ front) after (d ∷ t) zero e le = absurd (omega (arith, le))
      taken (c ∷ front) after (d ∷ t) (suc n) e le =
          let same : d ≡ c = cc in
          let tails : t ≡ front ++ after = cc in
          let m = taken front after t n tails (omega (arith, le)) in
          (m.0, ap (λ (x : ℕ). x ∷ take n t) same ∙ ap (λ (l : List ℕ). c ∷ l) m.1)

front_is : (t front rest : List ℕ) (n : ℕ) → t ≡ front ++ rest → drop n t ≡ rest → n ≤ length t → take n t ≡ front
front_is t front rest n e d le =
    let same : n ≡ length front = omega (
      arith,
      ap (length {A = ℕ}) d,
      ap (length {A = ℕ}) e,
      length-drop {A = ℕ},
      length-append {A = ℕ},
    ) in
    ap (take n) e ∙ take_at front rest n (sym same)

-- what is told on a rejected text begins the events of a field whose text begins as this one does up to its reach
pub reached_events : (version : Version) (kind : FieldKind) (t : List ℕ) (e : Fault) → read_field version kind t ≡ Err e
    → (n : ℕ) → IsReach version kind t n → TellsFrom version kind (take n t) e.events
unfolding read_field
reached_events version kind t e i n reach = on (whole_field_at version _ t) refl ((Sound-field _ _).sound t) i
  where
    placed_at : e.exact ≡ true → drop n t ≡ e.rest
    placed_at x =
        let p = (fault_is_placed version kind t e i).exact x in
        ap (λ (n : ℕ). drop n t) (one_reach_lem version kind t n p.0 reach p.2) ∙ p.1

    on : (a : Answer (RawField kind)) → whole_field_at version kind t ≡ a
        → Reached (IsFieldText version kind) (FieldGoes version kind) (Somewhere (FieldGoes version kind)) t a
        → ending (events kind) a ≡ Err e → TellsFrom version kind (take n t) e.events
    on (Ok (v, [])) k h j = absurd cc
    on (Ok (v, c ∷ q)) k h j =
        let same : record { kind = TrailingCharactersAfterParsedValue; exact = true; rest = c ∷ q; events = events kind v }
        ≡ e = cc in
        let front : take n t ≡ h.0 = front_is t h.0 (c ∷ q) n h.1
        (placed_at (sym (ap (λ (e : Fault). e.exact) same)) ∙ sym (ap (λ (e : Fault). e.rest) same)) reach.within in
        record {
          raw = v;
          more = [];
          accepted = rw (append-nil (take n t) ∙ front) h.2;
          begins = ([], ap (λ (e : Fault). e.events) same ∙ sym (append-nil e.events));
        }
    on (Err x) k h j =
        let same : x ≡ e = cc in
        elim (cases_Bool e.exact) [
          | inl y ↦ let g = h.0 (cc) in
              let front : take n t ≡ g.front = front_is t g.front x.rest n g.parts (cc (placed_at y)) reach.within in
              record {
                raw = g.holds.0;
                more = g.more;
                accepted = rw front g.holds.1;
                begins = subst (λ (e : Fault). Begins (events kind g.holds.0) e.events) same g.holds.2;
              }
          | inr y ↦ ruled_events version kind (Early-bare version) t e (k ∙ ap (λ (x : Fault). Err x) same) y n reach
        ]

pub events_reach : EventsReach
events_reach version kind t e i n reach = let m = reached_events version kind t e i n reach in record {
  raw = m.raw;
  more = m.more;
  accepted = m.accepted;
  others = m.begins.0;
  all = m.begins.1;
}

-- of a rejected text: what is visited, which a visitor's failure is in
pub visited_reach : (version : Version) (kind : FieldKind) (t : List ℕ) → ¬ IsAccepted version kind t → (n : ℕ)
    → IsReach version kind t n
    → BeginsEventsAfter version kind (take n t) (visited (events kind) (whole_field_at version kind t))
unfolding read_field
visited_reach version kind t rejected n reach = on (whole_field_at version kind t) refl
  where
    on : (a : Answer (RawField kind)) → whole_field_at version kind t ≡ a
        → BeginsEventsAfter version kind (take n t) (visited (events kind) a)
    on (Ok (v, [])) k = absurd (rejected (v, (read_is_accepted version kind t v).0 (ap (ending (events kind)) k)))
    on (Ok (v, c ∷ q)) k = events_reach version kind t _ (ap (ending (events kind)) k) n reach
    on (Err x) k = events_reach version kind t x (ap (ending (events kind)) k) n reach
