-- Lemmas that lead from a visitor's result to the clause of a field crate in one step. `Callers` re-exports them.
use Rattle.std.proofs.Common.{◌≡◌, ℕ, List, [], ◌∷◌, true, false, cond, Option, Some, None, Bool, refl, sym, ap, ◌∙◌, ℤ}
use Rattle.std.proofs.Common.{IsTrue, ◌++◌, Result, Ok, Err, subst, append_assoc, OnOk, bytes_eq, fold, option_map}
use Rattle.std.proofs.{Common.{unwrap_or, append-nil}, lemmas.Slice.Eq.bytes_eq-Decides}
use Rattle.sfv_spec.{specs.Values.{fits_bare, bare_values}, proofs.Collapse.last_of-push}
use Rattle.sfv_spec.proofs.{Distinct.ordered_same, Fields.all_fit_newer, Kept.{last_kept, fold_parameters}}
use Rattle.sfv_spec.proofs.{Repeats.IsOrdered, Runs.runs_fold, Structure.one_field_lem}
use Rattle.sfv.specs.Field.{RawField, BareValue, RawParameters, RawMember, IsFieldValue, integer, decimal, string}
use Rattle.sfv.specs.Field.{token, byte_sequence, boolean, date, display_string, Fits, FieldKind, list_field}
use Rattle.sfv.specs.Field.{dictionary_field, Version, Rfc8941, Rfc9651, TreeEvent, entry, keyed_entry, begins_item}
use Rattle.sfv.specs.Field.{begins_inner_list, bare_item, parameter, inner_list_end, parameters_end, parameters_events}
use Rattle.sfv.specs.Field.{entry_events, keyed_events, events, last_of, ordered, ordered_member, IsParsedAs, canonical}
use Rattle.sfv.proofs.{LastRead.{fold_entries, IsIdle, last_read, read_back_either}, Relations.Answers}

-- If each pair of a key sets the looked-at part of the state, and no other pair changes it, the final part comes from the
-- key's last pair. It begins as without a pair.
pub last_set : {A S X : Type 0} (holds : S → Type 0) (step : S → List ℕ × A → S) (look : S → X) (key : List ℕ)
    (of : Option A → X)
    → ((s : S) (k : List ℕ) (v : A) → holds s
    → (look (step s (k, v)) ≡ cond (bytes_eq key k) (of (Some v)) (look s)) × holds (step s (k, v)))
    → (pairs : List (List ℕ × A)) (s : S) → holds s → look s ≡ of None
    → (look (fold step s pairs) ≡ of (last_of key pairs)) × holds (fold step s pairs)
last_set {A} {S} {X} holds step look key of set pairs s h none =
    let own : bytes_eq key key ≡ true = (bytes_eq-Decides key key).1 refl in
    let kept = last_kept holds step look key (λ v. of (Some v)) (λ s k v h n. let now = set s k v h in
    (now.0 ∙ rw n refl, now.1)) (λ s v h. let now = set s key v h in (now.0 ∙ rw own refl, now.1)) pairs s h in
    (kept.0 ∙ rw none (by_default (last_of key pairs)), kept.1)
  where
    by_default : (o : Option A) → unwrap_or (option_map (λ v. of (Some v)) o) (of None) ≡ of o
    by_default None = refl
    by_default (Some v) = refl

-- A function of a key's last pair, after one more pair: of that pair, if it has the key.
pub of_pushed : {A X : Type 0} (of : Option A → X) (key : List ℕ) (pairs : List (List ℕ × A)) (k : List ℕ) (v : A)
    → of (last_of key (pairs ++ (k, v) ∷ [])) ≡ cond (bytes_eq key k) (of (Some v)) (of (last_of key pairs))
of_pushed {A} {X} of key pairs k v = ap of (last_of-push key pairs k v) ∙ within (bytes_eq key k)
  where
    within : (b : Bool) → of (cond b (Some v) (last_of key pairs)) ≡ cond b (of (Some v)) (of (last_of key pairs))
    within true = refl
    within false = refl

-- If the elements so far determine the state, and each step leads to the state of one element more, the final state is
-- the state of all elements.
pub state_kept : {A S : Type 0} (step : S → A → S) (state : List A → S)
    → ((xs : List A) (x : A) → step (state xs) x ≡ state (xs ++ x ∷ [])) → (xs : List A) → fold step (state []) xs ≡ state xs
state_kept {A} {S} step state next xs = from [] xs
  where
    from : (done xs : List A) → fold step (state done) xs ≡ state (done ++ xs)
    from done [] = ap state (sym (append-nil done))
    from done (x ∷ xs) = ap (λ (s : S). fold step s xs) (next done x) ∙ from (done ++ x ∷ []) xs
        ∙ ap state (append_assoc done (x ∷ []) xs)

module _ {S : Type 0} (step : S → TreeEvent → S) where
  -- the same for the events of parameters
  pub parameters_kept : (state : RawParameters → S)
      → ((ps : RawParameters) (k : List ℕ) (v : BareValue) → step (state ps) (parameter k v) ≡ state (ps ++ (k, v) ∷ []))
      → (ps : RawParameters) → fold step (state []) (parameters_events ps) ≡ step (state ps) parameters_end
  parameters_kept state next ps = fold_parameters step ps (state []) ∙ ap (λ (s : S). step s parameters_end)
      (state_kept (λ s p. step s (parameter p.0 p.1)) state (λ ps p. next ps p.0 p.1) ps)

  -- a state is idle if each of six kinds of event leaves it
  pub idle_by : {s : S} → step s begins_item ≡ s → step s begins_inner_list ≡ s → ((b : BareValue) → step s (bare_item b) ≡ s)
      → ((k : List ℕ) (b : BareValue) → step s (parameter k b) ≡ s) → step s parameters_end ≡ s
      → step s inner_list_end ≡ s → IsIdle step s
  idle_by i l b p e n entry h = absurd h
  idle_by i l b p e n (keyed_entry key) h = absurd h
  idle_by i l b p e n begins_item h = i
  idle_by i l b p e n begins_inner_list h = l
  idle_by i l b p e n (bare_item v) h = b v
  idle_by i l b p e n (parameter k v) h = p k v
  idle_by i l b p e n parameters_end h = e
  idle_by i l b p e n inner_list_end h = n

  -- The looked-at part, after the members of a list, is a fold over the ordered list by a function of each member.
  pub list_read : {X : Type 0} (look : S → X) (next : X → RawMember → X)
      → ((x : X) (m : RawMember) → next x (ordered_member m) ≡ next x m)
      → ((s : S) (m : RawMember) → look (fold step s (entry_events m)) ≡ next (look s) m) → (raw : List RawMember)
      (s : S) → look (fold step s (events list_field raw)) ≡ fold next (look s) (ordered list_field raw)
  list_read {X} look next same kept raw s = ap look (fold_entries step raw s) ∙ members raw s
    where
      members : (raw : List RawMember) (s : S) → look (fold (λ s m. fold step s (entry_events m)) s raw)
          ≡ fold next (look s) (ordered list_field raw)
      members [] s = refl
      members (m ∷ raw) s = members raw (fold step s (entry_events m))
          ∙ ap (λ (x : X). fold next x (ordered list_field raw)) (kept s m ∙ sym (same (look s) m))

  -- The looked-at part, after the members of a dictionary, comes from the key's last member in the ordered dictionary.
  pub member_looked : {X : Type 0} (look : S → X) (key : List ℕ) (of : Option RawMember → X)
      → ((m : RawMember) → of (Some (ordered_member m)) ≡ of (Some m))
      → ((s : S) (k : List ℕ) (m : RawMember)
      → look (fold step s (keyed_events (k, m))) ≡ cond (bytes_eq key k) (of (Some m)) (look s))
      → (raw : List (List ℕ × RawMember)) (s : S) → look s ≡ of None
      → look (fold step s (events dictionary_field raw)) ≡ of (last_of key (ordered dictionary_field raw))
  member_looked {X} look key of same set raw s none =
      let own : bytes_eq key key ≡ true = (bytes_eq-Decides key key).1 refl in
      last_read step look key (λ m. of (Some m)) same (λ s k m n. set s k m ∙ rw n refl) (λ s m. set s key m ∙ rw own refl)
      raw s ∙ rw none (by_default (last_of key (ordered dictionary_field raw)))
    where
      by_default : (o : Option RawMember) → unwrap_or (option_map (λ m. of (Some m)) o) (of None) ≡ of o
      by_default None = refl
      by_default (Some m) = refl

-- If the visitor's view goes by steps, its result is a function of the parsed value.
pub answer_read : {V S O X : Type 0} {finishes : V → O → Type 0} (view : V → S) (step : S → TreeEvent → S) (look : S → X)
    (shown : O → X) (kind : FieldKind) (of : RawField kind → X) (start : S)
    → ((s : V) (out : O) → finishes s out → shown out ≡ look (view s))
    → ((raw : RawField kind) → look (fold step start (events kind raw)) ≡ of (ordered kind raw))
    → {version : Version} {t : List ℕ} {from : V} {out : O} → view from ≡ start
    → Answers (λ s e after. view after ≡ step (view s) e) finishes version kind t from out
    → (value : RawField kind) × IsParsedAs version kind t value × (shown out ≡ of value)
answer_read {V} {S} view step look shown kind of start finished all {version} {t} {from} {out} begun h = (
  ordered kind h.raw,
  record { raw = h.raw; accepted = h.accepted; only = λ other k. one_field_lem version kind t other h.raw k h.accepted; holds = refl },
  finished h.holds.0 out h.holds.2 ∙ ap look (runs_fold view step (events kind h.raw) from h.holds.0 h.holds.1
      ∙ ap (λ (s : S). fold step s (events kind h.raw)) begun) ∙ all h.raw,
)

-- The text of calls that describe a value parses back to it under both versions, if the older one has the value.
pub written_is_read : {T E : Type 0} (r : Result T E) (kind : FieldKind) (raw value : RawField kind)
    → OnOk r (IsFieldValue kind raw) → raw ≡ value → IsOrdered kind value → Fits Rfc8941 kind value
    → OnOk r ((version : Version) → IsParsedAs version kind (canonical kind value) value)
written_is_read (Ok x) kind raw value h same distinct fits = λ version. read_back_either version kind value
    (record { parts = subst (IsFieldValue kind) same h; distinct = ordered_same kind value distinct }) fits
written_is_read (Err e) kind raw value h same distinct fits = tt

-- RFC 8941 has every value but Dates and Display Strings
pub fits_unless : (b : BareValue) → ((z : ℤ) → ¬ (b ≡ date z)) → ((s : List ℕ) → ¬ (b ≡ display_string s))
    → IsTrue (fits_bare Rfc8941 b)
fits_unless (integer z) d s = refl
fits_unless (decimal z) d s = refl
fits_unless (string t) d s = refl
fits_unless (token t) d s = refl
fits_unless (byte_sequence bytes) d s = refl
fits_unless (boolean v) d s = refl
fits_unless (date z) d s = absurd (d z refl)
fits_unless (display_string t) d s = absurd (s t refl)

-- both versions have what the older one has
pub fits_either : (version : Version) (kind : FieldKind) (raw : RawField kind) → Fits Rfc8941 kind raw
    → Fits version kind raw
fits_either Rfc8941 kind raw h = h
fits_either Rfc9651 kind raw h = all_fit_newer (bare_values kind raw)
