-- Where a bare item or a key is wanted, the readers of a field call the reader of it.
use Rattle.std.proofs.Common.{◌≡◌, ℕ, ◌≤◌, Bool, true, false, List, [], ◌∷◌, ◌++◌, length, Ok, Err, refl, sym, ap}
use Rattle.std.proofs.Common.{subst, ◌∙◌, append_assoc, arith, inl, inr, ◌⊎◌, codes, IsTrue, true≢false, append-nil}
use Rattle.std.{proofs.Common.length-append, specs.List.list_all}
use Rattle.std.proofs.lemmas.Bool.{and_from, and_parts, cases_Bool, not-true, Decides.nat_tests}
use Rattle.std.proofs.lemmas.List.{append_cancel_right}
use Rattle.sfv_spec.specs.{Classes.{is_key_start, is_key_inner, is_key, is_token_inner}, Events.TreeEvent}
use Rattle.sfv_spec.specs.{Grammar.{IsAccepted, IsBareText, IsKeyText}, Reach.{BeginsAccepted, WantsBareItem, WantsKey}}
use Rattle.sfv_spec.specs.{Texts.{RunOf, begins_with}, Values.{RawField, BareValue}}
use Rattle.sfv_spec.proofs.{Bare.{is_bare_start, bare_begins}, Marks.{asterisk, question_mark}}
use Rattle.sfv_model.specs.{Bare.bare_at, Fields.whole_field_at, Places.{is_beginning, WantedBareIsRead}}
use Rattle.sfv_model.specs.Reader.{Fault, Answer, Reader, at_reach}
use Rattle.sfv_model.proofs.Types.{FieldKind, Version, ExpectedStartOfBareItem}
use Rattle.sfv_model.proofs.complete.{Bare.bare_complete, Combinators.Apart-cons, Fields.field_complete}
use Rattle.sfv_model.proofs.{complete.Items.key_complete, faults.InsideBareItem.{mark_inside, asterisk_inside}}
use Rattle.sfv_model.proofs.places.CalledIsWanted.{ends_faulty, begins_stuck}
use Rattle.sfv_model.proofs.places.{Calls.{bare, key, blocked, Follows, Calls}, CallsOfReaders.{Ever, walk-field}}
use Rattle.sfv_model.proofs.places.FaultsOfCalls.{eaten, marked, Met, Found, called, elsewhere, run_has}
use Rattle.sfv_model.proofs.sound.{Bare.Sound-bare, Combinators.{Reads, sound_at, run_cons, run_head, run_tail}}
use Rattle.sfv_model.proofs.{sound.Items.Sound-key, visits.BareFaultOffReach.{no_bare, nothing_there}}

-- ---- lists

-- a byte that was read stands in what was read
front_split : (u m p r : List ℕ) (c : ℕ) → u ++ c ∷ m ≡ p ++ r → length r ≤ length m → (w : List ℕ) × (p ≡ u ++ c ∷ w)
front_split u m [] r c e le = absurd (omega (arith, le, ap (length {A = ℕ}) e, length-append u (c ∷ m)))
front_split [] m (x ∷ p) r c e le = let same : x ≡ c = cc in (p, ap (λ (x : ℕ). x ∷ p) same)
front_split (y ∷ u) m (x ∷ p) r c e le =
    let same : x ≡ y = cc in
    let tails : u ++ c ∷ m ≡ p ++ r = cc in
    let w = front_split u m p r c tails le in
    (w.0, ap (λ (x : ℕ). x ∷ p) same ∙ ap (λ (l : List ℕ). y ∷ l) w.1)

begins_part : (version : Version) (kind : FieldKind) (u v : List ℕ) → BeginsAccepted version kind (u ++ v)
    → BeginsAccepted version kind u
begins_part version kind u v b = (v ++ b.0, rw (← append_assoc u v b.0) b.1)

-- ---- keys

start_inner : (c : ℕ) → is_key_start c ≡ true → is_key_inner c ≡ true
start_inner c e = grind (arith, nat_tests)

-- a key and bytes that go on with it
key_longer : (c : ℕ) (x w more : List ℕ) → is_key (c ∷ (x ++ w)) ≡ true → RunOf is_key_inner more
    → IsKeyText (c ∷ (x ++ more)) (c ∷ (x ++ more))
key_longer c x w more h each =
    let p = and_parts (is_key_start c) (list_all is_key_inner (x ++ w)) h in
    (and_from (is_key_start c) (list_all is_key_inner (x ++ more)) p.0 (run_front x p.1), refl)
  where
    run_front : (x : List ℕ) → RunOf is_key_inner (x ++ w) → RunOf is_key_inner (x ++ more)
    run_front [] k = each
    run_front (d ∷ x) k = run_cons is_key_inner d (x ++ more) (run_head is_key_inner d (x ++ w) k)
        (run_front x (run_tail is_key_inner d (x ++ w) k))

key_run : (k s : List ℕ) → IsKeyText k s → RunOf is_key_inner s
key_run [] s h = absurd (true≢false (sym h.0))
key_run (c ∷ k) s h =
    let p = and_parts (is_key_start c) (list_all is_key_inner k) h.0 in
    rw h.1 (run_cons is_key_inner c k (start_inner c p.0) p.1)

-- ---- whole texts, read after a place

bare_free : (c : ℕ) → is_bare_start c ≡ true → blocked bare c ≡ false
bare_free c h = grind (arith, nat_tests)

key_free : (c : ℕ) → is_key_start c ≡ true → blocked key c ≡ false
key_free c h = grind (arith, nat_tests)

module _ (version : Version) (kind : FieldKind) where
  abbrev Field : Reader (RawField kind)
  Field = whole_field_at version kind

  pub bare_stuck : (before s : List ℕ) (w : BareValue) → Calls version bare Field before → IsBareText version w s
      → BeginsAccepted version kind (before ++ s)
  bare_stuck before [] w c h = absurd (true≢false (sym (bare_begins version w [] h)))
  bare_stuck before (d ∷ s) w c h =
      let read = bare_complete version w (d ∷ s) (0 ∷ []) h (Apart-cons is_token_inner 0 [] refl) in
      let on = c.follows d (s ++ 0 ∷ []) (bare_free d (bare_begins version w (d ∷ s) h)) in
      let follows : Follows {A = BareValue} (Ok (w, 0 ∷ [])) (Field (before ++ d ∷ (s ++ 0 ∷ []))) =
      subst (λ (a : Answer BareValue). Follows a (Field (before ++ d ∷ (s ++ 0 ∷ [])))) read on in
      begins_stuck version kind (before ++ d ∷ s) (rw (append_assoc before (d ∷ s) (0 ∷ [])) (follows refl))

  key_stuck : (before : List ℕ) (d : ℕ) (s : List ℕ) → Calls version key Field before → is_key_start d ≡ true
      → IsKeyText (d ∷ s) (d ∷ s) → BeginsAccepted version kind (before ++ d ∷ s)
  key_stuck before d s c start h =
      let read = key_complete (d ∷ s) (d ∷ s) (0 ∷ []) h (Apart-cons is_key_inner 0 [] refl) in
      let on = c.follows d (s ++ 0 ∷ []) (key_free d start) in
      let follows : Follows {A = List ℕ} (Ok (d ∷ s, 0 ∷ [])) (Field (before ++ d ∷ (s ++ 0 ∷ []))) =
      subst (λ (a : Answer (List ℕ)). Follows a (Field (before ++ d ∷ (s ++ 0 ∷ [])))) read on in
      begins_stuck version kind (before ++ d ∷ s) (rw (append_assoc before (d ∷ s) (0 ∷ [])) (follows refl))

  -- the leaf that takes a marked byte of an accepted text
  found : (u : List ℕ) (b : Bool) (m : List ℕ) → IsAccepted version kind (u ++ marked b ∷ m)
      → Found version (eaten b m) Field Ever (u ++ marked b ∷ m)
  found u b m a =
      let read : Field (u ++ marked b ∷ m) ≡ Ok (a.0, []) = field_complete version kind a.0 (u ++ marked b ∷ m) a.1 in
      (walk-field version (eaten b m) kind).walk (u ++ marked b ∷ m) (rw read (u, refl, omega arith))

  -- what a leaf has read, with the marked byte in it
  pub at_leaf : {A : Type 0} {f : Reader A} {P : A → List ℕ → Type 0} {W : List ℕ → List TreeEvent → Type 0}
      → Reads f P W → (b : Bool) (m s : List ℕ) → Met (eaten b m) s (f s)
      → (x w : List ℕ) × (v : A) × (s ≡ x ++ marked b ∷ m) × P v (x ++ marked b ∷ w)
  at_leaf {A} {f} {P} reads b m s met = on (f s) refl met
    where
      on : (a : Answer A) → f s ≡ a → Met (eaten b m) s a
          → (x : List ℕ) × (w : List ℕ) × (v : A) × (s ≡ x ++ marked b ∷ m) × P v (x ++ marked b ∷ w)
      on (Err x) i h = absurd h
      on (Ok y) i h =
          let r = sound_at reads s (Ok y) i in
          let p = front_split h.0 m r.0 y.1 (marked b) (sym h.1 ∙ r.1) h.2 in
          (h.0, p.0, y.0, h.1, rw (← p.1) r.2)

  -- ---- bare items

  no_mark_in_key : (x w v : List ℕ) → IsKeyText v (x ++ question_mark ∷ w) → ⊥
  no_mark_in_key x w v h = true≢false (sym (run_has is_key_inner x w (x ++ question_mark ∷ w) [] question_mark
      (sym (append-nil _)) (omega arith) (key_run v (x ++ question_mark ∷ w) h)))

  -- the mark begins a bare item, or two parentheses can stand in its place
  by_mark : (u before x w : List ℕ) (v : BareValue) → u ≡ before ++ x → Calls version bare Field before
      → IsBareText version v (x ++ question_mark ∷ w) → ¬ BeginsAccepted version kind (u ++ codes "((")
      → Calls version bare Field u
  by_mark u before [] w v parts c h out = rw (parts ∙ append-nil before) c
  by_mark u before (d ∷ x) w v parts c h out =
      let m = mark_inside version v d x w h in
      let b = bare_stuck before (d ∷ x ++ codes "((" ++ m.1) m.0 c m.2 in
      absurd (out (begins_part version kind (u ++ codes "((") m.1 (subst (BeginsAccepted version kind)
      (simp (append_assoc, append_assoc, parts)) b)))

  -- a question mark may follow, and two parentheses may not
  calls_marked : (u : List ℕ) → BeginsAccepted version kind (u ++ codes "?")
      → ¬ BeginsAccepted version kind (u ++ codes "((") → Calls version bare Field u
  calls_marked u mark out = on (found u true mark.0 (rw (← append_assoc u (codes "?") mark.0) mark.1))
    where
      on : Found version (eaten true mark.0) Field Ever (u ++ question_mark ∷ mark.0) → Calls version bare Field u
      on (called bare before s parts c some met) =
          let m = at_leaf (Sound-bare version) true mark.0 s met in
          by_mark u before m.0 m.1 m.2 (append_cancel_right u (before ++ m.0) (question_mark ∷ mark.0)
          (parts ∙ ap (λ (l : List ℕ). before ++ l) m.3 ∙ sym (append_assoc before m.0 (question_mark ∷ mark.0))))
          c m.4 out
      on (called key before s parts c some met) =
          let m = at_leaf Sound-key true mark.0 s met in
          absurd (no_mark_in_key m.0 m.1 m.2 m.4)
      on (elsewhere o) = absurd o

  pub calls_wanted : (u : List ℕ) → WantsBareItem version kind u → Calls version bare Field u
  calls_wanted u h = calls_marked u (begins_part version kind (u ++ codes "?") (codes "1")
      (rw (append_assoc u (codes "?") (codes "1")) h.true_follows)) h.not_in_string

  -- ---- keys

  by_bare : (u before x w : List ℕ) (v : BareValue) → u ≡ before ++ x → Calls version bare Field before
      → IsBareText version v (x ++ asterisk ∷ w) → BeginsAccepted version kind (u ++ codes "1")
  by_bare u before x w v parts c h =
      let m = asterisk_inside version v x w h in
      let b = bare_stuck before (x ++ codes "1" ++ m.1) m.0 c m.2 in
      begins_part version kind (u ++ codes "1") m.1 (rw
      (← sym (append_assoc before (x ++ codes "1") m.1) ∙ ap (λ (l : List ℕ). l ++ m.1)
      (sym (append_assoc before x (codes "1")) ∙ ap (λ (l : List ℕ). l ++ codes "1") (sym parts))) b)

  by_key : (u before x w v : List ℕ) → u ≡ before ++ x → Calls version key Field before
      → IsKeyText v (x ++ asterisk ∷ w) → ¬ BeginsAccepted version kind (u ++ codes "1") → Calls version key Field u
  by_key u before [] w v parts c h out = rw (parts ∙ append-nil before) c
  by_key u before (d ∷ x) w v parts c h out =
      let is : is_key (d ∷ (x ++ asterisk ∷ w)) ≡ true = ap is_key h.1 ∙ h.0 in
      let p = and_parts (is_key_start d) (list_all is_key_inner (x ++ asterisk ∷ w)) is in
      let b = key_stuck before d (x ++ codes "1") c p.0 (key_longer d x (asterisk ∷ w) (codes "1") is refl) in
      absurd (out
      (rw (← sym (append_assoc before (d ∷ x) (codes "1")) ∙ ap (λ (l : List ℕ). l ++ codes "1") (sym parts)) b))

  pub calls_wanted_key : (u : List ℕ) → WantsKey version kind u → Calls version key Field u
  calls_wanted_key u h = on (found _ _ _ (rw (← append_assoc u (codes "*") h.key_follows.0) h.key_follows.1))
    where
      on : Found version (eaten false h.key_follows.0) Field Ever (u ++ asterisk ∷ h.key_follows.0) → Calls version key Field u
      on (called bare before s parts c some met) =
          let m = at_leaf (Sound-bare version) false h.key_follows.0 s met in
          absurd (h.not_in_word (by_bare u before m.0 m.1 m.2 (append_cancel_right u (before ++ m.0) (asterisk ∷ h.key_follows.0)
          (parts ∙ ap (λ (l : List ℕ). before ++ l) m.3 ∙ sym (append_assoc before m.0 (asterisk ∷ h.key_follows.0))))
          c m.4))
      on (called key before s parts c some met) =
          let m = at_leaf Sound-key false h.key_follows.0 s met in
          by_key u before m.0 m.1 m.2 (append_cancel_right u (before ++ m.0) (asterisk ∷ h.key_follows.0)
          (parts ∙ ap (λ (l : List ℕ). before ++ l) m.3 ∙ sym (append_assoc before m.0 (asterisk ∷ h.key_follows.0))))
          c m.4 h.not_in_word
      on (elsewhere o) = absurd o

-- ---- the faults

-- a byte that may stand in front of a bare item begins none
none_begun : (version : Version) (c : ℕ) (r : List ℕ) → blocked bare c ≡ true
    → bare_at version (c ∷ r) ≡ Err (at_reach ExpectedStartOfBareItem (c ∷ r))
none_begun version c r h = no_bare version c r (grind (arith, nat_tests)) (grind (arith, nat_tests))
    (grind (arith, nat_tests)) (grind (arith, nat_tests)) (grind (arith, nat_tests)) (grind (arith, nat_tests))
    (grind (arith, nat_tests))

-- a bare item is begun, or could be
abbrev Opening : List ℕ → Type 0
Opening s = (c : ℕ) × (r : List ℕ) × (s ≡ c ∷ r) × (blocked bare c ≡ false)

opening : (version : Version) (s : List ℕ) (x : Fault) → bare_at version s ≡ Err x
    → (¬ (x.kind ≡ ExpectedStartOfBareItem)) ⊎ IsTrue (begins_with is_beginning s) → Opening s
opening version [] x i (inr h) = absurd (true≢false (sym h))
opening version [] x i (inl n) =
    let both = sym (nothing_there version) ∙ i in
    let same : at_reach ExpectedStartOfBareItem [] ≡ x = cc in
    absurd (n (ap (λ (x : Fault). x.kind) (sym same)))
opening version (c ∷ r) x i (inr h) = (c, r, refl, not-true (blocked bare c) h)
opening version (c ∷ r) x i (inl n) = elim (cases_Bool (blocked bare c)) [
  | inl y ↦
      let both = sym (none_begun version c r y) ∙ i in
      let same : at_reach ExpectedStartOfBareItem (c ∷ r) ≡ x = cc in
      absurd (n (ap (λ (x : Fault). x.kind) (sym same)))
  | inr f ↦ (c, r, refl, f)
]

pub wanted_bare_is_read : WantedBareIsRead
wanted_bare_is_read version kind t before s x place i side =
    let o = opening version s x i side in
    let c = calls_wanted version kind before place.wanted in
    let on = c.follows o.0 o.1 o.3 in
    let follows : Follows {A = BareValue} (Err x) (whole_field_at version kind (before ++ o.0 ∷ o.1)) =
    subst (λ (a : Answer BareValue). Follows a (whole_field_at version kind (before ++ o.0 ∷ o.1)))
    (ap (bare_at version) (sym o.2) ∙ i) on in (
      follows.0,
      simp (place.text, o.2, ends_faulty version kind (before ++ o.0 ∷ o.1) follows.0 follows.1),
      follows.2,
    )
