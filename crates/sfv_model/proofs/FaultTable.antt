-- The fault of the reader is that of the table of faults, and no other is.
use Rattle.std.proofs.Common.{◌≡◌, ℕ, ◌+◌, ◌-◌, ◌≤◌, Bool, true, false, List, ◌++◌, length, take, Result, Ok, Err, refl}
use Rattle.std.proofs.Common.{sym, ap, subst, ◌∙◌, inl, inr, arith, ◌⊎◌, true≢false, length-append, length-drop}
use Rattle.std.proofs.{Common.take_at, lemmas.Bool.cases_Bool}
use Rattle.sfv_spec.specs.Faults.{RuledFault, BareItemFault, BegunFault, WantedFault, IsWantedAt, IsFaultAt}
use Rattle.sfv_spec.specs.{Grammar.IsAccepted, Reach.IsReach, Values.RawField}
use Rattle.sfv_spec.proofs.Versions.{one_reach_lem}
use Rattle.sfv_model.specs.{Fields.read_field, Places.{IsLike, IsOfBare}, Reader.{Fault, has_rule}}
use Rattle.sfv_model.proofs.Theorems.{read_is_accepted, fault_is_placed}
use Rattle.sfv_model.proofs.Types.{FieldKind, Version, ErrorKind, ExpectedStartOfBareItem, ExpectedStartOfKey}
use Rattle.sfv_model.proofs.Types.{ExpectedInnerListDelimiter, TrailingCharactersAfterMember}
use Rattle.sfv_model.proofs.Types.{TrailingCharactersAfterParsedValue}
use Rattle.sfv_model.proofs.faults.{BareFaultIsRow.bare_fault_has_row, BareRowIsFault.bare_row_is_given}
use Rattle.sfv_model.proofs.faults.{BareRuleIsFault.ruled_is_given, InnerListCutOff.open_list_is_read}
use Rattle.sfv_model.proofs.{faults.TrailingCommas.{comma_row, not_item}, places.CalledIsWanted.bare_is_wanted}
use Rattle.sfv_model.proofs.places.{OneWanted.one_wanted, WantedIsCalled.wanted_bare_is_read}
use Rattle.sfv_spec.specs.Faults as faults

-- ---- kinds

-- a kind that says what is wanted
abbrev is_want : ErrorKind → Bool
is_want ExpectedStartOfBareItem = true
is_want ExpectedStartOfKey = true
is_want ExpectedInnerListDelimiter = true
is_want TrailingCharactersAfterMember = true
is_want TrailingCharactersAfterParsedValue = true
is_want _ = false

-- it has no rule
want_unruled : (k : ErrorKind) → is_want k ≡ true → has_rule k ≡ false
want_unruled ExpectedStartOfBareItem h = refl
want_unruled _ h = cc

wanted_kind : (version : Version) (kind : FieldKind) (u : List ℕ) (f : ErrorKind) → WantedFault version kind u f
    → is_want f ≡ true
wanted_kind version kind u _ (faults.bare_item _) = refl
wanted_kind version kind u _ _ = refl

ruled_kind : (version : Version) (kind : FieldKind) (t : List ℕ) (f : ErrorKind) (i : ℕ)
    → RuledFault version kind t f i → is_want f ≡ false
ruled_kind version kind t _ _ (faults.bare _ _ _ _ _ (faults.display _ _ _ _ _ _ _ (faults.open_display _ _))) = refl
ruled_kind version kind t _ _ _ = refl

begun_kind : (version : Version) (kind : FieldKind) (t : List ℕ) (f : ErrorKind) (i : ℕ)
    → BegunFault version kind t f i → is_want f ≡ false
begun_kind version kind t _ _ (faults.bare _ _ _ _ _ (faults.no_boolean _ _)) = refl
begun_kind version kind t _ _ _ = refl

-- ---- the text in front of a fault

-- the text in front of what is left
taken_here : (t u rest : List ℕ) → t ≡ u ++ rest → take (length t - length rest) t ≡ u
taken_here t u rest e =
    let here : length t - length rest ≡ length u = omega (arith, ap (length {A = ℕ}) e, length-append u rest) in
    rw here (ap (take (length u)) e ∙ take_at u rest _ refl)

module _ (version : Version) (kind : FieldKind) where
  rejected : (t : List ℕ) (e : Fault) → read_field version kind t ≡ Err e → ¬ IsAccepted version kind t
  rejected t e h a = let r = (read_is_accepted version kind t a.0).1 a.1 in absurd cc

  -- an exact fault stands at the reach
  at_the_reach : (t : List ℕ) (e : Fault) → read_field version kind t ≡ Err e → e.exact ≡ true
      → (length e.rest ≤ length t) × IsReach version kind t (length t - length e.rest)
  at_the_reach t e h x =
      let p = (fault_is_placed version kind t e h).exact x in
      let n = ap (length {A = ℕ}) p.1 in
      let within = p.2.within in
      let same : p.0 ≡ length t - length e.rest = omega (arith, n, length-drop p.0 t, within) in
      (omega (arith, n, length-drop p.0 t), subst (IsReach version kind t) same p.2)

  -- and so does one that says what is wanted
  want_exact : (t : List ℕ) (e : Fault) → read_field version kind t ≡ Err e → is_want e.kind ≡ true → e.exact ≡ true
  want_exact t e h w = elim (cases_Bool e.exact) [
    | inl y ↦ y
    | inr n ↦ absurd (true≢false (sym ((fault_is_placed version kind t e h).ruled n) ∙ want_unruled e.kind w))
  ]

  -- ---- what the table gives, the reader gives

  record IsGiven (t : List ℕ) (f : ErrorKind) (i : ℕ) (exact : Bool) : Type 0 where
    fault : Fault
    read : read_field version kind t ≡ Err fault
    kind_of : fault.kind ≡ f
    exact_of : fault.exact ≡ exact
    here : i + length fault.rest ≡ length t

  ruled_given : (t : List ℕ) (f : ErrorKind) (i : ℕ) → RuledFault version kind t f i → IsGiven t f i false
  ruled_given t f i h = elim (ruled_is_given version kind t f i h) [
    | inl c ↦ record {
      fault = _;
      read = (comma_row version kind t i c.1).1;
      kind_of = sym c.0;
      exact_of = refl;
      here = omega (arith, length-drop i t, c.1.here, ap (length {A = ℕ}) c.1.text, length-append {A = ℕ});
    }
    | inr b ↦
        let w = wanted_bare_is_read version kind t b.before b.s b.fault b.place b.given (inl (λ e.
        true≢false (ap is_want (sym e ∙ b.kind) ∙ ruled_kind version kind t f i h))) in
        record {
          fault = w.0;
          read = w.1;
          kind_of = sym w.2.kind ∙ b.kind;
          exact_of = sym w.2.exact ∙ b.exact;
          here = ap (λ (l : List ℕ). i + length l) (sym w.2.rest) ∙ b.here;
        }
  ]

  begun_given : (t : List ℕ) (f : ErrorKind) (i : ℕ) → BegunFault version kind t f i → IsGiven t f i true
  begun_given t f _ (faults.bare before s there text wanted row) =
      let r = bare_row_is_given version s there f row in
      let w = wanted_bare_is_read version kind t before s r.0 (record { text = text; wanted = wanted }) r.1 (inl (λ e.
      true≢false (ap is_want (sym e ∙ r.2) ∙ begun_kind version kind t f _ (faults.bare before s there text wanted row)))) in
      let exact : w.0.exact ≡ true = sym w.2.exact ∙ r.3 in
      record {
        fault = w.0;
        read = w.1;
        kind_of = sym w.2.kind ∙ r.2;
        exact_of = exact;
        here = omega (arith, (at_the_reach t w.0 w.1 exact).0, ap (length {A = ℕ}) (sym w.2.rest ∙ r.4));
      }
  begun_given t _ _ (faults.open_inner_list accepted no_space) =
      let r = open_list_is_read version kind t accepted no_space in
      record { fault = r.0; read = r.1; kind_of = r.2; exact_of = r.4; here = omega (arith, ap (length {A = ℕ}) r.3) }

  -- ---- the reader's fault is the table's

  wanted_at : (t : List ℕ) (e : Fault) → read_field version kind t ≡ Err e → e.exact ≡ true → is_want e.kind ≡ true
      → (u : List ℕ) → t ≡ u ++ e.rest → WantedFault version kind u e.kind
      → IsWantedAt version kind t e.kind (length t - length e.rest)
  wanted_at t e h x w u parts wanted = record {
    rejected = rejected t e h;
    no_rule = λ f i r. let g = ruled_given t f i r in cc;
    nothing_begun = λ f i b. let g = begun_given t f i b in let unwanted = begun_kind version kind t f i b in cc;
    reach = (at_the_reach t e h x).1;
    wanted = subst (λ (l : List ℕ). WantedFault version kind l e.kind) (sym (taken_here t u e.rest parts)) wanted;
  }

  pub fault_is_at : (t : List ℕ) (e : Fault) → read_field version kind t ≡ Err e
      → IsFaultAt version kind t e.kind (length t - length e.rest)
  fault_is_at t e h = elim (bare_is_wanted version kind t e h) [
    | inl b ↦ of_bare b (bare_fault_has_row version kind t b.before b.item b.fault b.place b.is_fault)
    | inr (inl c) ↦
        let n = ap (length {A = ℕ}) c.here in
        let m = ap (length {A = ℕ}) c.trails.text in
        let same : length t - length e.rest ≡ length c.trails.before =
        omega (arith, n, length-drop c.index t, m, c.trails.here, length-append {A = ℕ}) in
        inl (rw (c.kind_of, same) (faults.comma c.trails.before c.trails.whitespace c.trails.raw
        (not_item _ c.trails.many) c.trails.accepted c.trails.member c.trails.text c.trails.blank))
    | inr (inr (x, inl w)) ↦ inr (inr (wanted_at _ _ h x (wanted_kind _ _ _ _ w.wanted) _ w.text w.wanted))
    | inr (inr (x, inr o)) ↦
        let whole : length t - length e.rest ≡ length t = omega (arith, ap (length {A = ℕ}) o.rest) in
        inr (inl (rw (o.kind_of, whole) (faults.open_inner_list o.closes o.no_space)))
  ]
    where
      like : (x : Fault) → IsLike x e → RuledFault version kind t x.kind (length t - length x.rest)
          ⊎ BegunFault version kind t x.kind (length t - length x.rest)
          → IsFaultAt version kind t e.kind (length t - length e.rest)
      like x l (inl y) = inl (rw (← l.kind, ← l.rest) y)
      like x l (inr y) = inr (inl (rw (← l.kind, ← l.rest) y))

      of_bare : (b : IsOfBare version kind t e)
          → ((b.fault.exact ≡ true)
          × (((b.fault.kind ≡ ExpectedStartOfBareItem) × (b.fault.rest ≡ b.item))
          ⊎ BareItemFault version b.item b.fault.rest b.fault.kind))
          ⊎ ((b.fault.exact ≡ false) × RuledFault version kind t b.fault.kind (length t - length b.fault.rest))
          → IsFaultAt version kind t e.kind (length t - length e.rest)
      of_bare b (inl (x, inl (start, here))) =
          let named : e.kind ≡ ExpectedStartOfBareItem = sym b.like.kind ∙ start in
          inr (inr (wanted_at t e h (sym b.like.exact ∙ x) (ap is_want named) b.before
          (rw (← b.like.rest, here) b.place.text) (rw named (faults.bare_item b.place.wanted))))
      of_bare b (inl (x, inr row)) = like b.fault b.like (inr (faults.bare b.before b.item b.fault.rest b.place.text b.place.wanted row))
      of_bare b (inr (x, ruled)) = like b.fault b.like (inl ruled)

  -- ---- the laws

  given : (t : List ℕ) (f : ErrorKind) (i : ℕ) → IsFaultAt version kind t f i → (exact : Bool) × IsGiven t f i exact
  given t f i (inl r) = (false, ruled_given t f i r)
  given t f i (inr (inl b)) = (true, begun_given t f i b)
  given t f i (inr (inr w)) = on (read_field version kind t) refl
    where
      same_place : (e : Fault) → read_field version kind t ≡ Err e
          → IsFaultAt version kind t e.kind (length t - length e.rest) → (exact : Bool) × IsGiven t f i exact
      same_place e h (inl r) = absurd (w.no_rule e.kind _ r)
      same_place e h (inr (inl b)) = absurd (w.nothing_begun e.kind _ b)
      same_place e h (inr (inr v)) =
          let place : length t - length e.rest ≡ i = one_reach_lem version kind t _ i v.reach w.reach in
          let exact = want_exact t e h (wanted_kind version kind _ e.kind v.wanted) in (
            true,
            record {
              fault = e;
              read = h;
              kind_of = one_wanted version kind (take i t) e.kind f
                  (subst (λ (n : ℕ). WantedFault version kind (take n t) e.kind) place v.wanted) w.wanted;
              exact_of = exact;
              here = omega (arith, place, (at_the_reach t e h exact).0);
            },
          )

      on : (a : Result (RawField kind) Fault) → read_field version kind t ≡ a → (exact : Bool) × IsGiven t f i exact
      on (Ok raw) h = absurd (w.rejected (raw, (read_is_accepted version kind t raw).0 h))
      on (Err e) h = same_place e h (fault_is_at t e h)

  pub one_fault : (t : List ℕ) (f g : ErrorKind) (i j : ℕ) → IsFaultAt version kind t f i
      → IsFaultAt version kind t g j → (f ≡ g) × (i ≡ j)
  one_fault t f g i j h k =
      let a = (given t f i h).1 in
      let b = (given t g j k).1 in
      let rest : length a.fault.rest ≡ length b.fault.rest = cc in
      (cc (a.kind_of, b.kind_of), omega (arith, a.here, b.here, rest))

  pub fault_rejects : (t : List ℕ) (f : ErrorKind) (i : ℕ) → IsFaultAt version kind t f i
      → (¬ IsAccepted version kind t) × (i ≤ length t)
  fault_rejects t f i h = let a = (given t f i h).1 in (rejected t a.fault a.read, omega (arith, a.here))

  pub field_or_fault : (t : List ℕ)
      → IsAccepted version kind t ⊎ ((f : ErrorKind) × (i : ℕ) × IsFaultAt version kind t f i)
  field_or_fault t = on (read_field version kind t) refl
    where
      on : (a : Result (RawField kind) Fault) → read_field version kind t ≡ a
          → IsAccepted version kind t ⊎ ((f : ErrorKind) × (i : ℕ) × IsFaultAt version kind t f i)
      on (Ok raw) h = inl (raw, (read_is_accepted version kind t raw).0 h)
      on (Err e) h = inr (e.kind, length t - length e.rest, fault_is_at t e h)

  -- a rule applies, or something is begun that can't go on, and not both
  not_both : (t : List ℕ) (f g : ErrorKind) (i j : ℕ) → RuledFault version kind t f i → ¬ BegunFault version kind t g j
  not_both t f g i j r b =
      let a = ruled_given t f i r in
      let c = begun_given t g j b in cc

  pub ruled_or_at_reach : (t : List ℕ) (f : ErrorKind) (i : ℕ) → IsFaultAt version kind t f i
      → (RuledFault version kind t f i × ((g : ErrorKind) (j : ℕ) → ¬ BegunFault version kind t g j))
      ⊎ (((g : ErrorKind) (j : ℕ) → ¬ RuledFault version kind t g j) × IsReach version kind t i)
  ruled_or_at_reach t f i (inl r) = inl (r, λ g j b. not_both t f g i j r b)
  ruled_or_at_reach t f i (inr (inr w)) = inr (w.no_rule, w.reach)
  ruled_or_at_reach t f i (inr (inl b)) =
      let a = begun_given t f i b in
      let reach = at_the_reach t a.fault a.read a.exact_of in
      let here : length t - length a.fault.rest ≡ i = omega (arith, a.here) in
      inr (λ g j r. not_both t g f j i r b, subst (IsReach version kind t) here reach.1)
