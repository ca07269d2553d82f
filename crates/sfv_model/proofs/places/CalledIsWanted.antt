-- Where the readers of a field call that of bare items, or of keys, one is wanted.
use Rattle.std.proofs.Common.{◌≡◌, ℕ, Bool, true, false, List, [], ◌∷◌, ◌++◌, length, drop, Ok, Err, refl, sym, ap}
use Rattle.std.proofs.Common.{subst, ◌∙◌, append_assoc, arith, inl, inr, ◌⊎◌, length-drop, codes, append-nil, take_at}
use Rattle.std.proofs.Common.{drop_at, length-append}
use Rattle.sfv_spec.specs.{Events.events, Faults.{WantedFault, delimiter, end}, Grammar.{IsFieldText, IsAccepted}}
use Rattle.sfv_spec.specs.{Reach.{BeginsAccepted, WantsBareItem, WantsKey}, Values.{RawField, BareValue}}
use Rattle.sfv_spec.proofs.Marks.{space, asterisk, comma, digit_one, question_mark}
use Rattle.sfv_model.specs.{Bare.{boolean_at, bare_at}, Claims.IsPlacedFault}
use Rattle.sfv_model.specs.{Fields.{whole_field_at, ending, read_field}, Items.key_at, Judgements.{Reached, IsFault}}
use Rattle.sfv_model.specs.Places.{IsOfBare, IsOfComma, IsOfWanted, IsOfOpenList, BareIsWanted}
use Rattle.sfv_model.specs.Reader.{Fault, Answer, fail, give, bind, branch, span}
use Rattle.sfv_model.proofs.{Theorems.{read_is_accepted, fault_is_placed}, TrailingBytes.{key_fault, comes_from}}
use Rattle.sfv_model.proofs.Types.{FieldKind, item_field, list_field, dictionary_field, Version, ErrorKind}
use Rattle.sfv_model.proofs.Types.{TrailingComma, TrailingCharactersAfterMember, TrailingCharactersAfterParsedValue}
use Rattle.sfv_model.proofs.Types.{ExpectedInnerListDelimiter, UnterminatedInnerList, ExpectedStartOfKey}
use Rattle.sfv_model.proofs.faults.{BetweenInnerItems.{Stands, IsLastComma}, Fields.{HasMembers, field_rules}}
use Rattle.sfv_model.proofs.faults.{ItemEnds.not_last, MembersToEnd.field_none, TrailingCommas.not_item}
use Rattle.sfv_model.proofs.places.{Calls.{bare, key, Stuck, Calls}, CallsOfReaders.Ever}
use Rattle.sfv_model.proofs.places.FaultsOfCalls.{faulty, Met, Elsewhere, Found, called, elsewhere}
use Rattle.sfv_model.proofs.sound.{Combinators.Somewhere, Fields.{FieldGoes, Sound-field}}

-- what stands in front of an exact fault begins an accepted text
pub begins_to : (version : Version) (kind : FieldKind) (u r : List ℕ) (e : Fault)
    → read_field version kind (u ++ r) ≡ Err e → e.exact ≡ true → e.rest ≡ r → BeginsAccepted version kind u
begins_to version kind u r e i exact rest =
    let p : IsPlacedFault version kind (u ++ r) e = fault_is_placed version kind (u ++ r) e i in
    let h = p.exact exact in
    let size : length (drop h.0 (u ++ r)) ≡ length r = ap (length {A = ℕ}) (h.1 ∙ rest) in
    let n : h.0 ≡ length u = omega (arith, h.2.within, length-drop {A = ℕ}, length-append {A = ℕ}) in
    rw (← take_at u r h.0 (sym n)) h.2.holds

-- a fault of the readers is one of the field
pub ends_faulty : (version : Version) (kind : FieldKind) (t : List ℕ) (e : Fault)
    → whole_field_at version kind t ≡ Err e → read_field version kind t ≡ Err e
unfolding read_field
ends_faulty version kind t e i = ap (ending (events kind)) i

-- what is read up to the byte 0 begins an accepted text
pub begins_stuck : (version : Version) (kind : FieldKind) (u : List ℕ)
    → Stuck (whole_field_at version kind (u ++ 0 ∷ [])) → BeginsAccepted version kind u
unfolding read_field
begins_stuck version kind u s = on (whole_field_at version kind (u ++ 0 ∷ [])) refl s
  where
    on : (a : Answer (RawField kind)) → whole_field_at version kind (u ++ 0 ∷ []) ≡ a → Stuck a
        → BeginsAccepted version kind u
    on (Ok x) i s =
        begins_to version kind u (0 ∷ []) _ (ap (ending (events kind)) (i
        ∙ ap (λ (l : List ℕ). Ok (x.0, l)) s)) refl refl
    on (Err e) i s = begins_to version kind u (0 ∷ []) e (ap (ending (events kind)) i) s.0 s.1

pub not_accepted : (version : Version) (kind : FieldKind) (t : List ℕ) → IsFault (whole_field_at version kind t)
    → ¬ IsAccepted version kind t
not_accepted version kind t f a =
    let read = (read_is_accepted version kind t a.0).1 a.1 in
    let fault = ends_faulty version kind t f.0 f.1 in absurd cc

pub wants_bare : (version : Version) (kind : FieldKind) (u : List ℕ)
    → Calls version bare (whole_field_at version kind) u → WantsBareItem version kind u
unfolding bare_at boolean_at branch fail give
wants_bare version kind u h = record {
  true_follows = begins_stuck version kind (u ++ codes "?1")
      (rw (append_assoc u (codes "?1") (0 ∷ [])) (h.follows question_mark (codes "1" ++ 0 ∷ []) refl refl));
  not_in_string = λ b. not_accepted version kind ((u ++ codes "((") ++ b.0)
      (let m = h.barred b.0 in (m.0, ap (whole_field_at version kind) (append_assoc u (codes "((") b.0) ∙ m.1)) b.1;
}

pub wants_key : (version : Version) (kind : FieldKind) (u : List ℕ)
    → Calls version key (whole_field_at version kind) u → WantsKey version kind u
unfolding key_at branch fail span bind give
wants_key version kind u h = record {
  key_follows = begins_stuck _ _ _ (rw (append_assoc u (codes "*") (0 ∷ [])) (h.follows asterisk (0 ∷ []) refl refl));
  not_in_word = λ b. not_accepted _ _ _ (let m = h.follows digit_one b.0 refl in
      (m.0, ap (whole_field_at version kind) (append_assoc u (codes "1") b.0) ∙ m.1)) b.1;
}

-- ---- the faults

abbrev Sorted : Version → FieldKind → List ℕ → Fault → Type 0
Sorted version kind t e = IsOfBare version kind t e ⊎ (IsOfComma version kind t e
    ⊎ ((e.exact ≡ true) × (IsOfWanted version kind t e ⊎ IsOfOpenList version kind t e)))

at_comma : (version : Version) (kind : FieldKind) (t : List ℕ) (e : Fault) → IsLastComma (IsFieldText version kind)
    (HasMembers kind) t e.rest → e.kind ≡ TrailingComma → e.exact ≡ false → IsOfComma version kind t e
at_comma version kind t e c k x = record {
  index = length c.front;
  here = ap (drop (length c.front)) c.text ∙ drop_at c.front (comma ∷ c.whitespace) _ refl ∙ sym c.here;
  kind_of = k;
  inexact = x;
  trails = record {
    many = c.has.0;
    before = c.front;
    whitespace = c.whitespace;
    raw = c.value;
    text = c.text ∙ simp append_assoc;
    blank = c.blank;
    accepted = c.means;
    member = c.has.1;
    here = refl;
  };
}

-- those between bare items
by_kind : (version : Version) (kind : FieldKind) (t : List ℕ) (e : Fault) (k : ErrorKind) (b : Bool) → e.kind ≡ k
    → e.exact ≡ b → Elsewhere k b
    → Stands (IsFieldText version kind) (events kind) (HasMembers kind) k t e.rest e.events → Sorted version kind t e
by_kind version kind t e ExpectedInnerListDelimiter true i x h s = inr (inr (
  x,
  inl (record { before = s.front; text = s.text; wanted = rw i (delimiter (s.longer refl)) }),
))
by_kind version kind t e UnterminatedInnerList true i x h s =
    let whole : t ≡ s.front = s.text ∙ ap (λ (l : List ℕ). s.front ++ l) (s.ends refl) ∙ append-nil s.front in
    inr (inr (
      x,
      inr (record {
        kind_of = i;
        rest = s.ends refl;
        closes = subst (λ (l : List ℕ). IsAccepted version kind (l ++ codes ")")) (sym whole) (s.closes.0, s.closes.1);
        no_space = λ u. not_last space t u (rw whole s.tight);
      }),
    ))
by_kind version kind t e TrailingCharactersAfterMember true i x h s = inr (inr (
  x,
  inl (record {
    before = s.front;
    text = s.text;
    wanted = rw i (WantedFault.comma s.value (not_item kind s.has.0) s.means s.has.1);
  }),
))
by_kind version kind t e TrailingComma false i x h s = inr (inl (at_comma version kind t e s i x))
by_kind version kind t e _ _ i x h s = absurd h

of_key : (version : Version) (kind : FieldKind) (t before s : List ℕ) (e : Fault) → t ≡ before ++ s
    → Calls version key (whole_field_at version kind) before → Met (faulty e) s (key_at s) → Sorted version kind t e
of_key version kind t before s e parts c m = on (key_at s) refl m
  where
    on : (a : Answer (List ℕ)) → key_at s ≡ a → Met (faulty e) s a → Sorted version kind t e
    on (Ok x) i m = absurd m
    on (Err x) i m =
        let same = key_fault s x i in
        let k : ExpectedStartOfKey ≡ e.kind = ap (λ (e : Fault). e.kind) same ∙ m.kind in
        inr (inr (
          sym m.exact ∙ ap (λ (e : Fault). e.exact) (sym same),
          inl (record {
            before = before;
            text = parts ∙ ap (λ (l : List ℕ). before ++ l) (ap (λ (e : Fault). e.rest) same ∙ m.rest);
            wanted = rw (← k) (WantedFault.key (wants_key version kind before c));
          }),
        ))

of_bare : (version : Version) (kind : FieldKind) (t before s : List ℕ) (e : Fault) → t ≡ before ++ s
    → Calls version bare (whole_field_at version kind) before → Met (faulty e) s (bare_at version s)
    → Sorted version kind t e
of_bare version kind t before s e parts c m = on (bare_at version s) refl m
  where
    on : (a : Answer BareValue) → bare_at version s ≡ a → Met (faulty e) s a → Sorted version kind t e
    on (Ok x) i m = absurd m
    on (Err x) i m = inl (record {
      before = before;
      item = s;
      place = record { text = parts; wanted = wants_bare version kind before c };
      fault = x;
      is_fault = i;
      like = m;
    })

of_field : (version : Version) (kind : FieldKind) (t : List ℕ) (e : Fault) → whole_field_at version kind t ≡ Err e
    → Found version (faulty e) (whole_field_at version kind) Ever t → Sorted version kind t e
of_field version kind t e i (called bare before s parts c some m) = of_bare version kind t before s e parts c m
of_field version kind t e i (called key before s parts c some m) = of_key version kind t before s e parts c m
of_field version kind t e i (elsewhere o) = by_kind _ _ _ _ _ _ refl refl o ((field_rules _ _).rules t e i)

-- something stands after an item
after_item : (version : Version) (kind : FieldKind) (raw : RawField kind) (t s r : List ℕ) (c : ℕ)
    → whole_field_at version kind t ≡ Ok (raw, c ∷ r) → IsFieldText version kind raw s
    → WantedFault version kind s TrailingCharactersAfterParsedValue
after_item version item_field raw t s r c i h = end refl (raw, h)
after_item version list_field raw t s r c i h = absurd (let none = field_none version list_field tt t
    (c ∷ r) raw i in cc)
after_item version dictionary_field raw t s r c i h =
    absurd (let none = field_none version dictionary_field tt t (c ∷ r) raw i in cc)

pub bare_is_wanted : BareIsWanted
unfolding read_field
bare_is_wanted version kind t e i = on (whole_field_at version kind t) refl ((Sound-field version kind).sound t) i
  where
    on : (a : Answer (RawField kind)) → whole_field_at version kind t ≡ a
        → Reached (IsFieldText version kind) (FieldGoes version kind) (Somewhere (FieldGoes version kind)) t a
        → ending (events kind) a ≡ Err e → Sorted version kind t e
    on (Ok (v, [])) j s h = absurd cc
    on (Ok (v, c ∷ r)) j s h =
        let same : record {
          kind = TrailingCharactersAfterParsedValue;
          exact = true;
          rest = c ∷ r;
          events = events kind v;
        } ≡ e = cc in
        let k : TrailingCharactersAfterParsedValue ≡ e.kind = ap (λ (e : Fault). e.kind) same in
        inr (inr (
          ap (λ (e : Fault). e.exact) (sym same),
          inl (record {
            before = s.0;
            text = s.1 ∙ ap (λ (l : List ℕ). s.0 ++ l) (ap (λ (e : Fault). e.rest) same);
            wanted = rw (← k) (after_item version kind v t s.0 r c j s.2);
          }),
        ))
    on (Err x) j s h =
        let same : x ≡ e = cc in
        let read : whole_field_at version kind t ≡ Err e = j ∙ ap (λ (e : Fault). Err e) same in
        of_field version kind t e read (comes_from version kind t e read)
