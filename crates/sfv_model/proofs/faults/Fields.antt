-- Where the faults between the members of a field stand.
use Rattle.std.proofs.Common.{◌≡◌, ℕ, List, [], ◌∷◌, ◌++◌, Option, Some, None, Ok, refl, sym, ap, subst, ◌∙◌}
use Rattle.std.proofs.Common.{append_assoc, append-nil, eqb-true, flat_map}
use Rattle.sfv_spec.specs.Events.{TreeEvent, entry_events, keyed_events, events}
use Rattle.sfv_spec.specs.Grammar.{OptionalWhitespace, IsMemberText, IsDictionaryMemberText, IsFieldText}
use Rattle.sfv_spec.specs.{Grammar.AreMembersText, Texts.{RunOf, IsJoining}, Values.{RawField, HasMember}}
use Rattle.sfv_spec.proofs.Marks.{comma, is_space, is_space_or_tab}
use Rattle.sfv_model.specs.{Commas.HasManyMembers, Fields.{comma_at, next_at, members_at, whole_field_at}}
use Rattle.sfv_model.specs.Members.{entry_at, keyed_at}
use Rattle.sfv_model.specs.Reader.{Fault, Reader, by_rule, byte, any, ahead, back, ◌>>=◌, give}
use Rattle.sfv_model.proofs.TrailingBytes.{Shuns-item, Shuns-bind, Shuns-span, Shuns-give}
use Rattle.sfv_model.proofs.Types.{FieldKind, item_field, list_field, dictionary_field, Version, TrailingComma}
use Rattle.sfv_model.proofs.{Types.TrailingCharactersAfterMember, complete.Combinators.{branch_take, bind_complete}}
use Rattle.sfv_model.proofs.faults.BetweenInnerItems.{Stands, HasNone, stands_within, Rules-other, entry_rules}
use Rattle.sfv_model.proofs.faults.BetweenInnerItems.{keyed_rules}
use Rattle.sfv_model.proofs.faults.Combinators.{Rules, Rules-give, Rules-span, Rules-led, Rules-bind, Rules-branch}
use Rattle.sfv_model.proofs.faults.Combinators.{Rules-back, Rules-ahead, Rules-any, Rules-weaker, fail_at, no_fault}
use Rattle.sfv_model.proofs.faults.{Combinators.ahead_at, InnerListCutOff.{put, put_events, spaces, members}}
use Rattle.sfv_model.proofs.faults.{ItemEnds.parted, Many.Rules-many}
use Rattle.sfv_model.proofs.sound.Combinators.{Sound-back, Steady-span, Reads, Goes}
use Rattle.sfv_model.proofs.sound.Members.{Sound-entry, Sound-keyed}
use Rattle.sfv_model.proofs.sound.Separated.{IsComma, Sound-comma, IsNext, Sound-next, Consumes-next}
use Rattle.sfv_model.proofs.sound.{Separated.dictionary_members_text, Steps.Sound-steps}
use Rattle.sfv_model.proofs.texts.Joining.{joined_split}

-- no member after the comma: the text ends
comma_none : (r q : List ℕ) → comma_at (comma ∷ r) ≡ Ok (None, q) → RunOf is_space_or_tab r
unfolding comma_at give ahead
comma_none r q i =
    let m = (Steady-span is_space_or_tab).steady r in
    on m.0 m.2 m.4 (rw m.5.0 m.5.1) (sym (branch_take _ _ _ comma r refl ∙ bind_complete _ _ _ _ _ m.3) ∙ i)
  where
    on : (s p : List ℕ) → r ≡ s ++ p → RunOf is_space_or_tab s
        → ahead any (give {A = Option (Unit {0})} (Some tt)) (give None) p ≡ Ok (None, q) → RunOf is_space_or_tab r
    on s [] e each j = subst (RunOf is_space_or_tab) (sym (e ∙ append-nil s)) each
    on s (c ∷ p) e each j =
        let pairs : ◌≡◌ {A = Option (Unit {0}) × List ℕ} (Some tt, c ∷ p) (None, q) = cc in
        let same = ap (λ (x : Option (Unit {0}) × List ℕ). x.0) pairs in absurd cc

-- it never faults
comma_rules : (V : List ℕ → Fault → Type 0) → Rules comma_at V
unfolding comma_at
comma_rules V = Rules-branch _ _ _ _ (λ c e. Rules-span is_space_or_tab _ _
    (λ z _. Rules-any _ _ _ (Rules-give _ _) (λ e j. absurd (no_fault _ [] e j)))) (Rules-give _ _)

-- there are members
abbrev HasSome : {A : Type 0} → List A → Type 0
HasSome {A} ms = (m : A) × (rest : List A) × (ms ≡ m ∷ rest)

module _ {A : Type 0} (P : A → List ℕ → Type 0) (parts : A
    → List TreeEvent) (one : Reader A) (h : Reads one P (Goes P parts))
    (stands : Rules one (λ t e. Stands P parts HasNone e.kind t e.rest e.events)) where
  abbrev All : List A → List TreeEvent
  All ms = flat_map parts ms

  abbrev Placed : List ℕ → Fault → Type 0
  Placed t e = Stands (AreMembersText P) All HasSome e.kind t e.rest e.events

  module _ (s t u : List ℕ) (m : A) (vs : List A) (each : RunOf is_space s) (k : P m t)
      (j : IsJoining (IsNext P parts one) vs u) where
    -- after spaces, a member, others and blanks
    abbrev Here : List ℕ → List ℕ → Fault → Type 0
    Here z x e = Stands (AreMembersText P) All HasSome e.kind (s ++ (t ++ (u ++ (z ++ x)))) e.rest
        (parts m ++ (All vs ++ e.events))

    whole : (z : List ℕ) → RunOf is_space_or_tab z → AreMembersText P (m ∷ vs) (s ++ (t ++ (u ++ z)))
    whole z blank = dictionary_members_text _ parts one _ _ _ _ _ each k (joined_split _ _ _ _ _ j blank)

    -- one more member, after a comma
    more : (z c x : List ℕ) → RunOf is_space_or_tab z → (w : Unit {0}) → IsComma w c → (e : Fault)
        → Stands P parts HasNone e.kind x e.rest e.events → Here z (c ++ x) e
    more z c x blank w is e o = subst (λ (es : List TreeEvent). Stands (AreMembersText P) All HasSome e.kind
        (s ++ (t ++ (u ++ (z ++ (c ++ x))))) e.rest es) (append_assoc (parts m) (All vs) e.events) (subst
        (λ (l : List ℕ). Stands (AreMembersText P) All HasSome e.kind l e.rest ((parts m ++ All vs) ++ e.events))
        (simp append_assoc) (stands_within P (AreMembersText P) parts All HasNone HasSome (s ++ (t ++ (u ++ (z ++ c))))
        (parts m ++ All vs) (λ v y n.
        let b = members m vs s t u (z ++ c) each k j (parted z c _ refl blank is) in
        let p = put P parts one _ y v b n in
        (p.0 ∷ p.1, p.2, λ n. absurd n, put_events P parts one _ y v b n)) e.kind x e.rest e.events o))

    met : (z r : List ℕ) → RunOf is_space_or_tab z → RunOf is_space_or_tab r
        → Here z (comma ∷ r) (by_rule TrailingComma (comma ∷ r))
    met z r blank blank' = record {
      front = s ++ (t ++ (u ++ z));
      whitespace = r;
      value = m ∷ vs;
      text = simp append_assoc;
      blank = blank';
      means = whole z blank;
      has = (m, vs, refl);
      here = refl;
    }

    at_comma : (z : List ℕ) → RunOf is_space_or_tab z
        → Rules (back TrailingComma comma_at >>= λ _. one >>= λ m. give (Some m)) (λ x e. (r : List ℕ) → x ≡ comma ∷ r
        → Here z x e)
    at_comma z blank = Rules-bind _ (λ _ _. Unit {0}) (λ _. Unit {0}) _ _ _
        (Sound-back _ _ _ _ _ refl tt (Sound-comma _ _)) (Rules-back _ _ _ (λ x q i r e. subst (λ (x : List ℕ). Here z x
        (by_rule TrailingComma x)) (sym e) (met _ _ blank (comma_none _ _ (ap comma_at (sym e) ∙ i)))) (comma_rules _))
        (λ c w i. Rules-bind _ _ _ _ _ _ h (Rules-weaker _ _ _ stands (λ x e o r q. more _ _ _ blank _ i e o))
        (λ y v n. Rules-give _ _))

    pub next_rules : Rules (next_at one) (λ x e. Stands (AreMembersText P) All HasSome e.kind (s ++ (t ++ (u ++ x))) e.rest
        (parts m ++ (All vs ++ e.events)))
    unfolding next_at
    next_rules = Rules-span is_space_or_tab _ _ (λ z blank. Rules-ahead any _ _ _ (λ c r e _ i. ahead_at
        (byte comma) _ _ (Here z) c r e (λ is met. (at_comma z blank).rules (c ∷ r) e met r
        (ap (λ (b : ℕ). b ∷ r) (eqb-true c comma is)))
        (λ _ q. fail_at (Option A) TrailingCharactersAfterMember (Here z) (c ∷ r) e q (record {
          front = s ++ (t ++ (u ++ z));
          value = m ∷ vs;
          text = simp append_assoc;
          means = whole z blank;
          has = (m, vs, refl);
          seen = ap (λ (l : List TreeEvent). parts m ++ l) (sym (append-nil (All vs)));
        })) i)
        (λ c r e y q. absurd cc) (λ e q. absurd (no_fault _ [] e q)))

  pub members_rules : Rules (members_at parts one) Placed
  unfolding members_at
  members_rules = Rules-span _ _ _ (λ s each. Rules-any _ _ _ (Rules-bind _ _ _ _ _ _ h (Rules-weaker _ _ _ stands (λ x
      e o. stands_within _ _ _ _ _ _ _ [] (λ v t k.
      let b = spaces _ each in
      let p = put _ _ _ _ _ _ b k in
      (p.0 ∷ p.1, p.2, λ n. absurd n, put_events P parts one s t v b k)) e.kind x e.rest e.events o)) (λ t m k.
      Rules-led _ _ _ (Rules-bind _ _ _ _ _ _ (Sound-steps _ _ _ [] refl _ (Sound-next _ _ _ h)) (Rules-many
      (IsNext _ parts one) OptionalWhitespace _ _ _ _ (Consumes-next _ _ _ h) (Sound-next _ _ _ h) _ (λ u vs j.
      Rules-weaker _ _ _ (next_rules s t u m vs each k j) (λ x e o. o))) (λ u ms q. Rules-give _ _))))
      (λ e q. absurd (no_fault _ _ _ q)))

-- ---- fields

-- lists and dictionaries, with a member
abbrev pub HasMembers : (kind : FieldKind) → RawField kind → Type 0
HasMembers kind raw = HasManyMembers kind × HasMember kind raw

pub field_rules : (version : Version) (kind : FieldKind) → Rules (whole_field_at version kind)
    (λ t e. Stands (IsFieldText version kind) (events kind) (HasMembers kind) e.kind t e.rest e.events)
unfolding whole_field_at
field_rules version item_field = Rules-other _ (IsFieldText version item_field) (events item_field)
    (HasMembers item_field) (λ t. t) (λ es. es) (Shuns-bind _ _ (Shuns-span _) (λ _. Shuns-bind _ _ (Shuns-item version)
    (λ i. Shuns-bind _ _ (Shuns-span _) (λ _. Shuns-give _))))
field_rules version list_field = Rules-weaker _ _ _ (members_rules (IsMemberText version) entry_events
    (entry_at version) (Sound-entry version) (entry_rules version)) (λ t e o. stands_within
    (IsFieldText version list_field) (IsFieldText version list_field) (events list_field) (events list_field) HasSome
    (HasMembers list_field) [] [] (λ ms s h. (ms, h, λ some. (tt, some), refl)) e.kind t e.rest e.events o)
field_rules version dictionary_field = Rules-weaker _ _ _ (members_rules (IsDictionaryMemberText version) keyed_events
    (keyed_at version) (Sound-keyed version) (keyed_rules version)) (λ t e o. stands_within
    (IsFieldText version dictionary_field) (IsFieldText version dictionary_field) (events dictionary_field)
    (events dictionary_field) HasSome (HasMembers dictionary_field) [] [] (λ ms s h. (ms, h, λ some. (tt, some), refl))
    e.kind t e.rest e.events o)
