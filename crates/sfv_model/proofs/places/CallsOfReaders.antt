-- What the readers of parameters, items and members call.
use Rattle.std.proofs.Common.{◌≡◌, ℕ, Bool, true, false, eqb, List, [], ◌∷◌, ◌++◌, Option, Some, None, Ok, Err, refl}
use Rattle.std.proofs.Common.{inl, inr, sym, ap, subst, ◌∙◌, length, arith, length-append}
use Rattle.std.proofs.lemmas.Bool.{cases_Bool, or_left, Decides.nat_tests}
use Rattle.sfv_spec.specs.Events.{TreeEvent, inner_item_events, entry_events, keyed_events}
use Rattle.sfv_spec.specs.{Grammar.{IsMemberText, IsDictionaryMemberText}, Texts.RunOf, Values.{RawParameters, RawItem}}
use Rattle.sfv_spec.proofs.Marks.{space, tab, comma, left_parenthesis, right_parenthesis, is_space, is_space_or_tab}
use Rattle.sfv_spec.proofs.Marks.{true_with}
use Rattle.sfv_model.specs.{Bare.{token_at, bare_at}, Fields.{comma_at, next_at, members_at, whole_field_at}}
use Rattle.sfv_model.specs.Items.{value_at, parameter_at, parameter_event, parameters_at, item_at}
use Rattle.sfv_model.specs.Judgements.{Reached, Local, IsFault}
use Rattle.sfv_model.specs.Members.{inner_item_at, next_item_at, inner_items_at, inner_at, member_at, entry_at}
use Rattle.sfv_model.specs.Members.{member_value_at, keyed_at, inner_of}
use Rattle.sfv_model.specs.Reader.{Fault, Answer, Reader, at_start, give, fail, ◌>>=◌, bind, led, branch, ahead, back}
use Rattle.sfv_model.specs.Reader.{span, many_within, many, byte, at_reach, one_and_more}
use Rattle.sfv_model.proofs.Types.{Version, TrailingComma, UnterminatedInnerList, FieldKind, item_field, list_field}
use Rattle.sfv_model.proofs.Types.{dictionary_field}
use Rattle.sfv_model.proofs.complete.Combinators.{Apart-cons, span_complete, back_complete, branch_take, bind_complete}
use Rattle.sfv_model.proofs.complete.Combinators.{ahead_any}
use Rattle.sfv_model.proofs.local.{Bare.Local-bare, Combinators.{local_rules, Local-span}}
use Rattle.sfv_model.proofs.local.Items.{Local-key, Local-value, Local-parameter, Local-parameters, Local-item}
use Rattle.sfv_model.proofs.local.Members.{Local-entry, Local-keyed, Local-inner_item, Local-next_item}
use Rattle.sfv_model.proofs.local.Members.{Local-next_items, Local-items, Local-member_value}
use Rattle.sfv_model.proofs.places.Calls.{Leaf, bare, key, blocked, Stuck, stuck_led, stuck_bind}
use Rattle.sfv_model.proofs.places.FaultsOfCalls.{Mark, Met, Other, met_fail, met_give, Elsewhere, Never, Only}
use Rattle.sfv_model.proofs.places.FaultsOfCalls.{is_skipped, Skips, Walk, Walk-weaker, Walk-bare, Walk-key, Walk-give}
use Rattle.sfv_model.proofs.places.FaultsOfCalls.{Walk-fail, Walk-led, Walk-bind, Walk-skip, Walk-skip_some}
use Rattle.sfv_model.proofs.places.FaultsOfCalls.{Walk-branch, Walk-branch_never, Walk-any, Walk-ahead, Walk-many}
use Rattle.sfv_model.proofs.sound.Combinators.{sound_at, run_cons, Found, Sound-back, Steady-span, Reads, Goes}
use Rattle.sfv_model.proofs.sound.{Items.Consumes-parameter, Many.Local-many}
use Rattle.sfv_model.proofs.sound.Members.{Sound-entry, Sound-keyed, Consumes-next_item}
use Rattle.sfv_model.proofs.{sound.Separated.{IsComma, Sound-comma, Consumes-next, Local-next}, texts.Ranges.run_weaker}

-- a run of blanks
pub skips_span : (class : ℕ → Bool) → ((c : ℕ) → class c ≡ true → is_space_or_tab c ≡ true) → Skips (span class)
skips_span class h = record {
  skips = λ t r v i.
      let m = (Steady-span class).steady t in
      let pairs : (v, r) ≡ (m.1, m.2) = cc in
      let same = ap (λ (x : List ℕ × List ℕ). x.0) pairs in
      let rest = ap (λ (x : List ℕ × List ℕ). x.1) pairs in
      let text : m.0 ≡ v = m.5.0 ∙ sym same in (
        v,
        cc,
        run_weaker class is_skipped (λ c e. or_left (is_space_or_tab c) (eqb c comma) (h c e)) v (rw same m.5.1),
        λ c q none. span_complete class v (c ∷ q) (rw same m.5.1) (Apart-cons class c q
            (elim (cases_Bool (class c)) [ inl y ↦ let is = h c y in absurd cc | inr n ↦ n ])),
      );
  faults = λ t e i. let m = (Steady-span class).steady t in absurd cc;
}

pub skips_spaces : Skips (span is_space)
skips_spaces = skips_span is_space (λ c e. or_left (eqb c space) (eqb c tab) e)

pub skips_blanks : Skips (span is_space_or_tab)
skips_blanks = skips_span is_space_or_tab (λ c e. e)

-- a comma and blanks
comma_at_start : (t : List ℕ) (e : Fault) (a : Answer (Option (Unit {0})))
    → Reached (Found IsComma) (λ _ _. ⊥) (λ _. ⊥) t a → at_start TrailingComma t a ≡ Err e → Elsewhere e.kind e.exact
comma_at_start t e (Ok (Some v, r)) h i = absurd cc
comma_at_start t e (Ok (None, r)) h i =
    let same : record { kind = TrailingComma; exact = false; rest = t; events = [] } ≡ e = cc in
    rw (← same) tt
comma_at_start t e (Err x) h i = elim (cases_Bool x.exact) [
  | inl y ↦ absurd ((h.0 y).holds)
  | inr n ↦ absurd ((h.1 n).0)
]

abbrev pub comma_and_more : Reader (Unit {0})
comma_and_more = back TrailingComma comma_at

comma_again : (after : List ℕ) → RunOf is_space_or_tab after → (c : ℕ) (q : List ℕ) → is_space_or_tab c ≡ false
    → comma_and_more (comma ∷ (after ++ c ∷ q)) ≡ Ok (tt, c ∷ q)
unfolding comma_at give
comma_again after each c q none = back_complete _ _ _ _ _ (branch_take _ _ _ _ _ refl ∙ bind_complete _ _ _ _ _
    (span_complete _ _ _ each (Apart-cons _ _ _ none)) ∙ ahead_any _ _ _ (omega arith))

comma_read : (t r : List ℕ) (v : Unit {0}) → comma_and_more t ≡ Ok (v, r) → (s : List ℕ) × (t ≡ s ++ r) × IsComma v s
comma_read t r v i = sound_at (Sound-back TrailingComma comma_at IsComma (λ _ _. Unit {0}) (λ _. Unit {0}) refl tt
    (Sound-comma _ _)) t _ i

skips_comma : Skips comma_and_more
unfolding back
skips_comma = record {
  skips = λ t r v i.
      let m = comma_read t r v i in
      let w : List ℕ = m.2.back in
      let text : m.0 ≡ comma ∷ w = m.2.text ∙ ap (λ (l : List ℕ). l ++ w) m.2.first in (
        comma ∷ w,
        cc (m.1, text),
        run_cons is_skipped comma w refl (run_weaker is_space_or_tab is_skipped
            (λ c e. or_left (is_space_or_tab c) (eqb c comma) e) w m.2.second),
        λ c q none. comma_again w m.2.second c q none,
      );
  faults = λ t e i. comma_at_start t e (comma_at t) ((Sound-comma (λ _ _. ⊥) (λ _. ⊥)).sound t) i;
}

comma_some : (r : List ℕ) (v : Unit {0}) → ¬ (comma_and_more r ≡ Ok (v, r))
comma_some r v i =
    let m = comma_read _ _ _ i in
    omega (
      arith,
      ap (length {A = ℕ}) m.1,
      ap (length {A = ℕ}) (m.2.text ∙ ap (λ (l : List ℕ). l ++ m.2.back) m.2.first),
      length-append {A = ℕ},
    )

pub Local-comma : Local comma_and_more
unfolding comma_at
Local-comma = search local_rules depth 40

-- ---- nothing reads the byte 0

pub stuck_give : {A : Type 0} (v : A) → Stuck (give v (0 ∷ []))
unfolding give
stuck_give v = refl

pub stuck_then : {A B : Type 0} (f : Reader A) (g : A → Reader B) → Stuck (f (0 ∷ [])) → ((v : A) → Stuck (g v (0 ∷ [])))
    → Stuck ((f >>= g) (0 ∷ []))
unfolding bind
stuck_then f g h k = stuck_bind g (f (0 ∷ [])) k h

pub stuck_after : {A : Type 0} (es : List TreeEvent) (f : Reader A) → Stuck (f (0 ∷ [])) → Stuck (led es f (0 ∷ []))
unfolding led
stuck_after es f h = stuck_led es (f (0 ∷ [])) h

pub stuck_value : (version : Version) → Stuck (value_at version (0 ∷ []))
unfolding value_at branch give
stuck_value version = refl

pub stuck_parameters : (version : Version) → Stuck (many parameter_event (parameter_at version) (0 ∷ []))
unfolding many many_within parameter_at branch give bind
stuck_parameters version = refl

pub stuck_next_items : (version : Version) → Stuck (many inner_item_events (next_item_at version) (0 ∷ []))
unfolding many many_within next_item_at branch ahead fail give bind
stuck_next_items version = (refl, refl)

pub stuck_next : {A : Type 0} (parts : A → List TreeEvent) (one : Reader A) → Stuck (many parts (next_at one) (0 ∷ []))
unfolding many many_within next_at branch ahead fail give bind span
stuck_next parts one = (refl, refl)

pub stuck_space : Stuck (span is_space (0 ∷ []))
unfolding span
stuck_space = refl

met_nothing : {A : Type 0} (mark : Mark) (v : A) → Met mark [] (give v []) → Other mark
unfolding give
met_nothing mark v m = absurd (met_give mark [] v m)

-- ---- the readers

-- each leaf
abbrev pub Ever : Leaf → Type 0
Ever leaf = Unit {0}

-- parameters, of which a value is made
pub stuck_last : (version : Version) {A : Type 0} (make : RawParameters → A)
    → Stuck ((parameters_at version >>= λ ps. give (make ps)) (0 ∷ []))
unfolding parameters_at
stuck_last version make = stuck_then _ _ (stuck_parameters version) (λ ps. stuck_give _)

pub stuck-member_value : (version : Version) → Stuck (member_value_at version (0 ∷ []))
unfolding member_value_at branch
stuck-member_value version = stuck_after _ _ (stuck_last version true_with)

module _ (version : Version) (mark : Mark) where
  walk-value : Walk version mark (value_at version) Never
  unfolding value_at
  walk-value = Walk-branch_never (refl, refl) (λ _ _. Walk-bare) (Walk-give _)

  walk-parameter : Walk version mark (parameter_at version) Never
  unfolding parameter_at
  walk-parameter = Walk-branch_never (refl, refl) (λ _ _. Walk-skip skips_spaces (Local-span _) (λ _. Walk-bind Walk-key
      Local-key (λ k. Walk-bind walk-value (Local-value _) (λ v. Walk-give _) (λ v. stuck_give _)) (λ k. stuck_then _ _
      (stuck_value _) (λ v. stuck_give _)))) (Walk-give _)

  walk-parameters : Walk version mark (parameters_at version) Never
  unfolding parameters_at
  walk-parameters = Walk-many _ _ (Consumes-parameter _) (Local-parameter _) walk-parameter (stuck_parameters _)

  -- parameters, of which a value is made
  walk-last : {A : Type 0} (make : RawParameters → A)
      → Walk version mark (parameters_at version >>= λ ps. give (make ps)) Never
  walk-last make = Walk-bind walk-parameters (Local-parameters version) (λ ps. Walk-give _) (λ ps. stuck_give _)

  walk-item : Walk version mark (item_at version) (Only bare)
  unfolding item_at
  walk-item = Walk-bind Walk-bare (Local-bare _) (λ b. Walk-led _ (walk-last _)) (λ b. stuck_after _ _ (stuck_last _ _))

  walk-inner_item : Walk version mark (inner_item_at version) (Only bare)
  unfolding inner_item_at
  walk-inner_item = Walk-led _ walk-item

  -- a leaf that isn't a parenthesis
  no_bracket : (leaf : Leaf) → Only bare leaf → (c : ℕ) → blocked leaf c ≡ false
      → (eqb c left_parenthesis ≡ false) × (eqb c right_parenthesis ≡ false)
  no_bracket leaf is c free =
      let h : blocked bare c ≡ false = subst (λ (l : Leaf). blocked l c ≡ false) is free in
      (grind (arith, nat_tests), grind (arith, nat_tests))

  barred-another : (r : List ℕ)
      → IsFault (branch (byte right_parenthesis) (λ _. give None) (inner_item_at version >>= λ i. give (Some i))
      (left_parenthesis ∷ r))
  unfolding inner_item_at item_at bare_at token_at branch ahead fail bind led
  barred-another r = (_, refl)

  pub walk-next_item : Walk version mark (next_item_at version) Never
  unfolding next_item_at
  walk-next_item = Walk-branch_never (refl, refl) (λ _ _. Walk-skip skips_spaces (Local-span _) (λ _. Walk-branch
      {E' = Never} (refl, refl) (λ _ _. Walk-give _) (Walk-bind walk-inner_item (Local-inner_item _) (λ i. Walk-give _)
      (λ i. stuck_give _)) (λ leaf is. (λ c free. (no_bracket _ is _ free).1, λ r. barred-another _))))
      (Walk-branch_never {E' = Never} (refl, refl) (λ _ _. Walk-give _) (Walk-ahead _ (Walk-fail _ tt)
      (Walk-fail _ tt)))

  barred-items : (r : List ℕ) → IsFault (branch (byte right_parenthesis) (λ _. give [])
      (one_and_more inner_item_events (inner_item_at version) (next_item_at version)) (left_parenthesis ∷ r))
  unfolding inner_item_at item_at bare_at token_at branch ahead fail bind led
  barred-items r = (_, refl)

  met_end : Met {A = List RawItem} mark [] (fail UnterminatedInnerList []) → Other mark
  unfolding fail
  met_end m = met_fail (List RawItem) mark [] (at_reach UnterminatedInnerList []) tt m

  walk-items : Walk version mark (inner_items_at version) (Only bare)
  unfolding inner_items_at
  walk-items = Walk-any _ (Walk-skip skips_spaces (Local-span _) (λ _. Walk-branch {E' = Never} (refl, refl)
      (λ _ _. Walk-give _) (Walk-bind walk-inner_item (Local-inner_item _) (λ i. Walk-led _ (Walk-bind (Walk-many _ _
      (Consumes-next_item _) (Local-next_item _) walk-next_item (stuck_next_items _)) (Local-next_items _)
      (λ is. Walk-give _) (λ is. stuck_give _))) (λ i. stuck_after _ _ (stuck_then _ _ (stuck_next_items _)
      (λ is. stuck_give _)))) (λ leaf is. (λ c free. (no_bracket _ is _ free).1, λ r. barred-items _)))) met_end

  walk-inner : Walk version mark (inner_at version) (Only bare)
  unfolding inner_at
  walk-inner = Walk-bind walk-items (Local-items version) (λ is. Walk-led _ (walk-last (inner_of is)))
      (λ is. stuck_after _ _ (stuck_last version (inner_of is)))

  barred-member : (r : List ℕ) → IsFault (member_at version (left_parenthesis ∷ left_parenthesis ∷ r))
  unfolding member_at inner_at inner_items_at span inner_item_at item_at bare_at token_at branch ahead fail bind led
  barred-member r = (_, refl)

  walk-member : Walk version mark (member_at version) (Only bare)
  unfolding member_at
  walk-member = Walk-branch (refl, refl) (λ _ _. Walk-led _ walk-inner) (Walk-led _ (Walk-bind walk-item (Local-item _)
      (λ i. Walk-give _) (λ i. stuck_give _))) (λ leaf is. (λ c free. (no_bracket _ is _ free).0, λ r. barred-member _))

  walk-entry : Walk version mark (entry_at version) (Only bare)
  unfolding entry_at
  walk-entry = Walk-led _ walk-member

  walk-member_value : Walk version mark (member_value_at version) Never
  unfolding member_value_at
  walk-member_value = Walk-branch_never (refl, refl) (λ _ _. walk-member) (Walk-led _ (walk-last true_with))

  walk-keyed : Walk version mark (keyed_at version) (Only key)
  unfolding keyed_at
  walk-keyed = Walk-bind Walk-key Local-key (λ k. Walk-led _ (Walk-bind walk-member_value (Local-member_value _)
      (λ m. Walk-give _) (λ m. stuck_give _))) (λ k. stuck_after _ _ (stuck_then _ _ (stuck-member_value _)
      (λ m. stuck_give _)))

  -- ---- members

  module _ {A : Type 0} (P : A → List ℕ → Type 0) (parts : A → List TreeEvent) (one : Reader A)
      (reads : Reads one P (Goes P parts)) (l : Local one) (E : Leaf → Type 0) (h : Walk version mark one E) where
    walk-next : Walk version mark (next_at one) Never
    unfolding next_at
    walk-next = Walk-skip skips_blanks (Local-span _) (λ _. Walk-any _ (Walk-ahead _
        (Walk-skip_some skips_comma Local-comma comma_some (λ _. Walk-bind h l (λ m. Walk-give _) (λ m. stuck_give _)))
        (Walk-fail _ tt)) (λ m. met_nothing mark None m))

    walk-members : Walk version mark (members_at parts one) E
    unfolding members_at
    walk-members = Walk-skip skips_spaces (Local-span _) (λ _. Walk-any _ (Walk-bind h l (λ m. Walk-led _ (Walk-bind
        (Walk-many _ _ (Consumes-next _ _ _ reads) (Local-next P parts _ l) walk-next (stuck_next _ _)) (Local-many _ _
        (Consumes-next _ _ _ reads) (Local-next P parts _ l)) (λ ms. Walk-give _) (λ ms. stuck_give _))) (λ m.
        stuck_after _ _ (stuck_then _ _ (stuck_next _ _) (λ ms. stuck_give _)))) (λ m. met_nothing _ _ m))

  -- ---- fields

  pub walk-field : (kind : FieldKind) → Walk version mark (whole_field_at version kind) Ever
  unfolding whole_field_at
  walk-field item_field = Walk-weaker {E = Only bare} (λ _ _. tt) (Walk-skip skips_spaces (Local-span _)
      (λ _. Walk-bind walk-item (Local-item version) (λ i. Walk-skip skips_spaces (Local-span _) (λ _. Walk-give _))
      (λ i. stuck_then _ _ stuck_space (λ _. stuck_give _))))
  walk-field list_field = Walk-weaker (λ _ _. tt) (walk-members (IsMemberText version) entry_events (entry_at version)
      (Sound-entry version) (Local-entry version) (Only bare) walk-entry)
  walk-field dictionary_field = Walk-weaker (λ _ _. tt) (walk-members (IsDictionaryMemberText version) keyed_events
      (keyed_at version) (Sound-keyed version) (Local-keyed version) (Only key) walk-keyed)
