-- What a visitor was told of the bare item that stands first in the text of an item.
use Rattle.std.proofs.Common.{◌≡◌, ℕ, List, [], ◌∷◌, ◌++◌, Result, Ok, Err, refl, sym, ap, subst, ◌∙◌, inl, inr}
use Rattle.std.{proofs.Common.{append_assoc, eqb, IfErr, append-nil}, specs.Prelude.⊤, proofs.lemmas.Bool.cases_Bool}
use Rattle.sfv_spec.specs.{Events.item_events, Grammar.{IsBareText, IsEnded, BeginsWithLongest}, Texts.{RunOf, ◌⨾◌}}
use Rattle.sfv_spec.proofs.Marks.{semicolon, is_space}
use Rattle.sfv_model.specs.{Bare.bare_at, Fields.whole_field_at, Items.{parameters_at, item_at}, Judgements.Reached}
use Rattle.sfv_model.specs.Reader.{Answer, Fault, bind, give, led, visited}
use Rattle.sfv_model.proofs.FirstBareItem.{BeginsWithComplete, first_bare, longest_read, complete_is_longest}
use Rattle.sfv_model.proofs.{LongestBareItem.bare_is_exact, sound.Bare.{BareGoes, Sound-bare}}
use Rattle.sfv_model.proofs.{sound.Combinators.{Somewhere, IsSpan, Steady-span}, visits.Fields.visited_begins}
use Rattle.sfv_base.specs.declared.error.ParseError.{ParseError, TheVariants.{Syntax, Visitor}}
use Rattle.sfv_tree.specs.declared.visitor.Visitor.{Ghosts}
use Rattle.sfv.specs.Field.{BareValue, RawItem, RawParameters, item_field, Version, IsFieldText, TreeEvent, bare_item}
use Rattle.sfv.specs.Field.{parameters_end, parameters_events, events}
use Rattle.sfv.specs.Parsers.{version_of, input_of, Takes, AreBefore, ReceivesUpTo, ReceivesBeforeErrorBy}
use Rattle.sfv.specs.{Parsers.{ReceivesFirstBy, at_end}, declared.parser.Parser.Parser, parser.AsRead.VisitsFieldAsRead}
use Rattle.sfv.proofs.Relations.{HasFirst, fails_in}
use Rattle.sfv.proofs.visits.{Failed.{run_of, fails_on}, Fields.{whole_visited, whole_accepted}}

pub same_rest : {A : Type 0} (a : Answer A) (v w : A) (q r : List ℕ) → a ≡ Ok (v, q) → a ≡ Ok (w, r) → q ≡ r
same_rest {A} a v w q r e h =
    let here : A × List ℕ = (v, q) in
    let there : A × List ℕ = (w, r) in
    let both : Result (A × List ℕ) Fault = Ok here in
    let same : both ≡ Ok there = sym e ∙ h in
    let parts : here ≡ there = cc in
    ap (λ (p : A × List ℕ). p.1) parts

-- the item begins with it
item_begins : (version : Version) (t q : List ℕ) (value : BareValue) → bare_at version t ≡ Ok (value, q)
    → (more : List TreeEvent) × (visited item_events (item_at version t) ≡ bare_item value ∷ more)
unfolding item_at led bind give
item_begins version t q value read = on (parameters_at version q) refl
  where
    on : (a : Answer RawParameters) → parameters_at version q ≡ a
        → (more : List TreeEvent) × (visited item_events (item_at version t) ≡ bare_item value ∷ more)
    on (Ok x) e = (parameters_events x.0, rw (read, e) refl)
    on (Err f) e = (f.events, rw (read, e) refl)

same_head : (a b : BareValue) (xs ys : List TreeEvent) → bare_item a ∷ xs ≡ bare_item b ∷ ys → a ≡ b
same_head a b xs ys h = cc

-- the field begins with it
field_begins : (version : Version) (value : BareValue) (t : List ℕ) → BeginsWithComplete version value t
    → (more : List TreeEvent) × (visited (events item_field) (whole_field_at version item_field t)
    ≡ bare_item value ∷ more)
field_begins version value t h =
    let read = first_bare version value t h in
    let begun = item_begins version h.back h.second.back value read.1 in
    (begun.0, whole_visited version t h.front h.back read.0 ∙ begun.1)

same_event : (e f : TreeEvent) (xs ys : List TreeEvent) → e ∷ xs ≡ f ∷ ys → e ≡ f
same_event e f xs ys h = cc

-- nothing is visited of an item without a bare item
item_is_quiet : (version : Version) (r : List ℕ) (f : Fault) → bare_at version r ≡ Err f
    → visited item_events (item_at version r) ≡ []
unfolding item_at bind
item_is_quiet version r f e =
    let reached = subst (Reached (IsBareText version) (BareGoes version) (Somewhere (BareGoes version)) r) e
    ((Sound-bare version).sound r) in
    let quiet : f.events ≡ [] = elim (cases_Bool f.exact) [ inl x ↦ (reached.0 x).holds.2 | inr x ↦ (reached.1 x).0.1.2 ] in
    rw e quiet

-- what is visited first of an item's text is a bare item that stands first in it
pub visited_first : (version : Version) (t : List ℕ) (e : TreeEvent) (es : List TreeEvent)
    → visited (events item_field) (whole_field_at version item_field t) ≡ e ∷ es
    → (value : BareValue) × (e ≡ bare_item value) × BeginsWithLongest version value t
visited_first version t e es h =
    let skipped = (Steady-span is_space).steady t in
    on skipped.0 skipped.1 skipped.2 skipped.4 skipped.5
    (sym (whole_visited version t skipped.1 skipped.2 skipped.3) ∙ h) (bare_at version skipped.2) refl
  where
    on : (s spaces r : List ℕ) → t ≡ s ++ r → IsSpan is_space spaces s
        → visited item_events (item_at version r) ≡ e ∷ es → (a : Answer BareValue) → bare_at version r ≡ a
        → (value : BareValue) × (e ≡ bare_item value) × BeginsWithLongest version value t
    on s spaces r parts blank begins (Ok x) k =
        let begun = item_begins version r x.1 x.0 k in
        let read = bare_is_exact.0 version r x.0 x.1 k in (
          x.0,
          same_event e (bare_item x.0) es begun.0 (sym begins ∙ begun.1),
          record {
            spaces = s;
            front = read.front;
            rest = x.1;
            text = parts ∙ ap (λ (l : List ℕ). s ++ l) read.text ∙ sym (append_assoc s read.front x.1);
            blank = subst (RunOf is_space) (sym blank.0) blank.1;
            means = read.means;
            longest = longest_read version r x.0 x.1 read;
          },
        )
    on s spaces r parts blank begins (Err f) k = absurd (let none = sym (item_is_quiet version r f k) ∙ begins in cc)

-- an item that is accepted has this bare item
pub begins_with_its : (version : Version) (value : BareValue) (t : List ℕ) (raw : RawItem)
    → IsFieldText version item_field raw t → BeginsWithComplete version value t → raw.bare ≡ value
begins_with_its version value t raw accepted h =
    let begun = field_begins version value t h in
    same_head raw.bare value (parameters_events raw.parameters) begun.0
    (ap (visited (events item_field)) (sym (whole_accepted version item_field t raw accepted)) ∙ begun.1)

-- of events that aren't none there is a first
first_of : (before : List TreeEvent) (e : TreeEvent) (after : List TreeEvent)
    → (first : TreeEvent) × (more : List TreeEvent) × (before ++ e ∷ after ≡ first ∷ more)
first_of [] e after = (e, after, refl)
first_of (b ∷ before) e after = (b, before ++ e ∷ after, refl)

module _ {S O E : Type 0} (v : Ghosts S O E) (p : Parser) (from : S) where
  abbrev version : Version
  version = version_of p

  abbrev t : List ℕ
  t = input_of p

  abbrev Visits : Result O (ParseError E) → Type 0
  Visits r = VisitsFieldAsRead v p item_field from r

  -- the bare item of an item whose events begin with those that were visited
  its_bare : (raw : RawItem) (e : TreeEvent) (es more : List TreeEvent)
      → visited (events item_field) (whole_field_at version item_field t) ≡ e ∷ es → item_events raw ≡ (e ∷ es) ++ more
      → BeginsWithLongest version raw.bare t
  its_bare raw e es more begins all =
      let first = visited_first _ _ _ _ begins in
      let same : raw.bare ≡ first.0 = same_head _ _ _ _ (all ∙ ap (λ (e : TreeEvent). e ∷ (es ++ more)) first.1) in
      subst (λ (b : BareValue). BeginsWithLongest version b t) (sym same) first.2

  failed_first : (f : E) → Visits (Err (Visitor f)) → ReceivesFirstBy v p from (Visitor f)
  failed_first f (inl r) =
      let some = visited_begins version item_field t in
      let all : item_events some.raw ≡ (r.before ++ r.e ∷ r.after) ++ some.more =
      some.all ∙ ap (λ (l : List TreeEvent). l ++ some.more) r.all in
      let split = first_of r.before r.e r.after in
      let bare = its_bare _ _ _ _ (r.all ∙ split.2)
      (all ∙ ap (λ (l : List TreeEvent). l ++ some.more) split.2) in (
        some.raw,
        bare,
        fails_on _ _ item_field _ _ _ _ _ r (all ∙ append_assoc r.before (r.e ∷ r.after) some.more),
      )
  failed_first f (inr x) =
      let events_of = parameters_events x.0.parameters in
      let bare = its_bare x.0 (bare_item x.0.bare) events_of [] (ap (visited (events item_field)) x.3)
      (sym (append-nil (bare_item x.0.bare ∷ events_of))) in
      (x.0, bare, at_end x.2.0 tt (run_of v version (item_events x.0) (from, t) x.2 x.4) x.5)

  pub visits_first : (r : Result O (ParseError E)) → Visits r → IfErr r (ReceivesFirstBy v p from)
  visits_first (Ok out) h = tt
  visits_first (Err (Syntax e)) h = tt
  visits_first (Err (Visitor f)) h = failed_first f h

  -- A complete first bare item is received before a syntax error.
  taken_first : ReceivesUpTo v p item_field from → (value : BareValue) → BeginsWithComplete version value t
      → (s : S) × v.takes from (bare_item value) s
  taken_first h value begins = on k.back k.second refl
    where
      k : (IsBareText version value ⨾ IsEnded) begins.back
      k = begins.second

      raw : RawItem
      raw = record { bare = value; parameters = [] }

      from_start : (more : List TreeEvent) → Takes v from (bare_item value ∷ more) → (s : S) × v.takes from (bare_item value) s
      from_start more taken = (taken.1.0, taken.1.1)

      field : IsFieldText version item_field raw (begins.front ++ k.front)
      field = record {
        front = begins.front;
        back = k.front;
        text = refl;
        first = begins.first;
        second = record {
          front = k.front;
          back = [];
          text = sym (append-nil k.front);
          first = record {
            front = k.front;
            back = [];
            text = sym (append-nil k.front);
            first = k.first;
            second = record { pieces = []; text = refl; each = tt };
          };
          second = refl;
        };
      }

      whole : (first : List TreeEvent) → AreBefore (item_events raw) first k.back → Takes v from first
      whole first b = h.whole (item_events raw) first (record {
        front = begins.front ++ k.front;
        back = k.back;
        text = begins.text ∙ ap (λ (l : List ℕ). begins.front ++ l) k.text ∙ sym (append_assoc begins.front k.front k.back);
        first = (raw, inl (field, refl));
        second = b;
      })

      on : (q : List ℕ) → IsEnded q → k.back ≡ q → (s : S) × v.takes from (bare_item value) s
      on [] ended same = from_start (parameters_end ∷ []) (whole (bare_item value ∷ parameters_end ∷ []) (rw same (tt, refl)))
      on (c ∷ q) ended same = elim (cases_Bool (eqb c semicolon)) [
        | inl e ↦ from_start [] (whole (bare_item value ∷ []) (rw (same, e) (ended, refl)))
        | inr e ↦ from_start (parameters_end ∷ []) (whole (bare_item value ∷ parameters_end ∷ [])
            (rw (same, e) (ended, refl)))
      ]

  -- the clauses for the relations of the visitor
  pub has_first : (r : Result O (ParseError E)) → IfErr r (ReceivesBeforeErrorBy v p item_field from)
      → IfErr r (ReceivesFirstBy v p from) → IfErr r (HasFirst v.takes v.fails v.finish_fails version t from)
  has_first (Ok out) h k = tt
  has_first (Err (Syntax e)) (inl same) k = inl same
  has_first (Err (Syntax e)) (inr h) k = inr (taken_first h)
  has_first (Err (Visitor f)) h k = (
    k.0,
    k.1,
    λ value begins. complete_is_longest version value k.0.bare t begins k.1,
    fails_in v p from (item_events k.0) ⊤ f k.2,
  )
