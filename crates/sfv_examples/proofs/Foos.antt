-- The visitor of the example finds what the ordered dictionary holds.
use Rattle.std.proofs.Common.{cond, refl, ap, ◌∙◌, inl, inr, ◌≡◌, ℕ, List, Bool, true, false, Option, Some, None}
use Rattle.std.proofs.{Common.{Result, Ok, Err, bytes_eq, fold, if◌then◌else◌}, lemmas.Bool.cases_Bool}
use Rattle.sfv.specs.Field.{RawParameters, RawMember, item, inner_list, dictionary_field, last_of, ordered}
use Rattle.sfv.specs.Field.{ordered_member, events, member_events, keyed_events}
use Rattle.sfv.proofs.Callers.{of_pushed, parameters_kept, last_of-collapse, IsIdle, idle_by, member_passed}
use Rattle.sfv.proofs.Callers.{inner_list_passed, member_looked}
use Rattle.sfv_examples.specs.Foo.{color_key, strong_key, color_in, strong_in, strong_of, foo_of, foo_in, foo}
use Rattle.sfv_examples.specs.FooSteps.{unread, begun, foo_step, foo_found}
use Rattle.sfv_examples.specs.declared.foo.{Color.Color, FooFault.FooFault, FooVisitor.FooVisitor}
use Rattle.sfv_examples.specs.declared.foo.FooFault.TheVariants as faults

-- what a member of the color gives, if there is one
abbrev Kept : Type 0
Kept = Result Color FooFault × Result Bool FooFault

abbrev kept : FooVisitor → Kept
kept s = (s.color, s.strong)

abbrev kept_of : Option RawMember → Kept
kept_of None = (Err faults.ColorMissing, Ok false)
kept_of (Some (item i)) = (color_in i.bare, strong_of (last_of strong_key i.parameters))
kept_of (Some (inner_list l)) = (Err faults.ColorWrongType, Ok false)

kept_ordered : (m : RawMember) → kept_of (Some (ordered_member m)) ≡ kept_of (Some m)
kept_ordered (item i) = rw (last_of-collapse strong_key i.parameters) refl
kept_ordered (inner_list l) = refl

-- the state after these parameters of the color's item
abbrev after : Result Color FooFault → RawParameters → FooVisitor
after color ps = record { in_color = true; color = color; strong = strong_of (last_of strong_key ps) }

-- outside of that item no part of a member is looked at
idle : (color : Result Color FooFault) (strong : Result Bool FooFault)
    → IsIdle foo_step (record { in_color = false; color = color; strong = strong })
idle color strong = idle_by foo_step refl refl (λ b. refl) (λ k b. refl) refl refl

-- a parameter sets it if it is one of the key
abbrev with : Result Color FooFault → Result Bool FooFault → FooVisitor
with color strong = record { in_color = true; color = color; strong = strong }

by_key : (c : Result Color FooFault) (new old : Result Bool FooFault) (b : Bool) {x : Result Bool FooFault}
    → x ≡ cond b new old → (if b then with c new else with c old) ≡ with c x
by_key c new old true h = rw h refl
by_key c new old false h = rw h refl

-- what a member of the color keeps, in place of what stood there
own : (s : FooVisitor) (m : RawMember) → kept (fold foo_step (begun s true) (member_events m)) ≡ kept_of (Some m)
unfolding last_of
own s (item i) = ap kept (parameters_kept foo_step (after (color_in i.bare)) (λ ps k v. by_key (color_in i.bare)
    (strong_in v) (strong_of (last_of strong_key ps)) (bytes_eq strong_key k) (of_pushed strong_of strong_key ps k v)) i.parameters)
own s (inner_list l) = ap kept (inner_list_passed foo_step (begun s true)
    (record { in_color = false; color = Err faults.ColorWrongType; strong = Ok false }) l refl (idle _ _))

member_set : (s : FooVisitor) (k : List ℕ) (m : RawMember)
    → kept (fold foo_step s (keyed_events (k, m))) ≡ cond (bytes_eq color_key k) (kept_of (Some m)) (kept s)
member_set s k m = elim (cases_Bool (bytes_eq color_key k)) [
  | inl y ↦ ap begins y ∙ own s m ∙ rw y refl
  | inr n ↦ ap begins n ∙ ap kept (member_passed foo_step (begun s false) (idle _ _) m) ∙ rw n refl
]
  where
    begins : Bool → Kept
    begins b = kept (fold foo_step (begun s b) (member_events m))

found : (o : Option RawMember) → foo_of (kept_of o).0 (kept_of o).1 ≡ foo_in o
found None = refl
found (Some (item i)) = refl
found (Some (inner_list l)) = refl

-- what is found after all members is the field in the ordered dictionary
pub all_found : (raw : List (List ℕ × RawMember))
    → foo_found (fold foo_step unread (events dictionary_field raw)) ≡ foo (ordered dictionary_field raw)
all_found raw = ap (λ (k : Kept). foo_of k.0 k.1)
    (member_looked foo_step kept color_key kept_of kept_ordered member_set raw unread refl)
    ∙ found (last_of color_key (ordered dictionary_field raw))
