-- What a visitor has done with the events of a field, for callers.
use Rattle.std.proofs.Common.{◌≡◌, suc, List, [], ◌∷◌, ◌++◌, length, refl, sym, ap, ◌∙◌, ℕ, Option, Some, None, fold}
use Rattle.std.proofs.Common.{filter_map, flat_map}
use Rattle.std.{specs.List.{FoldsTo, AllByRecursion}, specs.Prelude.⊤, proofs.lemmas.List.Elements.filter_map-append}
use Rattle.sfv_spec.specs.Events.{TreeEvent, entry, keyed_entry, inner_list_end, parameters_events, inner_item_events}
use Rattle.sfv_spec.specs.{Events.{member_events, events}, Values.{RawParameters, RawMember, item, inner_list}}
use Rattle.sfv_spec.specs.declared.field_kind.FieldKind.TheVariants.{List as list_field, Dictionary as dictionary_field}
use Rattle.sfv_spec.proofs.{Each.{each, each_append, each_flat_map}, Marks.keys}

-- where each event is a step of the place, a run is all steps
pub runs_fold : {S P : Type 0} (place : S → P) (step : P → TreeEvent → P) (es : List TreeEvent) (s last : S)
    → FoldsTo (λ s e after. place after ≡ step (place s) e) s es last → place last ≡ fold step (place s) es
runs_fold place step [] s last h = ap place (sym h)
runs_fold {S} {P} place step (e ∷ es) s last h = runs_fold place step es h.0 last h.2
    ∙ ap (λ (p : P). fold step p es) h.1

-- an event within a member
abbrev pub IsInside : TreeEvent → Type 0
IsInside entry = ⊥
IsInside (keyed_entry key) = ⊥
IsInside e = ⊤

-- the key that leads a member
abbrev pub key_in : TreeEvent → Option (List ℕ)
key_in (keyed_entry key) = Some key
key_in e = None

-- the place that leads a member of a list
abbrev pub entry_in : TreeEvent → Option (Unit {0})
entry_in entry = Some tt
entry_in e = None

-- all events of a member but the one that leads it are such
parameters_inside : (ps : RawParameters) → AllByRecursion IsInside (parameters_events ps)
parameters_inside [] = (tt, tt)
parameters_inside (p ∷ ps) = (tt, parameters_inside ps)

pub member_inside : (m : RawMember) → AllByRecursion IsInside (member_events m)
member_inside (item i) = (tt, (tt, parameters_inside i.parameters))
member_inside (inner_list l) = (
  tt,
  each_append IsInside (flat_map inner_item_events l.items) (inner_list_end ∷ parameters_events l.parameters)
      (each_flat_map IsInside inner_item_events l.items
      (each (λ i. (tt, (tt, parameters_inside i.parameters))) l.items)) (tt, parameters_inside l.parameters),
)

-- what leads a member is given by no event within one
none_within : {A : Type 0} (lead : TreeEvent → Option A) → ((e : TreeEvent) → IsInside e → lead e ≡ None)
    → (es : List TreeEvent) → AllByRecursion IsInside es → filter_map lead es ≡ []
none_within lead none [] h = refl
none_within lead none (e ∷ es) h = rw (none e h.0) (none_within lead none es h.1)

neither_inside : (e : TreeEvent) → IsInside e → (key_in e ≡ None) × (entry_in e ≡ None)
neither_inside entry h = absurd h
neither_inside (keyed_entry key) h = absurd h
neither_inside e h = (refl, refl)

-- the keys that are visited of a dictionary are its keys, a repeated one each time
pub keys_in_events : (ms : List (List ℕ × RawMember)) → filter_map key_in (events dictionary_field ms) ≡ keys ms
keys_in_events [] = refl
keys_in_events (m ∷ ms) = ap (λ (ks : List (List ℕ)). m.0 ∷ ks)
    (filter_map-append key_in (member_events m.1) (events dictionary_field ms)
    ∙ rw (
      none_within key_in (λ e h. (neither_inside e h).0) (member_events m.1)
          (member_inside m.1),
      keys_in_events ms,
    ) refl)

-- the entries that are visited of a list are as many as its members
pub entries_in_events : (ms : List RawMember) → length (filter_map entry_in (events list_field ms)) ≡ length ms
entries_in_events [] = refl
entries_in_events (m ∷ ms) =
    let rest : filter_map entry_in (member_events m ++ events list_field ms)
    ≡ filter_map entry_in (events list_field ms) =
    filter_map-append entry_in (member_events m) (events list_field ms)
    ∙ rw (none_within entry_in (λ e h. (neither_inside e h).1) (member_events m) (member_inside m)) refl in
    rw rest (ap suc (entries_in_events ms))
