-- From the events of a field to what a visitor keeps of it: member by member, and in the end the last member of a key in
-- the ordered dictionary. Callers cite these lemmas by `Callers`.
use Rattle.std.proofs.Common.{◌≡◌, ℕ, List, [], ◌∷◌, ◌++◌, false, Option, Some, None, Result, Ok, Err, refl, sym, ap}
use Rattle.std.proofs.Common.{◌∙◌, bytes_eq, fold, flat_map, option_map, unwrap_or, OnOk}
use Rattle.std.proofs.lemmas.List.Sums.{fold-append}
use Rattle.sfv_spec.specs.{Events.inner_item_events, Values.bare_values}
use Rattle.sfv_spec.proofs.{Fields.all_fit_newer, Kept.{last_kept, fold_members, idle_within}, Last.last_of-ordered}
use Rattle.sfv_spec.proofs.Runs.{IsInside, member_inside}
use Rattle.sfv_writer.proofs.ReadBack.{value_read_back}
use Rattle.sfv.specs.Field.{RawField, RawItem, RawInnerList, RawMember, item, inner_list, Fits, FieldKind, list_field}
use Rattle.sfv.specs.Field.{dictionary_field, Version, Rfc8941, Rfc9651, canonical, IsParsedAs, IsValue, TreeEvent}
use Rattle.sfv.specs.Field.{begins_item, begins_inner_list, bare_item, inner_list_end, parameters_events, member_events}
use Rattle.sfv.specs.Field.{entry_events, keyed_events, events, last_of, ordered, ordered_member}

-- what holds in any case holds on success
pub on_ok : {A E : Type 0} (r : Result A E) (P : Type 0) → P → OnOk r P
on_ok (Ok value) P h = h
on_ok (Err e) P h = tt

-- a value that RFC 8941 has is read back by both versions
pub read_back_either : (version : Version) (kind : FieldKind) (value : RawField kind) → IsValue kind value
    → Fits Rfc8941 kind value → IsParsedAs version kind (canonical kind value) value
read_back_either Rfc8941 kind value h fits = value_read_back Rfc8941 kind value h fits
read_back_either Rfc9651 kind value h fits = value_read_back Rfc9651 kind value h (all_fit_newer (bare_values kind value))

module _ {S : Type 0} (step : S → TreeEvent → S) where
  -- a fold over the events of a list goes member by member
  pub fold_entries : (raw : List RawMember) (s : S)
      → fold step s (events list_field raw) ≡ fold (λ s m. fold step s (entry_events m)) s raw
  fold_entries [] s = refl
  fold_entries (m ∷ raw) s = fold-append step s (entry_events m) (events list_field raw)
      ∙ fold_entries raw (fold step s (entry_events m))

  -- no event within a member changes the state
  abbrev pub IsIdle : S → Type 0
  IsIdle s = (e : TreeEvent) → IsInside e → step s e ≡ s

  -- such a state stays over a member; that to which an item's bare item leads, over the rest of the item; and that to which
  -- the beginning of an inner list leads, over the rest of it
  pub member_passed : (s : S) → IsIdle s → (m : RawMember) → fold step s (member_events m) ≡ s
  member_passed s idle m = idle_within step s idle (member_events m) (member_inside m)

  pub item_passed : (s after : S) (i : RawItem) → step (step s begins_item) (bare_item i.bare) ≡ after → IsIdle after
      → fold step s (member_events (item i)) ≡ after
  item_passed s after i set idle = ap (λ (s : S). fold step s (parameters_events i.parameters)) set
      ∙ idle_within step after idle (parameters_events i.parameters) (member_inside (item i)).1.1

  pub inner_list_passed : (s after : S) (l : RawInnerList) → step s begins_inner_list ≡ after → IsIdle after
      → fold step s (member_events (inner_list l)) ≡ after
  inner_list_passed s after l set idle =
      let rest = flat_map inner_item_events l.items ++ inner_list_end ∷ parameters_events l.parameters in
      ap (λ (s : S). fold step s rest) set ∙ idle_within step after idle rest (member_inside (inner_list l)).1

  -- What each member of a key sets, and those of other keys leave alone, is in the end what the last member of the key
  -- in the ordered dictionary sets.
  pub last_read : {X : Type 0} (look : S → X) (key : List ℕ) (of : RawMember → X)
      → ((m : RawMember) → of (ordered_member m) ≡ of m)
      → ((s : S) (k : List ℕ) (m : RawMember) → bytes_eq key k ≡ false
      → look (fold step s (keyed_events (k, m))) ≡ look s)
      → ((s : S) (m : RawMember) → look (fold step s (keyed_events (key, m))) ≡ of m)
      → (raw : List (List ℕ × RawMember)) (s : S) → look (fold step s (events dictionary_field raw))
      ≡ unwrap_or (option_map of (last_of key (ordered dictionary_field raw))) (look s)
  last_read look key of same other own raw s = ap look (fold_members step raw s) ∙ (last_kept (λ _. Unit {0})
      (λ s m. fold step s (keyed_events m)) _ _ _ (λ s k m h n. (other s k m n, tt)) (λ s m h. (own s m, tt)) _ _ tt).0
      ∙ sym (in_order (last_of key raw)) ∙ ap (λ o. unwrap_or (option_map of o) (look s)) (sym (last_of-ordered _ _))
    where
      in_order : (o : Option RawMember)
          → unwrap_or (option_map of (option_map ordered_member o)) (look s) ≡ unwrap_or (option_map of o) (look s)
      in_order None = refl
      in_order (Some m) = same m
