-- The builder of an item: after all events of a tree it has the ordered item.
use Rattle.std.proofs.Common.{◌≡◌, ℕ, List, [], ◌∷◌, ◌++◌, sym, ap, ◌∙◌, append_assoc, inl, inr, bytes_eq, IsTrue}
use Rattle.std.{proofs.Common.append-nil, specs.List.FoldsTo, specs.Prelude.⊤}
use Rattle.indexmap.specs.IndexMap.{insert_entry}
use Rattle.sfv_spec.{specs.Events.item_events, specs.Ordered.{collapse, ordered_item}, proofs.Collapse.collapse-push}
use Rattle.sfv_base.specs.declared.error.ParseError.TheVariants.{Visitor}
use Rattle.sfv_tree.specs.Builders.{MemberState, item_head, item_parameters, ended, member_step, item_state}
use Rattle.sfv_tree.specs.{Builders.{takes_memory, IsItemUnder}, Seeds.ItemHasSeed}
use Rattle.sfv_tree.proofs.Entered.{insert_entry-entered}
use Rattle.sfv.specs.Field.{TreeEvent, bare_item, parameter, parameters_end, parameters_events, IsParsedAs, BareValue}
use Rattle.sfv.specs.Field.{RawParameters, RawItem, item, item_tree, item_field, Version}
use Rattle.sfv.specs.Types.{HashSeed, ItemFault, Item, ItemBuilder}
use Rattle.sfv.proofs.{Relations.{Answers, FailsIn, HasVisitorError, item_failed}, built.Seeded.answer_seeded}
use Rattle.sfv_tree.specs.declared.visitor.ItemFault.TheVariants as faults

-- what the builder does with an event, and with the end
abbrev Steps : ItemBuilder → TreeEvent → ItemBuilder → Type 0
Steps s e after = (item_state after ≡ member_step (item_state s) e)
    × ((seed : HashSeed) → IsItemUnder seed s → IsItemUnder seed after)

abbrev Ends : ItemBuilder → Item → Type 0
Ends s out = (item_state s ≡ ended (item (item_tree out)))
    × ((seed : HashSeed) → IsItemUnder seed s → ItemHasSeed seed out)

abbrev Fails : ItemBuilder → TreeEvent → ItemFault → Type 0
Fails s e fault = (fault ≡ faults.OutOfMemory) × IsTrue (takes_memory (item_state s) e)

abbrev EndFails : ItemBuilder → ItemFault → Type 0
EndFails s fault = (fault ≡ faults.NoItem) × ((i : RawItem) → ¬ (item_state s ≡ ended (item i)))

abbrev pub with_bare : BareValue → RawParameters → RawItem
with_bare b ps = record { bare = b; parameters = ps }

parameters_built : (ps front : RawParameters) (b : BareValue) (s last : ItemBuilder)
    → item_state s ≡ item_parameters (with_bare b (collapse front)) → FoldsTo Steps s (parameters_events ps) last
    → item_state last ≡ ended (item (with_bare b (collapse (front ++ ps))))
parameters_built [] front b s last here run =
    ap item_state (sym run.2) ∙ run.1.0 ∙ ap (λ (p : MemberState). member_step p parameters_end) here
    ∙ ap (λ (ps : RawParameters). ended (item (with_bare b (collapse ps)))) (sym (append-nil front))
parameters_built (p ∷ ps) front b s last here run =
    let more : insert_entry bytes_eq (collapse front) p.0 p.1 ≡ collapse (front ++ p ∷ []) =
    insert_entry-entered (collapse front) p.0 p.1 ∙ sym (collapse-push front p.0 p.1) in
    let next : item_state run.0 ≡ item_parameters (with_bare b (collapse (front ++ p ∷ []))) = run.1.0
    ∙ ap (λ (q : MemberState). member_step q (parameter p.0 p.1)) here
    ∙ ap (λ (qs : RawParameters). item_parameters (with_bare b qs)) more in
    parameters_built ps (front ++ p ∷ []) b run.0 last next run.2
    ∙ ap (λ (qs : RawParameters). ended (item (with_bare b (collapse qs)))) (append_assoc front (p ∷ []) ps)

item_built : (raw : RawItem) (s last : ItemBuilder) → item_state s ≡ item_head → FoldsTo Steps s (item_events raw) last
    → item_state last ≡ ended (item (ordered_item raw))
unfolding collapse
item_built raw s last here run =
    let next : item_state run.0 ≡ item_parameters (with_bare raw.bare (collapse [])) = run.1.0
    ∙ ap (λ (p : MemberState). member_step p (bare_item raw.bare)) here in
    parameters_built raw.parameters [] raw.bare run.0 last next run.2

item_at_end : (i j : RawItem) → ended (item i) ≡ ended (item j) → i ≡ j
item_at_end i j e = cc

-- what was built is the ordered item of the only tree
pub built : (version : Version) (t : List ℕ) (from : ItemBuilder) (item : Item) → item_state from ≡ item_head
    → Answers Steps Ends version item_field t from item → IsParsedAs version item_field t (item_tree item)
built version t from made here h =
    let whole = item_built _ _ h.holds.0 here h.holds.1 in
    record { raw = h.raw; accepted = h.accepted; only = h.only; holds = item_at_end _ _ (sym h.holds.2.0 ∙ whole) }

-- the builder's error is want of memory: no event fails otherwise, and after all events of an item there is one
pub built_fails : (version : Version) (t : List ℕ) (from : ItemBuilder) (fault : ItemFault) → item_state from ≡ item_head
    → HasVisitorError Steps Fails EndFails version item_field t from (Visitor fault) → fault ≡ faults.OutOfMemory
built_fails version t from fault here h =
    let some = item_failed Steps Fails EndFails version t from fault h in
    on some.0 some.2
  where
    on : (raw : RawItem) → FailsIn Steps Fails EndFails from (item_events raw) ⊤ fault → fault ≡ faults.OutOfMemory
    on raw (inl h) = h.6.0
    on raw (inr h) = absurd (h.3.1 (ordered_item raw) (item_built raw from h.1 here h.2))

-- what was built is under the builder's seed
pub item_seeded : (version : Version) (t : List ℕ) (from : ItemBuilder) (item : Item) (seed : HashSeed)
    → IsItemUnder seed from → Answers Steps Ends version item_field t from item → ItemHasSeed seed item
item_seeded version t from made seed start h = answer_seeded IsItemUnder Steps Ends ItemHasSeed
    (λ s e t k. k.1) (λ s out k. k.1) version item_field t from made seed start h
